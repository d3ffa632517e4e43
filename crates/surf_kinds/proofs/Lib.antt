pub mod Fractions
pub mod Order
pub mod Tables
pub mod Rising
pub mod Steps
