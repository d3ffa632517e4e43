pub mod Nets
pub mod Table
pub mod Placed
pub mod Layout
pub mod Within
