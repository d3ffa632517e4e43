pub mod Order
pub mod Orders
pub mod Firsts
pub mod Leaves
pub mod Halves
pub mod Leasts
