pub mod Balances
pub mod Crews
pub mod Calls
pub mod Rounds
pub mod Rings
pub mod Reports
