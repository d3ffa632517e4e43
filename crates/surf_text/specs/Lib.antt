pub mod Lines
pub mod Cuts
pub mod Numbers
pub mod Decimals
pub mod Grammar
pub mod Passing
