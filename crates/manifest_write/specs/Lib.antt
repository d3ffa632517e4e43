pub mod Canon
pub mod Made
