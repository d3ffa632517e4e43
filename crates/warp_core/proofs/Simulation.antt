pub mod Local
pub mod Instance
