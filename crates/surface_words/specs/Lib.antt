pub mod Commands
pub mod Accepted
pub mod FirstWrong
pub mod Reading
pub mod Given
