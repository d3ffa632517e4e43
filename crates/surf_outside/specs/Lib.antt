pub mod Causes
pub mod Known
pub mod Parts
pub mod Puts
pub mod MemSource
pub mod MemSink
pub mod StdSource
pub mod StdSink
