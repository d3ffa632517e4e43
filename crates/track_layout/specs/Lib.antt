pub mod Spans
pub mod Tracks
pub mod Free
pub mod Sweep
pub mod Crowd
pub mod Turns
pub mod Compact
