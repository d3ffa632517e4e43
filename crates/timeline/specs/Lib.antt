pub mod TimelineView
pub mod Led
