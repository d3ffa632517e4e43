pub mod SurfaceView
pub mod Columns
pub mod Changes
