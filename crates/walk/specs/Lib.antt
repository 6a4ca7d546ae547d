pub mod Sync
pub mod Walks
pub mod Frames
