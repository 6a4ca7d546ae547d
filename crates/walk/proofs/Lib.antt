pub mod Starting
pub mod Stepping
pub mod Running
