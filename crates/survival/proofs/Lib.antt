pub mod Cases
pub mod Apart
pub mod Flips
pub mod Levels
pub mod Recovering
