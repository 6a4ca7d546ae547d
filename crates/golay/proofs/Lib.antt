pub mod Linear
pub mod Weights
pub mod Unique
pub mod Checks
pub mod Turned
pub mod Values
