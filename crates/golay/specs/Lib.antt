pub mod Golay
pub mod Nearest
pub mod Values
