pub mod Whites
pub mod Checks
pub mod Coder
