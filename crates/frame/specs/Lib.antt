pub mod Coding
pub mod Header
pub mod Known
