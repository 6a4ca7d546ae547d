pub mod Filling
pub mod Going
pub mod Keeping
pub mod Turning
