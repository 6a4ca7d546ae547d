pub mod Chunks
pub mod Numbers
pub mod Sums
pub mod Divides
pub mod Packing
