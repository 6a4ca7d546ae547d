pub mod Merging
pub mod Spelling
