pub mod Meaning
pub mod Marks
pub mod Levels
pub mod Muting
