pub mod Words
pub mod Search
pub mod Steps
pub mod Sizes
pub mod Answers
