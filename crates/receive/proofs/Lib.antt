pub mod Groups
pub mod Sixes
pub mod Fours
pub mod Propers
pub mod Returning
pub mod Hearing
