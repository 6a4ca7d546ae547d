pub mod Entries
pub mod Lists
pub mod Lines
pub mod Texts
