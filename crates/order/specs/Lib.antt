pub mod Causes
pub mod Changes
pub mod Decimals
pub mod Keys
pub mod Lines
pub mod Orders
