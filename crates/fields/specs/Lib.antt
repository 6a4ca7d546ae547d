pub mod Fields
pub mod Numbers
pub mod Settings
pub mod Received
