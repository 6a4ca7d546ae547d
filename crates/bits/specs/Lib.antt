pub mod Bits
pub mod Dibits
pub mod Division
