pub mod Crc
pub mod Whitening
pub mod Interleaving
pub mod Convolution
