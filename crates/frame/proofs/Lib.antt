pub mod Laying
pub mod Turns
pub mod Words
pub mod Standing
pub mod Known
