pub mod Distance
pub mod Damage
pub mod Survival
