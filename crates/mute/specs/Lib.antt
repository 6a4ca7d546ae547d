pub mod Mutes
