mod Ways
pub mod States
pub mod Optimal
pub mod Decisions
pub mod Holding
pub mod Butterflies
pub mod Tracing
pub mod Hearing
pub mod Answering
pub mod Finding
