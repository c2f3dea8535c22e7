pub mod Openings
pub mod Heads
