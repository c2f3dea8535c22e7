pub mod Text
pub mod Heads
pub mod Taken
