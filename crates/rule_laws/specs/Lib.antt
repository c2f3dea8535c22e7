pub mod Soundness
pub mod Readings
pub mod Spans
