pub mod Formats
pub mod Intakes
pub mod Reads
pub mod Taking
