pub mod Tables
pub mod Scan
pub mod Faults
pub mod Moves
pub mod Readers
