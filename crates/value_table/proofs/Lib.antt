pub mod TrueEntries
pub mod Lookups
pub mod Tables
