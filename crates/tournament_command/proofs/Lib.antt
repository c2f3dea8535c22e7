mod Counts
mod Openings
mod Longs
pub mod Gathering
mod Begins
