pub mod Adding
pub mod Ways
pub mod Walks
pub mod Trails
pub mod Counts
pub mod Copied
