pub mod Schedules
pub mod Ends
pub mod Counts
pub mod Ranks
pub mod Laws
