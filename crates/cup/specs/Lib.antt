pub mod Cup
pub mod Engines
pub mod Laws
pub mod Ranks
pub mod Played
