pub mod Rooms
pub mod Runs
pub mod Games
pub mod Version
