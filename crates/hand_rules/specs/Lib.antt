pub mod Hands
pub mod Open
pub mod Listing
pub mod Bringing
