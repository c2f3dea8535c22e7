pub mod Laws
pub mod Turns
pub mod Reading
pub mod Seen
pub mod Refusals
