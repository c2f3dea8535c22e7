pub mod Closing
pub mod Starting
pub mod Reading
