pub mod Asked
pub mod Text
pub mod Runs
pub mod Reading
pub mod Laws
