pub mod Resting
pub mod Quiet
pub mod Tests
