pub mod Verdicts
pub mod Reading
pub mod Runs
pub mod Judging
pub mod Laws
