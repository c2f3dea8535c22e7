pub mod Text
pub mod Verdicts
pub mod Runs
pub mod Laws
