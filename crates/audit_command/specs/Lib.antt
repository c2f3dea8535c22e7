pub mod Audit
pub mod Wires
pub mod Turns
pub mod Runs
pub mod Laws
