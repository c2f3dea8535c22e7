pub mod Texts
pub mod Match
pub mod Ends
pub mod Reads
pub mod Wires
pub mod Laws
