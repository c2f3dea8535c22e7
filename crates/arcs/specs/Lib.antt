pub mod Arcs
pub mod Masks
