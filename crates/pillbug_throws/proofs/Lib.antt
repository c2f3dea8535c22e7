pub mod ThrowParts
pub mod Closeness
