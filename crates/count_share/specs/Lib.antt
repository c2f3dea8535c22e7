pub mod Classes
pub mod Shares
