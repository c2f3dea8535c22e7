pub mod Texts
pub mod Cup
pub mod Links
pub mod Laws
