pub mod Growing
pub mod Plies
pub mod Made
pub mod Laws
