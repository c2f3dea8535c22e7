pub mod Book
pub mod Plies
