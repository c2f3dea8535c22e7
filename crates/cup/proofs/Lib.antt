pub mod Orders
pub mod Games
pub mod Sums
pub mod Totals
pub mod Places
pub mod EachGame
mod InTime
