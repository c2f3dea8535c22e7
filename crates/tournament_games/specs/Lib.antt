pub mod Tournaments
pub mod Texts
pub mod Readback
pub mod Games
pub mod Links
pub mod Waves
