pub mod Beside
pub mod Slides
