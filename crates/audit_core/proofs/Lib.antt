pub mod Judged
pub mod Found
pub mod Picks
pub mod Replies
pub mod Closing
mod Forward
mod TriedTexts
mod Tried
