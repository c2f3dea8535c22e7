pub mod Replies
pub mod Known
pub mod Met
pub mod Rested
