pub mod Going
pub mod Listing
pub mod Counting
