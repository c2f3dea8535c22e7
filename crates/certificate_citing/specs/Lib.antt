pub mod TokenText
pub mod Drafts
pub mod Shortening
pub mod Migrating
pub mod ShortTaking
