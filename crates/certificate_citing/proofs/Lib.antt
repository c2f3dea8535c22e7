pub mod TokenTextLaws
pub mod ShortWalks
pub mod Migrations
pub mod EndWalks
