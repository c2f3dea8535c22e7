pub mod ArcWalks
pub mod ArcBoards
pub mod EachMask
