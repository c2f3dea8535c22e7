pub mod Links
pub mod Kept
pub mod TowerLaws
pub mod RingLaws
pub mod Turns
pub mod Cells
pub mod ResidueLaws
