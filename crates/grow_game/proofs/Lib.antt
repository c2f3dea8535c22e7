pub mod GrowLaws
pub mod PlyLaws
pub mod TurnLaws
