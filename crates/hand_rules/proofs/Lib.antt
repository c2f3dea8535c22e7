pub mod KindLaws
pub mod OpenLaws
pub mod LevelLaws
pub mod PairLaws
pub mod BringLaws
pub mod EmptyDirs
