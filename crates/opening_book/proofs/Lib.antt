pub mod PlyLaws
pub mod TallyLaws
