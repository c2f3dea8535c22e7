pub mod ClassLaws
pub mod ShareLaws
