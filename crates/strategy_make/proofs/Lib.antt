pub mod MakeLaws
pub mod PlainLaws
pub mod LineLaws
pub mod FewLaws
pub mod LowLaws
pub mod ReadLaws
