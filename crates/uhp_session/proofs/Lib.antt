pub mod KeptLaws
pub mod ListLaws
pub mod StandLaws
pub mod ReplyLaws
pub mod RefusalLaws
pub mod HeldLaws
pub mod BestLaws
pub mod OptionLaws
mod DepthLaws
pub mod TeamLaws
