pub mod TimeLemmas
pub mod ReplyLemmas
pub mod Progress
pub mod DoneLaws
