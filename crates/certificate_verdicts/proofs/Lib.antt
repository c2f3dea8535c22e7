pub mod JudgeLaws
pub mod TextLaws
pub mod AskedLaws
