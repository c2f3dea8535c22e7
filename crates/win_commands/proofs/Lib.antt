pub mod HeadLaws
pub mod VerdictLaws
pub mod RoundLaws
pub mod JudgedLaws
