pub mod SpaceLaws
pub mod FieldLaws
pub mod SplitLaws
pub mod SpanLaws
pub mod VerbLaws
pub mod ArgumentLaws
pub mod OptionLaws
pub mod CommandLaws
