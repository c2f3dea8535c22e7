pub mod Spaces
pub mod Spans
pub mod Verbs
pub mod Grammar
pub mod Reading
