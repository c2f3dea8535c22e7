pub mod RuleLaws
pub mod WalkLaws
pub mod PlaceLaws
pub mod FormLaws
pub mod ReadLaws
pub mod GiveLaws
pub mod ParserLaws
