pub mod RoundLaws
pub mod SeenLaws
pub mod StoodLaws
pub mod ThrowLaws
pub mod TestLaws
pub mod MoveLaws
pub mod ValueLaws
