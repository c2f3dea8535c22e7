pub mod TextLaws
pub mod TakenLaws
