pub mod LongLaws
pub mod GivenLaws
pub mod StartLaws
pub mod CountLaws
pub mod RunLaws
