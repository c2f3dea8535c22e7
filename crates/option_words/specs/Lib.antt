pub mod Options
pub mod Parse
