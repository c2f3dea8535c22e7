pub mod MergeLaws
pub mod Walking
pub mod Throwing
pub mod Pairing
pub mod Listed
pub mod CountLaws
