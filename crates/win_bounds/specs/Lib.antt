pub mod FarFromWin
pub mod Laws
