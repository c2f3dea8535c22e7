pub mod Times
pub mod Service
pub mod ServiceRun
pub mod Rounds
pub mod Session
pub mod Replay
pub mod Laws
