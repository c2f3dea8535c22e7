pub mod Closing
pub mod Turning
pub mod Progress
mod AuditLaws
