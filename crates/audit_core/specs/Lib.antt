pub mod Texts
pub mod Judging
pub mod Drawing
pub mod AuditState
pub mod Keeps
pub mod Audits
pub mod Laws
