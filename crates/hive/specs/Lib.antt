pub mod Audits
pub mod Complaints
pub mod Notices
