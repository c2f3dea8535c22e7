pub mod Certifying
pub mod Verdicts
pub mod Claims
pub mod Laws
pub mod Migrating
pub mod MigrationLaws
