pub mod Statuses
pub mod Digest
