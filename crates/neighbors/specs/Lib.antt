pub mod State
pub mod Queries
pub mod Changes
