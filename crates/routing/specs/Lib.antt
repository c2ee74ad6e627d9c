pub mod State
pub mod Search
pub mod Routes
pub mod Queries
pub mod Records
