pub mod Groups
pub mod Queries
pub mod Lists
pub mod Events
pub mod Child
