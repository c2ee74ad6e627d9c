pub mod Groups
pub mod Asked
pub mod Changed
pub mod Recorded
