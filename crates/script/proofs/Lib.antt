pub mod Steps
pub mod Bench
