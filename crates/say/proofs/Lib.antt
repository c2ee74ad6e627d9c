pub mod Pages
pub mod Bench
