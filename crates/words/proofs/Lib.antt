pub mod Search
pub mod Fit
pub mod Bench
