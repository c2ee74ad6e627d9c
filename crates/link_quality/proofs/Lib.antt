pub mod Rows
pub mod Sampled
