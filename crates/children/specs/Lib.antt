pub mod Known
pub mod Attach
