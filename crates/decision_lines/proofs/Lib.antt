pub mod Parts
pub mod Modes
