pub mod Numbered
pub mod Pushes
