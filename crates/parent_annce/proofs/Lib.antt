pub mod Rows
pub mod Settles
