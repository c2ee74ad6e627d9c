pub mod Seek
pub mod Shift
pub mod Rows
pub mod Table
