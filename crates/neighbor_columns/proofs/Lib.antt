pub mod Codec
pub mod Rows
pub mod Stored
pub mod Sweeps
pub mod Told
