pub mod Columns
pub mod Codec
pub mod Table
pub mod Room
