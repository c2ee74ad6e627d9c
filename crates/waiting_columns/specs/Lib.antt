pub mod Codec
pub mod Table
