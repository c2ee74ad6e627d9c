pub mod Codec
pub mod Lent
pub mod Table
