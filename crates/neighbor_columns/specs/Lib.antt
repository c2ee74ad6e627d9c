pub mod Kinds
pub mod Codec
pub mod Table
pub mod Lent
