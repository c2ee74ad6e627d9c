pub mod Lent
pub mod Packed
