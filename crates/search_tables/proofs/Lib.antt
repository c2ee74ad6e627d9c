pub mod Lent
pub mod Packing
