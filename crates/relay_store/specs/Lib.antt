pub mod Store
pub mod Packed
