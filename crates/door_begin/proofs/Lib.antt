pub mod Begun
pub mod Refused
