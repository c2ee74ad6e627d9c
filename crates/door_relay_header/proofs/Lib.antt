pub mod Cleared
pub mod Refused
