pub mod Left
pub mod Refused
