pub mod Given
pub mod Refused
