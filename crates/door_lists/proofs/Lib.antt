pub mod Written
pub mod Given
pub mod Made
pub mod Refused
