pub mod Read
pub mod Left
pub mod Refused
