pub mod Places
pub mod Timeouts
