pub mod Relays
pub mod Ways
pub mod Rows
