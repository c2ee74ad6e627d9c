pub mod Streams
pub mod Conditions
pub mod Exactly
pub mod Promise
pub mod Steps
pub mod Exported
