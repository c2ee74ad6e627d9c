pub mod Fields
pub mod Routed
pub mod Said
pub mod Decided
pub mod Resolved
pub mod Kept
pub mod Refused
