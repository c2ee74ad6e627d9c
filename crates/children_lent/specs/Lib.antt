pub mod Places
pub mod Parts
pub mod Rules
