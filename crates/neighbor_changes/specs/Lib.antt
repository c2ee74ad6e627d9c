pub mod Change
pub mod Rules
