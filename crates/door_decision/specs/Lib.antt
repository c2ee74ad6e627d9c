pub mod Header
pub mod Decision
