pub mod State
pub mod Ready
