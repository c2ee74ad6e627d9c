pub mod Refusal
pub mod Clock
