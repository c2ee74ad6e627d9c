pub mod Held
pub mod Forgiven
