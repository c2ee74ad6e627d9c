pub mod Decision
pub mod Made
pub mod Lent
pub mod Numbers
pub mod Kept
