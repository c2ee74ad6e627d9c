pub mod Words
pub mod Loops
pub mod Ready
