pub mod Listed
pub mod Pushed
