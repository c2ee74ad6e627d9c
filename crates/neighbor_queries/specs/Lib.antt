pub mod Filter
pub mod Lists
pub mod Answers
