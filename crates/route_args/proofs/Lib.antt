pub mod Read
pub mod Back
