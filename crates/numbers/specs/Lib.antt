pub mod Said
pub mod Read
