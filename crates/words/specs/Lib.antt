pub mod Text
pub mod Table
pub mod Shape
pub mod Words
pub mod Fitting
