pub mod Sorting
pub mod Zeros
pub mod Shapes
pub mod Ring
pub mod Word
