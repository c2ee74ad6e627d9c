pub mod Tells
pub mod Median
pub mod Ring
pub mod Unique
pub mod Pairs
pub mod Picked
