pub mod Answer
pub mod Marked
