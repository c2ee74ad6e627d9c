pub mod Chosen
pub mod Makeable
pub mod Outcomes
pub mod HeaderFrame
pub mod Asked
pub mod Refusals
pub mod Worked
