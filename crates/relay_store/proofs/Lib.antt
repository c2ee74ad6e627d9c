pub mod Cells
pub mod Rows
pub mod Shifts
pub mod Agree
pub mod Packing
pub mod Steps
pub mod Worked
pub mod Lent
