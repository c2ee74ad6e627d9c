pub mod Asked
pub mod Fit
pub mod Left
pub mod Pending
