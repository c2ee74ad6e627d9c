pub mod Fit
pub mod Changes
pub mod Children
pub mod LinkStatus
pub mod Samples
pub mod Announcements
pub mod Refused
