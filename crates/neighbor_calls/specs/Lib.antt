pub mod Outcomes
pub mod Children
pub mod Samples
pub mod Announcements
pub mod LinkStatus
