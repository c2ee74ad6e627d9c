pub mod LinkStatus
