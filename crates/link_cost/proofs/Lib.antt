pub mod Scale
pub mod LinkCost
