pub mod Built
pub mod Parts
pub mod Across
pub mod Chains
pub mod PointPlaces
