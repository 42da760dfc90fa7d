pub mod FirstLeaf
pub mod Paths
