pub mod Edges
pub mod Manifolds
