pub mod Hashing
pub mod NumberedEdges
pub mod Builder
pub mod Keys
