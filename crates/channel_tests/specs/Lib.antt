pub mod Controls
pub mod Larger
pub mod Sparse
