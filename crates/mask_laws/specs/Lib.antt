pub mod SharpBoundary
pub mod Laws
