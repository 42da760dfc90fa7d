pub mod Tensors
pub mod Laws
