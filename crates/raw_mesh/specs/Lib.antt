pub mod View
pub mod Mesh
pub mod Laws
pub mod Made
pub mod Starts
pub mod Parts
pub mod FaultText
