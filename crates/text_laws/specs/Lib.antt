pub mod Laws
pub mod MeshLines
pub mod ReadMesh
pub mod Readable
pub mod Examples
