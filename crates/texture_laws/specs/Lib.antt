pub mod CutMesh
pub mod Joined
pub mod Seamless
