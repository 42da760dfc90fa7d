pub mod MeshLemmas
pub mod FaceLemmas
pub mod StartLemmas
pub mod PointLemmas
pub mod CallerLemmas
pub mod FrontLemmas
pub mod LevelLemmas
