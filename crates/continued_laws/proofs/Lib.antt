pub mod TagLemmas
pub mod StepLemmas
pub mod ScaledLemmas
pub mod PositiveLemmas
pub mod LineLemmas
pub mod PointLemmas
pub mod MeshLemmas
pub mod ExampleLemmas
