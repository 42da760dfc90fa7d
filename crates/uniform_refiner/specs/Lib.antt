pub mod FaultText
pub mod Uniform
pub mod Put
pub mod Numbered
pub mod Points
pub mod Refined
pub mod ChildRows
