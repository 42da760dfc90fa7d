pub mod Parts
pub mod Laws
pub mod LevelParts
pub mod Masks
pub mod Children
pub mod Values
