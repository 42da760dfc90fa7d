pub mod Around
pub mod Masks
pub mod Patches
