pub mod View
pub mod Base
pub mod Step
pub mod Kept
pub mod Levels
pub mod Faults
pub mod Grown
