pub mod Session
pub mod Columns
pub mod Kept
pub mod Laws
pub mod Tree
