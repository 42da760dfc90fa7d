pub mod Refined
pub mod Made
pub mod Shapes
pub mod Tables
