pub mod Faces
pub mod Squares
pub mod Values
