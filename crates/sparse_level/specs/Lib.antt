pub mod View
pub mod Places
pub mod Numbers
pub mod Faces
