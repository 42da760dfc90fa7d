pub mod AtVertex
pub mod Bound
pub mod Limits
pub mod Smooth
