pub mod Children
pub mod Tags
