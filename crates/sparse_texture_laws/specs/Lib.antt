pub mod Selection
pub mod Cut
