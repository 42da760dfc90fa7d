pub mod View
pub mod FaultText
pub mod Masks
pub mod Spread
pub mod Around
pub mod Growth
pub mod Ring
pub mod Smooth
