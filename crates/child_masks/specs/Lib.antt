pub mod Masks
pub mod Kept
pub mod View
pub mod MaskOf
pub mod Survey
pub mod Found
pub mod Known
