pub mod SameFraction
pub mod SameWeights
pub mod Orders
