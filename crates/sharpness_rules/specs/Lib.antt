pub mod View
pub mod Totals
pub mod Halves
pub mod Sharp
