pub mod KeptLemmas
pub mod OkLemmas
pub mod SliceLemmas
