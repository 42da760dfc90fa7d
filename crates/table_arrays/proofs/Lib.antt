pub mod FlatLemmas
pub mod NumberLemmas
pub mod WeightLemmas
mod EntryLemmas
mod BuiltLemmas
mod CheckLemmas
mod OwnLemmas
