pub mod SumLemmas
pub mod EntryLemmas
pub mod TouchedLemmas
pub mod PairLemmas
pub mod OrderLemmas
