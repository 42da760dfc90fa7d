pub mod UnionLemmas
pub mod SupportLemmas
pub mod SumOverLemmas
pub mod RowLemmas
pub mod ShareLemmas
pub mod OutsideLemmas
pub mod MeanShareLemmas
pub mod SupportSumLemmas
