mod LineLemmas
mod DifferenceLemmas
mod SplitLemmas
mod HeaderLemmas
mod RowLemmas
mod ReadLemmas
mod NumberLemmas
