pub mod AnswerLemmas
pub mod RowLemmas
pub mod OriginLemmas
pub mod SparseLemmas
pub mod RecordBackLemmas
pub mod RecordLengthLemmas
pub mod RecordStatusLemmas
