pub mod SearchLemmas
pub mod NumberLemmas
pub mod RefineLemmas
pub mod WrittenLemmas
