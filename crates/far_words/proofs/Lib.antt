pub mod NumberLemmas
pub mod ListLemmas
pub mod OptionLemmas
pub mod GoodOptionLemmas
pub mod OrderLemmas
pub mod ValueLemmas
pub mod ReadLemmas
pub mod WordsLemmas
