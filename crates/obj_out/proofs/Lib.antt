pub mod TextSoFarLemmas
pub mod PutsLemmas
pub mod NumberLemmas
pub mod TermsLemmas
pub mod DigitsLemmas
pub mod DecimalTextLemmas
pub mod RoundingLemmas
pub mod CallerLemmas
