pub mod LineLemmas
pub mod DecimalLemmas
pub mod NumeralLemmas
pub mod TermsLemmas
