pub mod RatioLemmas
pub mod LcmLemmas
pub mod OddLemmas
pub mod AmountLemmas
