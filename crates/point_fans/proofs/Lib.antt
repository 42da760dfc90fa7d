pub mod ChainLemmas
pub mod AcrossLemmas
pub mod TurnLemmas
pub mod PointPlaceLemmas
pub mod FinishLemmas
