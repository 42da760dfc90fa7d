pub mod PairLemmas
pub mod FirstLemmas
pub mod QuadPairLemmas
pub mod BorderLemmas
pub mod PathLemmas
