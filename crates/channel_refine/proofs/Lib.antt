pub mod FaultLemmas
pub mod ValueLemmas
pub mod TableLemmas
mod UniformLemmas
pub mod DenominatorLemmas
pub mod FirstLemmas
pub mod ChannelLemmas
pub mod IdentityLemmas
mod ComposedLemmas
mod ResultLemmas
mod WalkedLemmas
mod WalkedTableLemmas
pub mod ControlLemmas
mod SumLemmas
pub mod EvaluatedLemmas
pub mod NumeratorLemmas
pub mod LevelTableLemmas
pub mod PathLemmas
mod SparseListLemmas
mod SparseOriginLemmas
mod SparseTableLemmas
mod SparseOrderLemmas
mod SparseFaultLemmas
mod SparseNextLemmas
mod SparseLevelLemmas
mod SparseWalkedLemmas
mod SparseValuedLemmas
mod SparseMarkLemmas
mod SparseRowLemmas
mod SparseStartLemmas
mod SparseListedLemmas
