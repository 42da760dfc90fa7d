mod PlaceLemmas
mod MarkLemmas
mod EdgeFaultLemmas
mod ChainLemmas
mod WalkLemmas
mod GroupLemmas
mod GroupFanLemmas
mod TurnLemmas
mod CountLemmas
mod GroupTurnLemmas
mod FaultLemmas
mod ListedLemmas
mod SplitLemmas
mod VertexLemmas
mod SplitListLemmas
mod TurnSideLemmas
mod BoundaryLemmas
mod HoleLemmas
mod OnceLemmas
mod NamedLemmas
mod EndLemmas
mod ValenceLemmas
pub mod BaseFaceLemmas
pub mod BaseMarkLemmas
mod BaseTagLemmas
mod BaseEdgeLemmas
mod BaseLemmas
