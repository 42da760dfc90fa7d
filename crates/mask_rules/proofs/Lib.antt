pub mod TermLemmas
pub mod EdgeLemmas
pub mod SpreadLemmas
pub mod WalkLemmas
pub mod RingLemmas
pub mod AroundLemmas
pub mod BoundLemmas
pub mod VertexLemmas
pub mod SharpLemmas
pub mod EqualLemmas
mod GrowthLemmas
pub mod SmoothLemmas
pub mod PlainLemmas
pub mod MadeLemmas
