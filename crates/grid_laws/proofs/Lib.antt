pub mod QuadLemmas
pub mod StarLemmas
pub mod AroundLemmas
pub mod GridLemmas
pub mod ChildQuadLemmas
pub mod RegularLemmas
pub mod NextGridLemmas
pub mod ChildPatchLemmas
