pub mod FaceLemmas
pub mod SelectionLemmas
pub mod PredicateLemmas
pub mod CutLemmas
pub mod PresentLemmas
