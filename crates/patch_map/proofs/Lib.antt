pub mod RunLemmas
pub mod PresentLemmas
pub mod PlaceLemmas
pub mod MapLemmas
pub mod StepLemmas
pub mod FoundLemmas
