mod LineLemmas
mod ListLemmas
mod PartsLemmas
mod NumberedLemmas
mod RoundingLemmas
mod CountLineLemmas
mod GridLemmas
mod PatchLemmas
mod FaceNumberLemmas
pub mod MapLemmas
pub mod TexturedLemmas
pub mod LevelsLemmas
pub mod SparseLemmas
pub mod SameTextLemmas
pub mod SameTextureLemmas
pub mod SameSummaryLemmas
