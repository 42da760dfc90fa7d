pub mod NumberedLemmas
pub mod HalfLemmas
pub mod NewPointLemmas
pub mod FaceLemmas
pub mod WellFormedLemmas
pub mod BaseLemmas
pub mod PlainLemmas
pub mod TagLemmas
