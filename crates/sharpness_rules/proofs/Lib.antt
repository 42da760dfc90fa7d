pub mod MultipleLemmas
mod PartLemmas
pub mod SharpnessLemmas
mod TotalLemmas
mod RingLemmas
mod EndedLemmas
mod HalfLemmas
mod HalvesLemmas
mod WeightLemmas
pub mod ViewLemmas
