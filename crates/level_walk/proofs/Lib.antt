pub mod RoundLemmas
pub mod WalkLemmas
pub mod PromiseLemmas
pub mod OriginLemmas
pub mod UniformMaskLemmas
pub mod UniformWholeLemmas
pub mod UniformLevelLemmas
pub mod UniformFaultLemmas
pub mod UniformStepLemmas
pub mod WalkedLemmas
mod CountLemmas
mod PointLemmas
pub mod CountedLevelLemmas
mod OriginItemLemmas
mod OriginPartLemmas
mod OriginLawLemmas
mod UniformOriginLemmas
mod OriginSeriesLemmas
