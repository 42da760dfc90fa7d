mod LineLemmas
mod PlaceLemmas
mod VerifyLemmas
mod ApplyLemmas
pub mod FramePlaceLemmas
pub mod FrameMarkLemmas
pub mod FrameSumLemmas
pub mod FramePointLemmas
pub mod FrameLoopLemmas
pub mod FrameRowLemmas
pub mod FrameStartLemmas
pub mod FrameAnswerLemmas
pub mod FrameLawLemmas
pub mod MoveLemmas
