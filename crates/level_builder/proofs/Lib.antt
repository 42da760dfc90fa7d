pub mod EdgeNumberLemmas
pub mod NumberedSideLemmas
pub mod BuilderLemmas
pub mod KeyLemmas
pub mod UnrepeatedLemmas
pub mod RestLemmas
pub mod SearchLemmas
