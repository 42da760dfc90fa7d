pub mod RefusalLemmas
pub mod StatusLemmas
mod StoredLemmas
pub mod OriginLemmas
pub mod TextureLemmas
pub mod SparseLemmas
mod RestLemmas
