pub mod BufferLemmas
pub mod BytesLemmas
pub mod LfLemmas
pub mod LineLemmas
pub mod PieceLemmas
pub mod TextLemmas
