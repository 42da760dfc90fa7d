mod ControlLemmas
mod SparseLemmas
