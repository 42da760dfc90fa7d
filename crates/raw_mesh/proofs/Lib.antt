pub mod PiecesLemmas
pub mod LawLemmas
pub mod QuadLemmas
pub mod StartLemmas
pub mod PartLemmas
