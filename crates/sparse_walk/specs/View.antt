-- The state of a walk over sparse levels in the terms of contracts.
use Rattle.std.specs.Prelude.{Bool, List}
use Rattle.sparse_level.specs.View.{SparseTopology, SparseChild, next_of}

-- a sparse level, and the marks of the selected faces of the level before; level 0 has none before it
pub record Walked : Type 0 where
  pub sparse : SparseTopology
  pub before : List Bool

abbrev pub walked : SparseTopology → List Bool → Walked
walked sparse before = record { sparse = sparse; before = before }

-- the next level of a step
abbrev pub walked_after : SparseChild → Walked
walked_after step = walked (next_of step) step.selected
