-- The sparse levels to a depth, in the form in which they are written.
use Rattle.std.specs.Prelude.{ℕ, ◌+◌, ◌≤◌, Bool, List, map}
use Rattle.std.specs.List.{sum_by, range_with_len}
use Rattle.subdiv_model.specs.Level.{Level}
use Rattle.subdiv_model.specs.Feature.{FaceFacts}
use Rattle.subdiv_model.specs.Sparse.{predicate_to}
use Rattle.subdiv_model.specs.SparseFaults.{present_faces}
use Rattle.subdiv_model.specs.SparseText.{WrittenLevel, written_level}
use Rattle.sparse_walk.specs.declared.kept.KeptLevel.{KeptLevel}

-- the written form of a kept level
abbrev pub faces_of : {C : Type 0} → KeptLevel C → WrittenLevel
faces_of level = level.faces

-- the levels from 0 to a depth
abbrev pub written_to : Level → (FaceFacts → Bool) → ℕ → List WrittenLevel
written_to base test depth = map (written_level base (predicate_to test base depth)) (range_with_len 0 (depth + 1))

-- the number of faces of the sparse levels from 1 to a depth together
abbrev pub present_to : Level → (FaceFacts → Bool) → ℕ → ℕ
present_to base test depth = sum_by (present_faces base (predicate_to test base depth)) (range_with_len 1 depth)

-- the walk takes at most one step for each of these faces
pub record AreSparseSteps (base : Level) (test : FaceFacts → Bool) (depth old new : ℕ) : Type 0 where
  pub most : new ≤ old + present_to base test depth
  pub later : old ≤ new
