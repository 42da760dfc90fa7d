-- The levels of a walk that a visitor keeps.
use Rattle.std.specs.Prelude.{◌≡◌, ◌++◌, Bool, List, [], ◌∷◌, Option, Some, None}
use Rattle.sparse_laws.specs.Written.{written_here}
use Rattle.sparse_level.specs.View.{SparseTopology, level_of}
use Rattle.sparse_level.specs.Places.{marked}
use Rattle.sparse_walk.specs.View.{Walked}
use Rattle.sparse_walk.specs.declared.kept.KeptLevel.{KeptLevel}

-- the levels so far, and the level that was left last, with its data
pub record KeptSoFar (C : Type 0) : Type 0 where
  pub levels : List (KeptLevel C)
  pub last : Option (SparseTopology × C)

abbrev pub kept_so_far : {C : Type 0} → List (KeptLevel C) → Option (SparseTopology × C) → KeptSoFar C
kept_so_far levels last = record { levels = levels; last = last }

-- the kept form of a level, with marks of its selected faces
abbrev pub kept_of : {C : Type 0} → SparseTopology × C → List Bool → KeptLevel C
kept_of left marks = record { faces = written_here (level_of left.0) (marked marks); carried = left.1 }

-- the kept form of the level that was left last, if there is one
abbrev pub last_kept : {C : Type 0} → Option (SparseTopology × C) → List Bool → List (KeptLevel C)
last_kept None marks = []
last_kept (Some left) marks = kept_of left marks ∷ []

-- The walk leaves a level and its data. The visitor adds the level before it, whose selected faces are known now.
pub record Keeps {C : Type 0} (before : KeptSoFar C) (walked : Walked) (carried : C) (after : KeptSoFar C) : Type 0 where
  pub levels : after.levels ≡ before.levels ++ last_kept before.last walked.before
  pub last : after.last ≡ Some (walked.sparse, carried)

-- all levels to the last one; no face of the last one is selected
abbrev pub kept_to : {C : Type 0} → KeptSoFar C → Walked → C → List (KeptLevel C)
kept_to before end carried = (before.levels ++ last_kept before.last end.before) ++ kept_of (end.sparse, carried) [] ∷ []
