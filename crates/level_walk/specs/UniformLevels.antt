-- The levels to a depth, each made from the one before.
use Rattle.std.specs.Prelude.{ℕ, ◌≡◌, ◌+◌, ◌^◌, ◌<◌, ◌≤◌, true, false, length}
use Rattle.std.specs.List.{sum_by, range_with_len}
use Rattle.subdiv_model.specs.Level.{Level}
use Rattle.subdiv_model.specs.Child.{refined_level}
use Rattle.subdiv_model.specs.Channel.{chaikin_overflows_at}

-- the next level is within the bound of faces, and no halves overflow
pub record CanBeRefined (level : Level) : Type 0 where
  pub few : sum_by length level.polygons ≤ 2 ^ 22
  pub fine : (v : ℕ) → v < level.point_count → chaikin_overflows_at level v ≡ false

-- this many levels can be made after this one
abbrev pub AreMade : Level → ℕ → Type 0
AreMade level count = (k : ℕ) → k < count → CanBeRefined (refined_level level k)

-- the next level is within the bound of faces, and at some point halves overflow
pub record Overflows (level : Level) : Type 0 where
  pub few : sum_by length level.polygons ≤ 2 ^ 22
  pub v : ℕ
  pub exists : v < level.point_count
  pub overflows : chaikin_overflows_at level v ≡ true

-- the number of faces of the levels from 1 to a depth together
abbrev pub faces_to : Level → ℕ → ℕ
faces_to level depth = sum_by (λ k. length (refined_level level k).polygons) (range_with_len 1 depth)

-- the walk takes at most one step for each face of the levels from 1 to a depth
pub record AreLevelSteps (base : Level) (depth old new : ℕ) : Type 0 where
  pub most : new ≤ old + faces_to base depth
  pub later : old ≤ new
