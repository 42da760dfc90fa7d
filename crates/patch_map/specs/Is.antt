-- The maps that the definitions give.
use Rattle.std.specs.Prelude.{ℕ, suc, ◌≡◌, ◌<◌, nat_le, length, map, get_or, Option, Some, None, if◌then◌else◌}
use Rattle.std.specs.List.{position_or_len}
use Rattle.subdiv_model.specs.Polygons.{is_among}
use Rattle.subdiv_model.specs.Level.{Level}
use Rattle.subdiv_model.specs.Child.{refined_level}
use Rattle.subdiv_model.specs.Sparse.{FacePredicate, child_number, selected, present}
use Rattle.sparse_laws.specs.SparseLevels.{IsSparse}
use Rattle.sparse_level.specs.View.{SparseTopology, SparseChild, level_of, next_of}
use Rattle.patch_map.specs.Map.{MapLevel, LevelMap, starts_of}

-- the place of the first child of a face among the present faces of the next level, or nothing if the face is not selected
abbrev pub first_in : Level → FacePredicate → ℕ → ℕ → Option ℕ
first_in base predicate depth n =
    if is_among (selected base predicate depth) n
    then Some (position_or_len (nat_le (child_number (refined_level base depth).polygons (n, 0))) (present base predicate (suc depth)))
    else None

-- the level of the map after a depth contains the present faces
pub record IsAfter (base : Level) (predicate : FacePredicate) (depth : ℕ) (level : MapLevel) : Type 0 where
  pub depth_is : level.depth ≡ suc depth
  pub firsts : level.firsts ≡ map (first_in base predicate depth) (present base predicate depth)
  pub numbers : level.numbers ≡ present base predicate (suc depth)

-- the map contains the levels up to a depth
pub record IsMapOf (base : Level) (predicate : FacePredicate) (depth : ℕ) (levels : LevelMap) : Type 0 where
  pub sizes : levels.sizes ≡ map length base.polygons
  pub starts : levels.starts ≡ starts_of (refined_level base depth).polygons (present base predicate depth)
  pub count : length levels.levels ≡ depth
  pub each : (k : ℕ) (d : MapLevel) → k < depth → IsAfter base predicate k (get_or levels.levels k d)

-- a step from one sparse level of the definitions to the next
pub record IsStepOf (base : Level) (predicate : FacePredicate) (sparse : SparseTopology) (step : SparseChild) : Type 0 where
  pub from : IsSparse base predicate (level_of sparse)
  pub next : IsSparse base predicate (level_of (next_of step))
  pub depth : step.depth ≡ suc sparse.depth
  pub selected : step.selected ≡ map (is_among (selected base predicate sparse.depth)) sparse.numbers
