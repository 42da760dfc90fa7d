-- The faces of a sparse level that a test of their facts selects.
-- Source: Drillolive.
use Rattle.std.specs.Prelude.{ℕ, ◌≡◌, ◌<◌, Bool, false, true, ◌&&◌, List, [], length, get_or}
use Rattle.std.specs.List.{filter, range_with_len}
use Rattle.subdiv_model.specs.Level.{Level}
use Rattle.subdiv_model.specs.Feature.{FaceFacts, facts_of, is_selectable}
use Rattle.subdiv_model.specs.Sparse.{FacePredicate, is_on, predicate_of}
use Rattle.subdiv_model.specs.Channel.{chaikin_overflows_at}
use Rattle.sparse_laws.specs.SparseLevels.{SparseLevel}

-- the facts of a face, with its number in the uniform level
abbrev pub facts_in : SparseLevel → ℕ → FaceFacts
facts_in s f = record (facts_of s.level s.depth f) { number = get_or s.numbers f 0 }

-- the face is inner, passes the test and is no hole
abbrev pub is_selected_in : (FaceFacts → Bool) → SparseLevel → ℕ → Bool
is_selected_in test s f = get_or s.inner f false && (test (facts_in s f) && is_selectable (facts_in s f))

-- the faces of a sparse level that a test selects
abbrev pub selected_in : (FaceFacts → Bool) → SparseLevel → List ℕ
selected_in test s = filter (is_selected_in test s) (range_with_len 0 (length s.level.polygons))

-- at this depth the predicate and the test select the same faces of the uniform level
abbrev pub Agrees : (FaceFacts → Bool) → Level → FacePredicate → ℕ → Type 0
Agrees test base predicate depth = get_or predicate depth [] ≡ predicate_of test base depth

-- the halves of edges overflow at vertex v, which is on a selected face
pub record OverflowsOn (level : Level) (selected : List ℕ) (v : ℕ) : Type 0 where
  pub exists : v < level.point_count
  pub on : is_on level.polygons selected v ≡ true
  pub overflows : chaikin_overflows_at level v ≡ true
