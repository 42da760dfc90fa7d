-- A level with the faces of another, over points that represent those of the other.
-- Source: Drillolive.
use Rattle.std.specs.Prelude.{ℕ, ◌≡◌, ◌≤◌, Bool, length, map, IsTrue}
use Rattle.subdiv_model.specs.Polygons.{is_among, is_over}
use Rattle.subdiv_model.specs.Level.{Level}
use Rattle.subdiv_model.specs.Sparse.{FacePredicate, inner, present}
use Rattle.subdiv_model.specs.SparseTexture.{selected_to}

-- both levels have as many faces, each with as many corners, and the same holes
pub record HaveSameFaces (base cut : Level) : Type 0 where
  pub sizes : map length cut.polygons ≡ map length base.polygons
  pub holes : cut.holes ≡ base.holes

-- Each point of the cut level has a name, the point of the base that it represents. The faces of the base are those of the cut
-- level under these names. So corners that share a point in the cut level share one in the base.
pub record IsCutOf (name : ℕ → ℕ) (base cut : Level) : Type 0 where
  pub over : IsTrue (is_over cut.point_count cut.polygons)
  pub faces : map (map name) cut.polygons ≡ base.polygons
  pub holes : cut.holes ≡ base.holes

-- a face after some steps, where a predicate selects faces of the base to a depth and a cut of the base uses these faces
pub record CutFace : Type 0 where
  pub base : Level
  pub cut : Level
  pub predicate : FacePredicate
  pub depth : ℕ
  pub steps : ℕ
  pub within : steps ≤ depth
  pub face : ℕ

-- the face is an inner face of the base: the parent of the face is selected, or it is a face of level 0
abbrev pub is_inner : CutFace → Bool
is_inner at = is_among (inner at.base at.predicate at.steps) at.face

-- the face is present in the level of the base
abbrev pub is_present : CutFace → Bool
is_present at = is_among (present at.base at.predicate at.steps) at.face

-- the face is present in the level of the cut
abbrev pub is_present_in_cut : CutFace → Bool
is_present_in_cut at = is_among (present at.cut (selected_to at.base at.predicate at.depth) at.steps) at.face
