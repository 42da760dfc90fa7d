-- The points that a mask names: the points among its sources, and the corners of the faces among its sources.
use Rattle.std.specs.Prelude.{ℕ, ◌≡◌, ◌<◌, List, [], ◌∷◌, length}
use Rattle.std.specs.List.{All}
use Rattle.subdiv_model.specs.Polygons.{is_among, polygon_at}
use Rattle.subdiv_model.specs.Level.{Level}
use Rattle.subdiv_model.specs.Mask.{SourcePoint, OfPoint, OfFace, Term, Mask}
use Rattle.stencil_factory.specs.Weights.{is_named}
use Rattle.stencil_factory.specs.PlaceSet.{Places, with_places}

-- The points that a source names: the point, or the corners of the face.
abbrev pub points_of : Level → SourcePoint → List ℕ
points_of level (OfPoint v) = v ∷ []
points_of level (OfFace f) = polygon_at level.polygons f

-- The set with the points that the terms name.
abbrev pub with_terms : Level → List Term → Places → Places
with_terms level [] places = places
with_terms level (t ∷ terms) places = with_terms level terms (with_places (points_of level t.source) places)

-- Each point that the source names is below `count`.
abbrev pub CanName : Level → ℕ → SourcePoint → Type 0
CanName level count (OfPoint v) = v < count
CanName level count (OfFace f) = (f < length level.polygons) × All (λ v. v < count) (polygon_at level.polygons f)

-- `CanName` for the source of a term.
abbrev pub CanNameTerm : Level → ℕ → Term → Type 0
CanNameTerm level count t = CanName level count t.source

-- The members of the set are the points of the level that the mask names. The set's mark is `own`.
pub record AreNamed (level : Level) (mask : Mask) (own : ℕ) (places : Places) : Type 0 where
  pub count : places.count ≡ level.point_count
  pub mark : places.mark ≡ own
  pub named : (v : ℕ) → is_among places.members v ≡ is_named level mask v
