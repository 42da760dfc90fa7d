-- The facts for the values of child points, once the faces have their values.
use Rattle.std.specs.Prelude.{ℕ, ◌≡◌, ◌+◌, ◌*◌, ◌<◌, ◌≤◌, Bool, false, List, length, get_or}
use Rattle.std.specs.List.{All, list_any, sum_by}
use Rattle.subdiv_model.specs.Mask.{Scheme, OfFace, has_source}
use Rattle.subdiv_model.specs.Refined.{mask_denominator, source_denominator}
use Rattle.number_width.specs.declared.width.Width.{Width}
use Rattle.level_topology.specs.Topology.{Topology}
use Rattle.level_topology.specs.Child.{PointOrigin, ChildTopology}
use Rattle.primvar_refine.specs.Rows.{Row, row_at, dens_of, AreGood, least_bound}
use Rattle.child_masks.specs.Masks.{mask_from, masks_from, HasNoTransition, CanRefine, origin_at}
use Rattle.primvar_refine.specs.Made.{AreFacesMade, AreOthersMade, terms_of_face, terms_of_hidden, terms_of_other}
use Rattle.child_masks.specs.declared.survey.Survey.{Survey}
use Rattle.primvar_refine.specs.declared.places.Places.{Places}
use Rattle.primvar_refine.specs.Places.{all_origins, ArePlaces}
use Rattle.primvar_refine.specs.Width.{sum_bound}

-- each denominator is that of the point's mask; it and all numbers over it are within the bound of sums of a width
pub record AreDens (width : Width) (parent : Topology) (scheme : Scheme) (rows : List Row) (origins : List PointOrigin) (made : List Row) : Type 0 where
  pub are : (p : ℕ) → p < length origins
      → (row_at made p).den ≡ mask_denominator (source_denominator parent.level (dens_of rows)) (mask_from parent.level scheme (origin_at origins p))
  pub short : (p : ℕ) → p < length origins → (row_at made p).den ≤ sum_bound width
  pub kept : (p : ℕ) → p < length origins → (row_at made p).den * least_bound rows ≤ sum_bound width

-- a mark for each face that some mask uses
pub record AreNamed (parent : Topology) (scheme : Scheme) (origins : List PointOrigin) (named : List Bool) : Type 0 where
  pub counted : length named ≡ length parent.level.polygons
  pub each : (f : ℕ) → f < length parent.level.polygons
      → get_or named f false ≡ list_any (λ mask. has_source mask.terms (OfFace f)) (masks_from parent.level scheme origins)

-- the conditions of sums of a width hold
pub record IsReady (width : Width) (parent : Topology) (child : ChildTopology) (scheme : Scheme) (rows : List Row) (named : List Bool) (hidden places : List ℕ) (made : List Row) : Type 0 where
  pub can : CanRefine parent child scheme
  pub allowed : HasNoTransition parent.level scheme child.origins
  pub good : AreGood rows
  pub counted : length rows ≡ parent.level.point_count
  pub names : AreNamed parent scheme child.origins named
  pub find : ArePlaces child.origins named hidden (length parent.level.polygons) places
  pub inside : All (λ f. f < length parent.level.polygons) hidden
  pub each : length made ≡ length (all_origins child.origins hidden)
  pub dens : AreDens width parent scheme rows (all_origins child.origins hidden) made

-- the conditions of sums of a width hold, with the marks of a survey and the places of the faces
abbrev pub IsReadyFor : Width → Topology → ChildTopology → Scheme → List Row → Survey → Places → List Row → Type 0
IsReadyFor width parent child scheme rows survey places made =
    IsReady width parent child scheme rows survey.named.items places.hidden.items places.of_faces.items made

-- the number of terms of all new values
abbrev pub all_terms : Topology → ChildTopology → Scheme → List ℕ → ℕ
all_terms parent child scheme hidden =
    sum_by (terms_of_face parent.level) child.origins
    + (sum_by (terms_of_hidden parent.level) hidden + sum_by (terms_of_other parent.level scheme) child.origins)

-- all values are made
pub record AreAllMade (parent : Topology) (child : ChildTopology) (scheme : Scheme) (rows : List Row) (hidden : List ℕ) (made : List Row) : Type 0 where
  pub faces : AreFacesMade parent.level rows (all_origins child.origins hidden) (length (all_origins child.origins hidden)) made
  pub others : AreOthersMade parent.level scheme rows child.origins (length child.origins) made
