-- The progress of a survey, and what each mask adds to it.
use Rattle.std.specs.Prelude.{ℕ, ◌≡◌, ◌+◌, ◌^◌, ◌<◌, ◌≤◌, Bool, true, false, ◌||◌, List, [], ◌∷◌, ◌++◌, IsTrue, length, map, get_or}
use Rattle.std.specs.List.{All, list_any}
use Rattle.subdiv_model.specs.Level.{Level}
use Rattle.subdiv_model.specs.Mask.{Scheme, SourcePoint, OfPoint, OfFace, Term, Mask, has_source}
use Rattle.subdiv_model.specs.Refined.{mask_denominator, source_denominator}
use Rattle.subdiv_model.specs.Channel.{number_bound, transition_overflows_at}
use Rattle.level_topology.specs.Topology.{Topology}
use Rattle.level_topology.specs.Child.{PointOrigin, FromVertex}
use Rattle.child_masks.specs.Masks.{mask_from, masks_from, dens_from, HasNoTransition, has_origin}
use Rattle.child_masks.specs.Survey.{within_bound}
use Rattle.child_masks.specs.MaskOf.{AreKeptFor, AreKeptWith}
use Rattle.child_masks.specs.declared.survey.Survey.{Survey}
use Rattle.child_masks.specs.declared.fault.SurveyFault.{SurveyFault}
use Rattle.child_masks.specs.declared.fault.SurveyFault.TheVariants.{Transition, Denominator, Memory}

-- the source is one of this many points, or the new point of one of this many faces
abbrev pub IsAmong : ℕ → ℕ → SourcePoint → Type 0
IsAmong points faces (OfPoint v) = v < points
IsAmong points faces (OfFace f) = f < faces

-- a source that is a face is one of this many faces
abbrev pub IsFaceAmong : ℕ → SourcePoint → Type 0
IsFaceAmong faces (OfPoint v) = Unit {0}
IsFaceAmong faces (OfFace f) = f < faces

-- two lists have the denominators of the sources, each at least 1, and 0 for one above the bound
pub record HaveDenominators (denominator : SourcePoint → ℕ) (dens faces : List ℕ) : Type 0 where
  pub positive : (source : SourcePoint) → IsAmong (length dens) (length faces) source → 0 < denominator source
  pub point : (v : ℕ) → v < length dens → get_or dens v 0 ≡ within_bound (denominator (OfPoint v))
  pub face : (f : ℕ) → f < length faces → get_or faces f 0 ≡ within_bound (denominator (OfFace f))

-- the denominators of the points of a level, within their bounds
pub record ArePointDenominators (level : Level) (dens : List ℕ) : Type 0 where
  pub count : length dens ≡ level.point_count
  pub positive : All (λ den. 0 < den) dens
  pub short : All (λ den. den ≤ number_bound) dens

-- the denominators of the new points of the faces, with 0 for one above the bound
pub record AreFaceDenominators (level : Level) (dens faces : List ℕ) : Type 0 where
  pub count : length faces ≡ length level.polygons
  pub each : (f : ℕ) → f < length level.polygons → get_or faces f 0 ≡ within_bound (source_denominator level dens (OfFace f))

-- the faces that the terms use are marked, besides those marked before
pub record AreMarked (old : List Bool) (terms : List Term) (new : List Bool) : Type 0 where
  pub count : length new ≡ length old
  pub each : (f : ℕ) → f < length old → get_or new f false ≡ (get_or old f false || has_source terms (OfFace f))

-- one denominator is added, and the faces that the terms use are marked
pub record IsAdded (den : ℕ) (terms : List Term) (old new : Survey) : Type 0 where
  pub positive : 0 < den
  pub faces : new.faces.items ≡ old.faces.items
  pub dens : new.dens.items ≡ old.dens.items ++ within_bound den ∷ []
  pub named : AreMarked old.named.items terms new.named.items

-- this mask is added, whatever denominators the lists stand for
abbrev pub IsMaskAdded : List ℕ → Mask → Survey → Survey → Type 0
IsMaskAdded dens mask old new =
    (value : SourcePoint → ℕ) → HaveDenominators value dens old.faces.items → 0 < mask.denominator → IsAdded (mask_denominator value mask) mask.terms old new

-- The mask of a child point is added, and no weight is refused there. The mask of a vertex is kept, unless the vertex is
-- plain.
pub record IsPointAdded (parent : Topology) (scheme : Scheme) (dens : List ℕ) (origin : PointOrigin) (old new : Survey) : Type 0 where
  pub added : IsAdded (mask_denominator (source_denominator parent.level dens) (mask_from parent.level scheme origin)) (mask_from parent.level scheme origin).terms old new
  pub fine : (v : ℕ) → origin ≡ FromVertex v → transition_overflows_at parent.level scheme v ≡ false
  pub kept : AreKeptWith parent scheme origin old.masks new.masks

-- a survey has a place for each part of the level, and can count one mask more
pub record CanAdd (parent : Topology) (dens : List ℕ) (survey : Survey) : Type 0 where
  pub points : ArePointDenominators parent.level dens
  pub faces : AreFaceDenominators parent.level dens survey.faces.items
  pub marks : length survey.named.items ≡ length parent.level.polygons
  pub kept : length survey.masks.masks ≡ parent.level.point_count
  pub few : survey.masks.count + 1 < 2 ^ 32

-- the survey of the child points so far, none of which has a fault
pub record IsSurveyOf (parent : Topology) (scheme : Scheme) (origins : List PointOrigin) (dens : List ℕ) (survey : Survey) : Type 0 where
  pub positive : All (λ den. 0 < den) (dens_from parent.level scheme dens origins)
  pub found : survey.dens.items ≡ map within_bound (dens_from parent.level scheme dens origins)
  pub fine : HasNoTransition parent.level scheme origins
  pub face : AreFaceDenominators parent.level dens survey.faces.items
  pub named_count : length survey.named.items ≡ length parent.level.polygons
  pub named : (f : ℕ) → f < length parent.level.polygons
      → get_or survey.named.items f false ≡ list_any (λ mask. has_source mask.terms (OfFace f)) (masks_from parent.level scheme origins)
  pub masks : AreKeptFor parent scheme origins survey.masks

-- the fault that keeps a child point from a denominator
abbrev pub IsPointFault : Level → Scheme → PointOrigin → SurveyFault → Type 0
IsPointFault level scheme origin (Transition v) = (origin ≡ FromVertex v) × (transition_overflows_at level scheme v ≡ true)
IsPointFault level scheme origin (Denominator p) = ⊥
IsPointFault level scheme origin Memory = Unit {0}

-- the vertex has a child point, and this fault keeps it from a mask
abbrev pub IsRefusalAt : Level → Scheme → List PointOrigin → ℕ → SurveyFault → Type 0
IsRefusalAt level scheme origins v fault = IsTrue (has_origin origins (FromVertex v)) × IsPointFault level scheme (FromVertex v) fault
