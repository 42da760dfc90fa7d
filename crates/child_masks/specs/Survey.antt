-- The result of a survey.
use Rattle.std.specs.Prelude.{ℕ, ◌≡◌, ◌≢◌, ◌<◌, ◌≤◌, nat_le, false, List, length, get_or, if◌then◌else◌}
use Rattle.std.specs.List.{All, list_any}
use Rattle.subdiv_model.specs.Level.{Level}
use Rattle.subdiv_model.specs.Mask.{Scheme, OfFace, has_source}
use Rattle.subdiv_model.specs.Refined.{source_denominator}
use Rattle.subdiv_model.specs.Channel.{number_bound}
use Rattle.level_topology.specs.Topology.{Topology}
use Rattle.level_topology.specs.Child.{PointOrigin}
use Rattle.child_masks.specs.Masks.{masks_from, dens_from, HasNoTransition, IsFirstTransition, IsFirstDenominator}
use Rattle.child_masks.specs.MaskOf.{AreKeptFor}
use Rattle.child_masks.specs.declared.survey.Survey.{Survey}
use Rattle.child_masks.specs.declared.fault.SurveyFault.{SurveyFault}
use Rattle.child_masks.specs.declared.fault.SurveyFault.TheVariants.{Transition, Denominator, Memory}

-- the number, or 0 if it is above the bound of denominators
abbrev pub within_bound : ℕ → ℕ
within_bound n = if nat_le n number_bound then n else 0

-- no number of the list is 0
abbrev pub HasNoZero : List ℕ → Type 0
HasNoZero dens = (q : ℕ) → q < length dens → get_or dens q 1 ≢ 0

-- the least place of the list with 0
abbrev pub IsFirstZero : List ℕ → ℕ → Type 0
IsFirstZero dens p = (p < length dens) × (get_or dens p 1 ≡ 0) × ((q : ℕ) → q < p → get_or dens q 1 ≢ 0)

-- The denominators of the points follow from those before them and are within their bound, and no weight is refused. The
-- denominator of the new point of a face is 0 if it is above the bound. A face is marked where some mask uses it. The masks
-- of vertices that are not plain are kept.
pub record IsSurvey (parent : Topology) (scheme : Scheme) (origins : List PointOrigin) (before : List ℕ) (survey : Survey) : Type 0 where
  pub dens : survey.dens.items ≡ dens_from parent.level scheme before origins
  pub fine : HasNoTransition parent.level scheme origins
  pub short : All (λ den. den ≤ number_bound) (dens_from parent.level scheme before origins)
  pub face_count : length survey.faces.items ≡ length parent.level.polygons
  pub faces : (f : ℕ) → f < length parent.level.polygons → get_or survey.faces.items f 0 ≡ within_bound (source_denominator parent.level before (OfFace f))
  pub named_count : length survey.named.items ≡ length parent.level.polygons
  pub named : (f : ℕ) → f < length parent.level.polygons
      → get_or survey.named.items f false ≡ list_any (λ mask. has_source mask.terms (OfFace f)) (masks_from parent.level scheme origins)
  pub masks : AreKeptFor parent scheme origins survey.masks

-- the first fault of each kind over the whole level; memory may run out at any step
abbrev pub IsSurveyFault : Level → Scheme → List PointOrigin → List ℕ → SurveyFault → Type 0
IsSurveyFault level scheme origins dens (Transition v) = IsFirstTransition level scheme origins v
IsSurveyFault level scheme origins dens (Denominator p) = HasNoTransition level scheme origins × IsFirstDenominator (dens_from level scheme dens origins) p
IsSurveyFault level scheme origins dens Memory = Unit {0}
