-- One step of values: the points of a child of a level, each by the mask of its origin. Source: this library.
use Rattle.std.specs.Prelude.{ℕ, ◌≡◌, ◌*◌, ◌<◌, ◌≤◌, List, length, get_or, Result, MatchResult}
use Rattle.std.specs.List.{All}
use Rattle.subdiv_model.specs.Level.{Level}
use Rattle.subdiv_model.specs.Value.{Value}
use Rattle.subdiv_model.specs.Mask.{Scheme}
use Rattle.subdiv_model.specs.Channel.{number_bound}
use Rattle.level_topology.specs.Topology.{Topology}
use Rattle.level_topology.specs.Child.{PointOrigin}
use Rattle.child_masks.specs.Masks.{dens_from, values_from, HasNoTransition, IsFirstTransition, IsFirstDenominator}
use Rattle.child_masks.specs.Survey.{IsSurvey, IsSurveyFault}
use Rattle.child_masks.specs.declared.fault.SurveyFault.{SurveyFault}
use Rattle.child_masks.specs.declared.survey.Survey.{Survey}
use Rattle.primvar_refine.specs.Rows.{Row, row_at, dens_of, StandFor, AreWithin, least_bound, greatest_of}
use Rattle.primvar_refine.specs.declared.fault.ValueFault.{ValueFault}
use Rattle.primvar_refine.specs.declared.fault.ValueFault.TheVariants.{Transition, Denominator, TooBig, Memory}

-- the common denominators of the points, from those of the points of the level
abbrev pub refined_dens : Level → Scheme → List PointOrigin → List Row → List ℕ
refined_dens level scheme origins rows = dens_from level scheme (dens_of rows) origins

-- Each point has its common denominator, and in each column the values that follow from those of the level. If no value of
-- the level exceeds a whole number in amount, no new value does. No weight is refused, and all numbers are within their
-- bounds.
pub record AreRefined (level : Level) (scheme : Scheme) (origins : List PointOrigin) (rows refined : List Row) : Type 0 where
  pub dens : dens_of refined ≡ refined_dens level scheme origins rows
  pub values : (column : ℕ) (values : List Value) → StandFor rows column values → StandFor refined column (values_from level scheme origins values)
  pub within : (most : ℕ) → AreWithin most rows → AreWithin most refined
  pub alike : All (λ row. length row.numbers ≡ length (row_at rows 0).numbers) refined
  pub fine : HasNoTransition level scheme origins
  pub short : All (λ den. den ≤ number_bound) (dens_of refined)
  pub kept : greatest_of (dens_of refined) * least_bound rows ≤ number_bound

-- the greatest denominator is within its bound, but too great for the values; this point is the first that has it
pub record IsTooBig (dens : List ℕ) (most p : ℕ) : Type 0 where
  pub short : All (λ den. den ≤ number_bound) dens
  pub exists : p < length dens
  pub greatest : get_or dens p 1 ≡ greatest_of dens
  pub first : (q : ℕ) → q < p → get_or dens q 1 < greatest_of dens
  pub great : number_bound < greatest_of dens * most

-- the first fault of the step, each kind over the whole level; memory may run out at any step
abbrev pub IsValueFault : Level → Scheme → List PointOrigin → List Row → ValueFault → Type 0
IsValueFault level scheme origins rows (Transition v) = IsFirstTransition level scheme origins v
IsValueFault level scheme origins rows (Denominator p) =
    HasNoTransition level scheme origins × IsFirstDenominator (refined_dens level scheme origins rows) p
IsValueFault level scheme origins rows (TooBig p) =
    HasNoTransition level scheme origins × IsTooBig (refined_dens level scheme origins rows) (least_bound rows) p
IsValueFault level scheme origins rows Memory = Unit {0}

-- the fault of a step whose survey has one
abbrev pub IsFaultOfStep : SurveyFault → ValueFault → Type 0
IsFaultOfStep found fault =
    (level : Level) (scheme : Scheme) (origins : List PointOrigin) (rows : List Row) → IsSurveyFault level scheme origins (dens_of rows) found
    → IsValueFault level scheme origins rows fault

-- the survey of a step, or the first fault of the step
abbrev pub IsStepSurvey : Topology → Scheme → List PointOrigin → List Row → Result Survey ValueFault → Type 0
IsStepSurvey parent scheme origins rows result =
    MatchResult result (IsSurvey parent scheme origins (dens_of rows)) (IsValueFault parent.level scheme origins rows)

-- The values of the points from those of the points of the level, or the first fault of the step. The last argument maps
-- values to rows.
abbrev pub IsValueRefinement : {X : Type 0} → Level → Scheme → List PointOrigin → List Row → Result X ValueFault → (X → List Row) → Type 0
IsValueRefinement level scheme origins rows result shown =
    MatchResult result (λ refined. AreRefined level scheme origins rows (shown refined)) (λ fault. IsValueFault level scheme origins rows fault)
