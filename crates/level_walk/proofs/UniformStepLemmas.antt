-- The answer of a refinement as that of a step of a walk.
use Rattle.std.proofs.Common.{◌≡◌, Result, Ok, Err, MatchResult, sym, subst}
use Rattle.level_topology.specs.Topology.{Topology}
use Rattle.level_walk.specs.declared.fault.Cause.{Cause}
use Rattle.uniform_refiner.specs.Refined.{IsRefusal}
use Rattle.uniform_refiner.specs.declared.fault.RefineFault.{RefineFault}
use Rattle.uniform_refiner.specs.declared.fault.RefineFault.TheVariants.{TooLarge, Chaikin, Memory}
use Rattle.level_walk.specs.UniformStep.{cause_of, IsLevelCause}

-- the cause is that of the refusal
pub level-cause : (t : Topology) (fault : RefineFault) → IsRefusal t fault → IsLevelCause t.level (cause_of fault)
level-cause t (TooLarge count) is = is
level-cause t (Chaikin v) is = record { few = is.few; v = v; exists = is.exists; overflows = is.overflows }
level-cause t Memory is = tt

-- a claim about one result follows from a claim about the other
pub as-step : {T : Type 0} (from : Result T RefineFault) (r : Result T Cause) (P : T → Type 0) (Q : RefineFault → Type 0) (P' : T → Type 0) (Q' : Cause → Type 0)
    → MatchResult from (λ next. r ≡ Ok next) (λ fault. r ≡ Err (cause_of fault)) → MatchResult from P Q
    → ((next : T) → P next → P' next) → ((fault : RefineFault) → Q fault → Q' (cause_of fault)) → MatchResult r P' Q'
as-step (Ok next) r P Q P' Q' is p made refused = subst (λ r. MatchResult r P' Q') (sym is) (made next p)
as-step (Err fault) r P Q P' Q' is q made refused = subst (λ r. MatchResult r P' Q') (sym is) (refused fault q)
