-- Numbers carried from a level to its child within their bounds, or the first cause that prevents it.
-- Source: this profile.
use Rattle.std.specs.Prelude.{ℕ, ◌≡◌, ◌+◌, ◌*◌, ◌<◌, ◌≤◌, true, false, nat_lt, List, length, Result, MatchResult}
use Rattle.std.specs.List.{list_any}
use Rattle.subdiv_model.specs.Level.{Level}
use Rattle.subdiv_model.specs.Mask.{Scheme}
use Rattle.subdiv_model.specs.Channel.{number_bound, entry_bound}
use Rattle.level_topology.specs.Topology.{Topology}
use Rattle.level_topology.specs.Child.{PointOrigin}
use Rattle.primvar_refine.specs.Rows.{Row, dens_of, AreGood, AreWithin, greatest_of}
use Rattle.child_masks.specs.Masks.{IsFirstTransition, HasNoTransition, step_terms, dens_from}
use Rattle.primvar_refine.specs.Step.{refined_dens, AreRefined}
use Rattle.stencil_apply.specs.Table.{Table, IsTable, greatest_of as greatest_in}
use Rattle.stencil_factory.specs.Rows.{dens_of as dens_of_table}
use Rattle.stencil_factory.specs.Composed.{IsComposed, entries_from}
use Rattle.level_walk.specs.declared.fault.Cause.{Cause}
use Rattle.level_walk.specs.declared.fault.Cause.TheVariants.{TooManyFaces, Overflow, TooManyEntries, Memory}
use Rattle.level_walk.specs.declared.fault.OverflowKind.TheVariants.{Chaikin, Transition, Denominator, Value}

-- a value for each point of a level, none with an amount above `most`
pub record AreValues (most : ℕ) (t : Topology) (rows : List Row) : Type 0 where
  pub each : length rows ≡ t.level.point_count
  pub good : AreGood rows
  pub within : AreWithin most rows

-- the values of the points of a child; the greatest denominator times `most` is within the bound of numbers
pub record AreCarried (most : ℕ) (level : Level) (scheme : Scheme) (origins : List PointOrigin) (rows next : List Row) : Type 0 where
  pub refined : AreRefined level scheme origins rows next
  pub fits : greatest_of (dens_of next) * most ≤ number_bound

-- the table of the points of a child; the greatest denominator times `most` is within the bound of numbers
pub record IsCarried (most : ℕ) (level : Level) (scheme : Scheme) (origins : List PointOrigin) (table next : Table) : Type 0 where
  pub composed : IsComposed level scheme origins table next
  pub made : IsTable next
  pub fits : greatest_in next * most ≤ number_bound

-- The cause that keeps numbers from points with these common denominators, in rows with this many entries. It is the first number that
-- passes its bound. Memory may run out at any level.
abbrev pub IsCarryCause : ℕ → Level → Scheme → List PointOrigin → List ℕ → ℕ → Cause → Type 0
IsCarryCause most level scheme origins dens entries (Overflow Transition) = (v : ℕ) × IsFirstTransition level scheme origins v
IsCarryCause most level scheme origins dens entries (Overflow Denominator) =
    HasNoTransition level scheme origins × (list_any (nat_lt number_bound) dens ≡ true)
IsCarryCause most level scheme origins dens entries TooManyEntries =
    HasNoTransition level scheme origins × (list_any (nat_lt number_bound) dens ≡ false) × (entry_bound < entries)
IsCarryCause most level scheme origins dens entries (Overflow Value) =
    HasNoTransition level scheme origins × (list_any (nat_lt number_bound) dens ≡ false) × (entries ≤ entry_bound) × (number_bound < greatest_of dens * most)
IsCarryCause most level scheme origins dens entries Memory = Unit {0}
IsCarryCause most level scheme origins dens entries (TooManyFaces count) = ⊥
IsCarryCause most level scheme origins dens entries (Overflow Chaikin) = ⊥

-- the cause for values, which have no entries
abbrev pub IsValueCause : ℕ → Level → Scheme → List PointOrigin → List Row → Cause → Type 0
IsValueCause most level scheme origins rows cause = IsCarryCause most level scheme origins (refined_dens level scheme origins rows) 0 cause

-- the cause for a table
abbrev pub IsTableCause : ℕ → Level → Scheme → List PointOrigin → Table → Cause → Type 0
IsTableCause most level scheme origins table cause =
    IsCarryCause most level scheme origins (dens_from level scheme (dens_of_table table) origins) (entries_from level scheme origins table) cause

-- the values of the points of a child, or the cause; the last function gives the values as rows
abbrev pub AreNextValues : {X : Type 0} → ℕ → Level → Scheme → List PointOrigin → List Row → Result X Cause → (X → List Row) → Type 0
AreNextValues most level scheme origins rows result shown =
    MatchResult result (λ next. AreCarried most level scheme origins rows (shown next)) (λ cause. IsValueCause most level scheme origins rows cause)

-- the table of the points of a child, or the cause
abbrev pub IsNextTable : ℕ → Level → Scheme → List PointOrigin → Table → Result Table Cause → Type 0
IsNextTable most level scheme origins table result =
    MatchResult result (λ next. IsCarried most level scheme origins table next) (λ cause. IsTableCause most level scheme origins table cause)

-- the call takes at most one step for each mask term
pub record AreTermSteps (level : Level) (scheme : Scheme) (origins : List PointOrigin) (old new : ℕ) : Type 0 where
  pub most : new ≤ old + step_terms level scheme origins
  pub later : old ≤ new
