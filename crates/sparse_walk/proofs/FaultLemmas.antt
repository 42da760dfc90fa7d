-- The first fault of sparse levels is that of the first level that has one.
use Rattle.std.proofs.Common.{◌≡◌, ℕ, suc, ◌+◌, ◌-◌, ◌^◌, ◌<◌, ◌≤◌, Bool, true, false, nat_lt, List, [], ◌++◌, length, Some, arith, refl, ap, sym, ◌∙◌, subst}
use Rattle.std.specs.List.{list_any}
use Rattle.std.proofs.lemmas.Bool.{lt-ltb, le-ltb}
use Rattle.subdiv_model.specs.Lists.{first_of}
use Rattle.subdiv_model.specs.Level.{Level}
use Rattle.subdiv_model.specs.Child.{refined_level}
use Rattle.subdiv_model.specs.Feature.{FaceFacts}
use Rattle.subdiv_model.specs.Sparse.{FacePredicate}
use Rattle.subdiv_model.specs.Limits.{face_limit}
use Rattle.subdiv_model.specs.SparseFaults.{points_with_child, present_faces, sparse_levels, sparse_level_faults, sparse_faults}
use Rattle.subdiv_model.specs.Fault.{Fault, Track, TooLarge, LevelFaces, Overflow, ChaikinOverflow}
use Rattle.subdiv_model.specs.Channel.{Channel, Asked, Sharpnesses, fault_where, chaikin_overflows_at, asked_faults, level_faults}
use Rattle.level_walk.specs.declared.fault.Cause.{Cause}
use Rattle.level_walk.specs.declared.fault.Cause.TheVariants as cause
use Rattle.level_walk.specs.declared.fault.OverflowKind.TheVariants as kind
use Rattle.level_walk.proofs.UniformFaultLemmas.{flat-none, first-from-0}
use Rattle.sparse_laws.proofs.OverflowLemmas.{faces-counted, overflows-here, overflows-there}
use Rattle.sparse_level.specs.View.{SparseTopology, SparseChild}
use Rattle.sparse_refiner.specs.Refined.{IsRefined, SparseOf, places_for}
use Rattle.sparse_walk.specs.Step.{IsSparseCause}
use Rattle.sparse_walk.specs.Faults.{HasNoFaultTo, IsCauseAt, IsLevelFault}
use Rattle.sparse_walk.proofs.MaskLemmas.{kept, by}

-- halves overflow at a point of the level that has a present child
abbrev has_overflow : Level → FacePredicate → ℕ → Bool
has_overflow base predicate k = list_any (chaikin_overflows_at (refined_level base k)) (points_with_child base predicate (refined_level base k).point_count k)

-- in the level after this one few enough faces are present, and no halves overflow
pub record IsFine (base : Level) (predicate : FacePredicate) (k : ℕ) : Type 0 where
  pub few : present_faces base predicate (suc k) ≤ 2 ^ 22
  pub fine : has_overflow base predicate k ≡ false

abbrev pub AreFine : Level → FacePredicate → ℕ → Type 0
AreFine base predicate depth = (k : ℕ) → k < depth → IsFine base predicate k

-- the reason why the level after this one is not made
abbrev pub HasCause : Level → FacePredicate → ℕ → Cause → Type 0
HasCause base predicate k (cause.TooManyFaces count) = (count ≡ present_faces base predicate (suc k)) × (2 ^ 22 < count)
HasCause base predicate k (cause.Overflow kind.Chaikin) = (present_faces base predicate (suc k) ≤ 2 ^ 22) × (has_overflow base predicate k ≡ true)
HasCause base predicate k (cause.Overflow kind.Transition) = ⊥
HasCause base predicate k (cause.Overflow kind.Denominator) = ⊥
HasCause base predicate k (cause.Overflow kind.Value) = ⊥
HasCause base predicate k cause.TooManyEntries = ⊥
HasCause base predicate k cause.Memory = Unit {0}

-- Two faults, one before the other.

neither : (a b : Bool) (x y : Fault) → a ≡ false → b ≡ false → fault_where a x ++ (fault_where b y ++ []) ≡ []
neither true b x y e f = absurd (cc)
neither false true x y e f = absurd (cc)
neither false false x y e f = refl

the-first : (a : Bool) (x : Fault) (others : List Fault) → a ≡ true → first_of (fault_where a x ++ others) ≡ Some x
the-first true x others e = refl
the-first false x others e = absurd (cc)

the-second : (a b : Bool) (x y : Fault) (others : List Fault) → a ≡ false → b ≡ true → first_of (fault_where a x ++ (fault_where b y ++ others)) ≡ Some y
the-second true b x y others e f = absurd (cc)
the-second false true x y others e f = refl
the-second false false x y others e f = absurd (cc)

module _ (channel : Channel) (predicate : FacePredicate) (track : Track) where
  none-there : (k : ℕ) → IsFine channel.base predicate k → sparse_level_faults Sharpnesses channel predicate track k ≡ []
  none-there k is =
      neither (nat_lt face_limit (present_faces channel.base predicate (suc k))) (has_overflow channel.base predicate k) (TooLarge (LevelFaces (suc k) (present_faces channel.base predicate (suc k)))) (Overflow track (suc k) ChaikinOverflow)
      (le-ltb face_limit (present_faces channel.base predicate (suc k)) is.few) is.fine

  -- levels that are made have no fault
  pub sparse-none : (depth : ℕ) → AreFine channel.base predicate depth → sparse_faults Sharpnesses channel predicate track depth ≡ []
  sparse-none depth are = flat-none (sparse_level_faults Sharpnesses channel predicate track) 0 depth (λ k h. none-there k (are k (omega (arith, h))))

  -- the first fault of the next level is the first of all
  sparse-first : (k depth : ℕ) (fault : Fault) → k < depth → AreFine channel.base predicate k → first_of (sparse_level_faults Sharpnesses channel predicate track k) ≡ Some fault
      → first_of (sparse_faults Sharpnesses channel predicate track depth) ≡ Some fault
  sparse-first k depth fault within are here =
      first-from-0 (sparse_level_faults Sharpnesses channel predicate track) depth k fault within (λ j h. none-there j (are j h)) here

  large-first : (k depth count : ℕ) → k < depth → AreFine channel.base predicate k → HasCause channel.base predicate k (cause.TooManyFaces count)
      → first_of (sparse_faults Sharpnesses channel predicate track depth) ≡ Some (TooLarge (LevelFaces (suc k) count))
  large-first k depth count within are is =
      let present = present_faces channel.base predicate (suc k) in
      sparse-first k depth (TooLarge (LevelFaces (suc k) present)) within are
      (the-first (nat_lt face_limit present) (TooLarge (LevelFaces (suc k) present)) (level_faults Sharpnesses (sparse_levels channel predicate) track k)
      (lt-ltb face_limit present (subst (λ n. 2 ^ 22 < n) is.0 is.1)))
      ∙ ap (λ n. Some (TooLarge (LevelFaces (suc k) n))) (sym is.0)

  chaikin-first : (k depth : ℕ) → k < depth → AreFine channel.base predicate k → HasCause channel.base predicate k (cause.Overflow kind.Chaikin)
      → first_of (sparse_faults Sharpnesses channel predicate track depth) ≡ Some (Overflow track (suc k) ChaikinOverflow)
  chaikin-first k depth within are is =
      let present = present_faces channel.base predicate (suc k) in
      sparse-first k depth (Overflow track (suc k) ChaikinOverflow) within are
      (the-second (nat_lt face_limit present) (has_overflow channel.base predicate k) (TooLarge (LevelFaces (suc k) present)) (Overflow track (suc k) ChaikinOverflow)
      (asked_faults Sharpnesses (sparse_levels channel predicate) track k) (le-ltb face_limit present is.0) is.1)

-- the levels before have no fault, and this is the cause that the next one is not reached
pub fault-next : (asked : Asked) (channel : Channel) (predicate : FacePredicate) (k depth : ℕ) (why : Cause) → k < depth → HasNoFaultTo asked channel predicate k
    → IsCauseAt asked channel predicate depth (k + 1) why → IsLevelFault asked channel predicate depth (k + 1) why
fault-next asked channel predicate k depth why within before is = record {
  within = omega (arith, within);
  before = subst (HasNoFaultTo asked channel predicate) (one-less k) before;
  is = is;
}
  where
    one-less : (k : ℕ) → k ≡ k + 1 - 1
    one-less k = omega arith

-- memory runs out on the way to the next level
pub memory-next : (asked : Asked) (channel : Channel) (predicate : FacePredicate) (k depth : ℕ) (why : Cause) → k < depth → HasNoFaultTo asked channel predicate k → why ≡ cause.Memory
    → IsLevelFault asked channel predicate depth (k + 1) why
memory-next asked channel predicate k depth why within before same =
    subst (IsLevelFault asked channel predicate depth (k + 1)) (sym same) (fault-next asked channel predicate k depth cause.Memory within before tt)

module _ (channel : Channel) (predicate : FacePredicate) (k depth : ℕ) (within : k < depth) (are : AreFine channel.base predicate k) where
  named : suc k ≡ k + 1
  named = omega arith

  cause-next : (why : Cause) → HasCause channel.base predicate k why → IsCauseAt Sharpnesses channel predicate depth (k + 1) why
  cause-next (cause.TooManyFaces count) is = λ track. large-first channel predicate track k depth count within are is ∙ ap (λ n. Some (TooLarge (LevelFaces n count))) named
  cause-next (cause.Overflow kind.Chaikin) is = λ track. chaikin-first channel predicate track k depth within are is ∙ ap (λ n. Some (Overflow track n ChaikinOverflow)) named
  cause-next (cause.Overflow kind.Transition) is = absurd is
  cause-next (cause.Overflow kind.Denominator) is = absurd is
  cause-next (cause.Overflow kind.Value) is = absurd is
  cause-next cause.TooManyEntries is = absurd is
  cause-next cause.Memory is = tt

  -- the next level is the first that is not reached
  pub refused-first : (why : Cause) → HasCause channel.base predicate k why → IsLevelFault Sharpnesses channel predicate depth (k + 1) why
  refused-first why is = fault-next Sharpnesses channel predicate k depth why within (λ track. sparse-none channel predicate track k are) (cause-next why is)

-- The results of a step in the terms of the definitions.

module _ (test : FaceFacts → Bool) (t : SparseTopology) (of : SparseOf test t) where
  counted : length (places_for test t) ≡ present_faces of.base of.predicate (suc t.depth)
  counted = faces-counted (kept test t of) (by test t of)

  pub fine-here : (step : SparseChild) → IsRefined test t step → IsFine of.base of.predicate t.depth
  fine-here step refined = record {
    few = subst (λ n. n ≤ 2 ^ 22) counted refined.few;
    fine = go (has_overflow of.base of.predicate t.depth) refl;
  }
    where
      go : (b : Bool) → has_overflow of.base of.predicate t.depth ≡ b → has_overflow of.base of.predicate t.depth ≡ false
      go false e = e
      go true e =
          let found = overflows-there (kept test t of) (by test t of) e in
          let fine = refined.fine found.0 found.1.exists found.1.on in
          absurd (cc (fine, found.1.overflows))

  pub cause-here : (cause : Cause) → IsSparseCause test t cause → HasCause of.base of.predicate t.depth cause
  cause-here (cause.TooManyFaces count) is = (is.0 ∙ counted, is.1)
  cause-here (cause.Overflow kind.Chaikin) is = (subst (λ n. n ≤ 2 ^ 22) counted is.few, overflows-here (kept test t of) (by test t of) is.v is.overflows)
  cause-here (cause.Overflow kind.Transition) is = is
  cause-here (cause.Overflow kind.Denominator) is = is
  cause-here (cause.Overflow kind.Value) is = is
  cause-here cause.TooManyEntries is = is
  cause-here cause.Memory is = tt
