-- The faults of the levels of a track: the first of all is the first of the first level that has one.
use Rattle.std.proofs.Common.{◌≡◌, ℕ, zero, suc, ◌+◌, ◌-◌, ◌^◌, ◌<◌, ◌≤◌, Bool, true, false, ◌||◌, List, [], ◌∷◌, ◌++◌, length, Some, None, arith, refl, ap, sym, ◌∙◌, subst}
use Rattle.std.specs.List.{flat_map, list_any, range_with_len, sum_by}
use Rattle.subdiv_model.specs.Lists.{first_of}
use Rattle.subdiv_model.specs.Level.{Level}
use Rattle.subdiv_model.specs.Fault.{Fault, Overflow, Track, ChaikinOverflow}
use Rattle.subdiv_model.specs.Channel.{Channel, TrackLevels, Asked, Sharpnesses, fault_where, chaikin_overflows_at, at_some_point, channel_level, has_chaikin_overflow, asked_faults, level_faults, track_faults, channel_faults, whole_levels}
use Rattle.level_walk.specs.declared.fault.Cause.{Cause}
use Rattle.level_walk.specs.declared.fault.Cause.TheVariants as cause
use Rattle.level_walk.specs.declared.fault.OverflowKind.TheVariants as kind
use Rattle.level_walk.specs.UniformLevels.{AreMade}
use Rattle.level_walk.specs.UniformStep.{IsLevelCause}
use Rattle.level_walk.specs.UniformFaults.{faces_next, Reaches, IsFirstFault, IsCauseAt, IsLevelFault}

-- the first of two lists, one after the other
pub first-here : {X : Type 0} (xs ys : List X) (x : X) → first_of xs ≡ Some x → first_of (xs ++ ys) ≡ Some x
first-here [] ys x h = absurd (cc)
first-here (y ∷ xs) ys x h = h

pub first-behind : {X : Type 0} (xs ys : List X) → first_of xs ≡ None → first_of (xs ++ ys) ≡ first_of ys
first-behind [] ys h = refl
first-behind (y ∷ xs) ys h = absurd (cc)

-- empty lists for each number of a range give an empty list
pub flat-none : {X : Type 0} (f : ℕ → List X) (a n : ℕ) → ((k : ℕ) → k < a + n → f k ≡ []) → flat_map f (range_with_len a n) ≡ []
flat-none f a zero none = refl
flat-none f a (suc n) none =
    ap (λ xs. xs ++ flat_map f (range_with_len (a + 1) n)) (none a (omega arith)) ∙ flat-none f (a + 1) n (λ k h. none k (omega (arith, h)))

-- a list without items has none in any part
no-parts : {X : Type 0} (xs ys : List X) → xs ++ ys ≡ [] → (xs ≡ []) × (ys ≡ [])
no-parts [] ys h = (refl, h)
no-parts (x ∷ xs) ys h = absurd (cc)

none-each : {X : Type 0} (f : ℕ → List X) (a n gap : ℕ) → gap < n → flat_map f (range_with_len a n) ≡ [] → f (a + gap) ≡ []
none-each f a zero gap within none = absurd (omega (arith, within))
none-each f a (suc n) zero within none = ap f (plus-none a) ∙ (no-parts (f a) (flat_map f (range_with_len (a + 1) n)) none).0
  where
    plus-none : (n : ℕ) → n + 0 ≡ n
    plus-none n = omega arith
none-each f a (suc n) (suc gap) within none =
    ap f (moved a gap) ∙ none-each f (a + 1) n gap (omega (arith, within)) (no-parts (f a) (flat_map f (range_with_len (a + 1) n)) none).1
  where
    moved : (a gap : ℕ) → a + suc gap ≡ a + 1 + gap
    moved a gap = omega arith

-- the first item comes from the first number of the range with a list that is not empty
pub flat-first : {X : Type 0} (f : ℕ → List X) (a n gap : ℕ) (x : X) → gap < n → ((j : ℕ) → j < a + gap → f j ≡ []) → first_of (f (a + gap)) ≡ Some x →
    first_of (flat_map f (range_with_len a n)) ≡ Some x
flat-first f a zero gap x within none here = absurd (omega (arith, within))
flat-first f a (suc n) zero x within none here =
    first-here (f a) (flat_map f (range_with_len (a + 1) n)) x (ap (λ k. first_of (f k)) (plus-none a) ∙ here)
  where
    plus-none : (n : ℕ) → n ≡ n + 0
    plus-none n = omega arith
flat-first f a (suc n) (suc gap) x within none here =
    ap (λ xs. first_of (xs ++ flat_map f (range_with_len (a + 1) n))) (none a (omega arith))
    ∙ flat-first f (a + 1) n gap x (omega (arith, within)) (λ j h. none j (omega (arith, h))) (ap (λ k. first_of (f k)) (moved a gap) ∙ here)
  where
    moved : (a gap : ℕ) → a + 1 + gap ≡ a + suc gap
    moved a gap = omega arith

zero-plus : (k : ℕ) → 0 + k ≡ k
zero-plus k = omega arith

-- the same claim for a range from 0 on
pub first-from-0 : {X : Type 0} (f : ℕ → List X) (n k : ℕ) (x : X) → k < n → ((j : ℕ) → j < k → f j ≡ []) → first_of (f k) ≡ Some x →
    first_of (flat_map f (range_with_len 0 n)) ≡ Some x
first-from-0 f n k x within none here = flat-first f 0 n k x within (λ j h. none j (omega (arith, h))) (ap (λ i. first_of (f i)) (zero-plus k) ∙ here)

-- the faults of levels, whatever is asked of each: none where no level has one, and else the first of the first level that has
pub none-of-levels : (asked : Asked) (levels : TrackLevels) (track : Track) (depth : ℕ) → ((k : ℕ) → k < depth → level_faults asked levels track k ≡ [])
    → track_faults asked levels track depth ≡ []
none-of-levels asked levels track depth none = flat-none (level_faults asked levels track) 0 depth (λ k h. none k (omega (arith, h)))

pub first-of-levels : (asked : Asked) (levels : TrackLevels) (track : Track) (k depth : ℕ) (fault : Fault) → k < depth → ((j : ℕ) → j < k → level_faults asked levels track j ≡ [])
    → first_of (level_faults asked levels track k) ≡ Some fault → first_of (track_faults asked levels track depth) ≡ Some fault
first-of-levels asked levels track k depth fault within none here = first-from-0 (level_faults asked levels track) depth k fault within none here

-- a test over a range
pub any-none : (test : ℕ → Bool) (a n : ℕ) → ((v : ℕ) → v < a + n → test v ≡ false) → list_any test (range_with_len a n) ≡ false
any-none test a zero none = refl
any-none test a (suc n) none =
    ap (λ b. b || list_any test (range_with_len (a + 1) n)) (none a (omega arith)) ∙ any-none test (a + 1) n (λ v h. none v (omega (arith, h)))

pub any-here : (test : ℕ → Bool) (a n gap : ℕ) → gap < n → test (a + gap) ≡ true → list_any test (range_with_len a n) ≡ true
any-here test a zero gap within here = absurd (omega (arith, within))
any-here test a (suc n) zero within here =
    ap (λ k. test k || list_any test (range_with_len (a + 1) n)) (plus-none a) ∙ ap (λ b. b || list_any test (range_with_len (a + 1) n)) here
  where
    plus-none : (n : ℕ) → n ≡ n + 0
    plus-none n = omega arith
any-here test a (suc n) (suc gap) within here =
    either (test a) (list_any test (range_with_len (a + 1) n)) (any-here test (a + 1) n gap (omega (arith, within)) (ap test (moved a gap) ∙ here))
  where
    moved : (a gap : ℕ) → a + 1 + gap ≡ a + suc gap
    moved a gap = omega arith

    either : (b c : Bool) → c ≡ true → (b || c) ≡ true
    either true c h = refl
    either false c h = h

pub any-from-0 : (test : ℕ → Bool) (n v : ℕ) → v < n → test v ≡ true → list_any test (range_with_len 0 n) ≡ true
any-from-0 test n v within here = any-here test 0 n v within (ap test (zero-plus v) ∙ here)

-- The case in which only sharpnesses count.

none-where : (b : Bool) (fault : Fault) → b ≡ false → fault_where b fault ++ [] ≡ []
none-where true fault h = absurd (cc)
none-where false fault h = refl

first-where : (b : Bool) (fault : Fault) (others : List Fault) → b ≡ true → first_of (fault_where b fault ++ others) ≡ Some fault
first-where true fault others h = refl
first-where false fault others h = absurd (cc)

-- levels that were made have no fault
pub none-made : (channel : Channel) (depth : ℕ) → AreMade channel.base depth → (track : Track) (k : ℕ) → k < depth → level_faults Sharpnesses (whole_levels channel) track k ≡ []
none-made channel depth made track k h =
    let level = channel_level channel k in
    none-where (has_chaikin_overflow (whole_levels channel) k) (Overflow track (suc k) ChaikinOverflow)
    (any-none (chaikin_overflows_at level) 0 level.point_count (λ v g. (made k h).fine v (omega (arith, g))))

pub no-fault-made : (channel : Channel) (depth : ℕ) → AreMade channel.base depth → (track : Track) → channel_faults Sharpnesses channel track depth ≡ []
no-fault-made channel depth made track = none-of-levels Sharpnesses (whole_levels channel) track depth (none-made channel depth made track)

-- a channel whose levels were made reaches the last of them
pub reaches-made : (channel : Channel) (level : ℕ) → AreMade channel.base level → Reaches Sharpnesses channel level
reaches-made channel level made = record { few = λ k h. (made k h).few; fine = no-fault-made channel level made }

-- The fault of the level that a channel does not reach.

one-more : (k : ℕ) → suc k ≡ k + 1
one-more k = omega arith

one-less : (k : ℕ) → k ≡ k + 1 - 1
one-less k = omega arith

pub fault-next : (asked : Asked) (channel : Channel) (k depth : ℕ) (why : Cause) → k < depth → Reaches asked channel k → IsCauseAt asked channel depth (k + 1) why
    → IsLevelFault asked channel depth (k + 1) why
fault-next asked channel k depth why within reaches is = record {
  within = omega (arith, within);
  before = subst (Reaches asked channel) (one-less k) reaches;
  is = is;
}

-- the level has few faces, but a fault of the kinds that count
pub first-next : (asked : Asked) (channel : Channel) (k depth : ℕ) (fault : Track → ℕ → Fault) → faces_next channel k ≤ 2 ^ 22
    → ((track : Track) → first_of (channel_faults asked channel track depth) ≡ Some (fault track (suc k))) → IsFirstFault asked channel depth (k + 1) (λ track. fault track (k + 1))
first-next asked channel k depth fault few first = record {
  few = subst (λ n. faces_next channel n ≤ 2 ^ 22) (one-less k) few;
  first = λ track. first track ∙ ap (λ n. Some (fault track n)) (one-more k);
}

-- memory runs out on the way to the level, or outside of the walk
pub memory-next : (asked : Asked) (channel : Channel) (k depth : ℕ) (why : Cause) → k < depth → Reaches asked channel k → why ≡ cause.Memory
    → IsLevelFault asked channel depth (k + 1) why
memory-next asked channel k depth why within reaches same =
    subst (IsLevelFault asked channel depth (k + 1)) (sym same) (fault-next asked channel k depth cause.Memory within reaches tt)

pub memory-outside : (asked : Asked) (channel : Channel) (depth : ℕ) → IsLevelFault asked channel depth 0 cause.Memory
memory-outside asked channel depth = record {
  within = omega arith;
  before = record { few = λ k h. absurd (omega (arith, h)); fine = λ track. refl };
  is = tt;
}

-- the next level cannot be made
module _ (asked : Asked) (channel : Channel) (k : ℕ) (reaches : Reaches asked channel k)
    (level : Level) (here : level ≡ channel_level channel k) (depth : ℕ) (within : k < depth) where
  none : (track : Track) (j : ℕ) → j < k → level_faults asked (whole_levels channel) track j ≡ []
  none track j h =
      ap (level_faults asked (whole_levels channel) track) (sym (zero-plus j))
      ∙ none-each (level_faults asked (whole_levels channel) track) 0 k j h (reaches.fine track)

  faces-here : sum_by length level.polygons ≡ faces_next channel k
  faces-here = ap (λ (some : Level). sum_by length some.polygons) here

  chaikin : (v : ℕ) → v < level.point_count → chaikin_overflows_at level v ≡ true → has_chaikin_overflow (whole_levels channel) k ≡ true
  chaikin v exists overflows =
      subst (λ some. at_some_point (chaikin_overflows_at some) some ≡ true) here (any-from-0 (chaikin_overflows_at level) level.point_count v exists overflows)

  cause-next : (why : Cause) → IsLevelCause level why → IsCauseAt asked channel depth (k + 1) why
  cause-next (cause.TooManyFaces count) is = record {
    after_level_0 = omega arith;
    count_is = is.0 ∙ faces-here ∙ ap (faces_next channel) (one-less k);
    many = is.1;
  }
  cause-next (cause.Overflow kind.Chaikin) is =
      first-next asked channel k depth (λ track n. Overflow track n ChaikinOverflow) (omega (arith, faces-here, is.few)) (λ track.
      first-of-levels asked (whole_levels channel) track k depth (Overflow track (suc k) ChaikinOverflow) within (none track)
      (first-where (has_chaikin_overflow (whole_levels channel) k) (Overflow track (suc k) ChaikinOverflow) (asked_faults asked (whole_levels channel) track k)
      (chaikin is.v is.exists is.overflows)))
  cause-next (cause.Overflow kind.Transition) is = absurd is
  cause-next (cause.Overflow kind.Denominator) is = absurd is
  cause-next (cause.Overflow kind.Value) is = absurd is
  cause-next cause.TooManyEntries is = absurd is
  cause-next cause.Memory is = tt

  pub refused-first : (why : Cause) → IsLevelCause level why → IsLevelFault asked channel depth (k + 1) why
  refused-first why is = fault-next asked channel k depth why within reaches (cause-next why is)
