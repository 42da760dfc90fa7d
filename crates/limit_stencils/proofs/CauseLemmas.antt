-- The first point without a limit mask.
use Rattle.std.proofs.Common.{◌≡◌, ℕ, zero, suc, ◌+◌, ◌<◌, ◌≤◌, Bool, Some, List, [], ◌∷◌, ◌++◌, Result, Ok, Err, IsErrAnd, arith, refl, ap, sym, subst, ◌∙◌}
use Rattle.std.specs.List.{flat_map, range_with_len}
use Rattle.subdiv_model.specs.Lists.{first_of}
use Rattle.subdiv_model.specs.Mask.{Mask}
use Rattle.subdiv_model.specs.Fault.{LimitCause}
use Rattle.subdiv_model.specs.Level.{Level}
use Rattle.subdiv_model.specs.Limit.{cause_of_limit, limit_of, limit_causes}
use Rattle.level_topology.specs.Topology.{Topology, IsTopology}
use Rattle.mask_rules.specs.Around.{ends_in}
use Rattle.limit_stencils.specs.declared.lasting.LastingRule.{LastingRule}
use Rattle.limit_stencils.specs.declared.fault.QuadFault.{QuadFault}
use Rattle.limit_stencils.specs.declared.fault.QuadFault.TheVariants as fault
use Rattle.limit_stencils.specs.AtVertex.{opposites_in, rule_in, is_semi_in, limit_by_rule, limit_in, IsSameLimit, IsFirstCause, IsTested}
use Rattle.limit_stencils.proofs.OrderLemmas.{same-limit}

nil-parts : {X : Type 0} (xs ys : List X) → xs ++ ys ≡ [] → (xs ≡ []) × (ys ≡ [])
nil-parts [] ys h = (refl, h)
nil-parts (x ∷ xs) ys h = absurd (cc)

module _ {X : Type 0} (f : ℕ → List X) where
  none-at : (a n i : ℕ) → flat_map f (range_with_len a n) ≡ [] → i < n → f (a + i) ≡ []
  none-at a zero i h inside = absurd (omega arith)
  none-at a (suc n) zero h inside =
      let e : a + 0 ≡ a = omega arith in ap f e ∙ (nil-parts (f a) (flat_map f (range_with_len (a + 1) n)) h).0
  none-at a (suc n) (suc i) h inside =
      let e : a + suc i ≡ a + 1 + i = omega arith in
      ap f e ∙ none-at (a + 1) n i (nil-parts (f a) (flat_map f (range_with_len (a + 1) n)) h).1 (omega arith)

  none-before : (a n : ℕ) → ((i : ℕ) → i < n → f (a + i) ≡ []) → flat_map f (range_with_len a n) ≡ []
  none-before a zero h = refl
  none-before a (suc n) h =
      let e : a ≡ a + 0 = omega arith in
      ap (λ l. l ++ flat_map f (range_with_len (a + 1) n)) (ap f e ∙ h 0 (omega arith))
      ∙ none-before (a + 1) n (λ i inside. let k : a + 1 + i ≡ a + suc i = omega arith in ap f k ∙ h (suc i) (omega arith))

  first-at : (a n i : ℕ) (x : X) → i < n → ((j : ℕ) → j < i → f (a + j) ≡ []) → first_of (f (a + i)) ≡ Some x
      → first_of (flat_map f (range_with_len a n)) ≡ Some x
  first-at a zero i x inside h e = absurd (omega arith)
  first-at a (suc n) zero x inside h e =
      let k : a ≡ a + 0 = omega arith in first-stays (f a) (flat_map f (range_with_len (a + 1) n)) (ap (λ b. first_of (f b)) k ∙ e)
    where
      first-stays : (xs ys : List X) → first_of xs ≡ Some x → first_of (xs ++ ys) ≡ Some x
      first-stays [] ys p = absurd (cc)
      first-stays (y ∷ xs) ys p = p
  first-at a (suc n) (suc i) x inside h e =
      let none : f a ≡ [] = let k : a ≡ a + 0 = omega arith in ap f k ∙ h 0 (omega arith) in
      let next : a + 1 + i ≡ a + suc i = omega arith in
      ap (λ l. first_of (l ++ flat_map f (range_with_len (a + 1) n))) none
      ∙ first-at (a + 1) n i x (omega arith) (λ j below. let k : a + 1 + j ≡ a + suc j = omega arith in ap f k ∙ h (suc j) (omega arith))
      (ap (λ b. first_of (f b)) next ∙ e)

-- a limit has a cause if a limit with the same cause has it
pub same-causes : (limit other : Result Mask LimitCause) → IsSameLimit limit other → cause_of_limit limit ≡ cause_of_limit other
same-causes (Ok mask) (Ok n) h = refl
same-causes (Ok mask) (Err cause) h = absurd h
same-causes (Err cause) (Ok mask) h = absurd h
same-causes (Err cause) (Err other) h = ap (λ c. c ∷ []) h

module _ (level : Level) where
  abbrev causes : ℕ → List LimitCause
  causes v = cause_of_limit (limit_of level v)

  -- a level without causes has none at a point
  pub fine-at : (v : ℕ) → limit_causes level ≡ [] → v < level.point_count → causes v ≡ []
  fine-at v fine inside =
      let e : v ≡ 0 + v = omega arith in ap causes e ∙ none-at causes 0 level.point_count v fine inside

  -- a cause that no point has does not exist
  pub none-found : (n : ℕ) → level.point_count ≤ n → ((u : ℕ) → u < n → causes u ≡ []) → limit_causes level ≡ []
  none-found n all h =
      none-before causes 0 level.point_count (λ i inside. let e : 0 + i ≡ i = omega arith in ap causes e ∙ h i (omega arith))

  first-found : (v : ℕ) (x : LimitCause) → v < level.point_count → ((u : ℕ) → u < v → causes u ≡ []) → first_of (causes v) ≡ Some x
      → first_of (limit_causes level) ≡ Some x
  first-found v x inside h e =
      let k : 0 + v ≡ v = omega arith in
      first-at causes 0 level.point_count v x inside (λ j below. let l : 0 + j ≡ j = omega arith in ap causes l ∙ h j below)
      (ap (λ b. first_of (causes b)) k ∙ e)

  -- the first cause of a point is the first of all if no point before has one
  pub first-cause : (v : ℕ) (f : QuadFault) → v < level.point_count → ((u : ℕ) → u < v → causes u ≡ []) → IsFirstCause (causes v) f
      → IsFirstCause (limit_causes level) f
  first-cause v (fault.Dart w) inside h e = first-found v _ inside h e
  first-cause v (fault.SemiSharp w) inside h e = first-found v _ inside h e
  first-cause v (fault.Denominator w) inside h e = absurd e
  first-cause v fault.TooManyEntries inside h e = absurd e
  first-cause v fault.Memory inside h e = absurd e

-- the result is passed on unchanged
pub handed-on : (causes : List LimitCause) (result : Result (Unit {0}) QuadFault) (f : QuadFault) → IsErrAnd result (λ g. g ≡ f) → IsFirstCause causes f
    → IsTested causes result
handed-on causes (Ok _) f same first = absurd same
handed-on causes (Err g) f same first = subst (IsFirstCause causes) (sym same) first

-- a test by the rule and by semi-sharp elements, in the order of the level's lists, is a test of the point
pub tested : (t : Topology) (v : ℕ) (semi : Bool) (rule : LastingRule) (result : Result (Unit {0}) QuadFault) → IsTopology t → v < t.level.point_count
    → semi ≡ is_semi_in t v → rule ≡ rule_in t v
    → ((ends opposites : List ℕ) → IsTested (cause_of_limit (limit_by_rule v ends opposites semi rule)) result)
    → IsTested (cause_of_limit (limit_of t.level v)) result
tested t v semi rule result is inside e k h =
    let by : Bool → LastingRule → Type 0 =
    λ b r. IsTested (cause_of_limit (limit_by_rule v (ends_in t v) (opposites_in t v) b r)) result in
    let here : IsTested (cause_of_limit (limit_in t v)) result = subst (by (is_semi_in t v)) k (subst (λ b. by b rule) e (h (ends_in t v) (opposites_in t v))) in
    subst (λ causes. IsTested causes result) (sym (same-causes (limit_of t.level v) (limit_in t v) (same-limit t v is inside))) here
