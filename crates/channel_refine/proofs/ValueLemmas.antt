-- Values carried from a level to its child: the meaning of the test of their numbers, and the cause if it fails.
use Rattle.std.proofs.Common.{◌≡◌, ℕ, ◌+◌, ◌-◌, ◌*◌, ◌<◌, ◌≤◌, ℤ, Bool, true, false, nat_le, nat_lt, max, List, [], ◌∷◌, length, map, get_or, arith, refl, ap, sym, ◌∙◌, subst}
use Rattle.std.specs.List.{All, AllByRecursion, fold, list_any}
use Rattle.std.proofs.Math.Nat.{mul-le-mul_left, mul-le-mul_right}
use Rattle.std.proofs.lemmas.Nat.{div_below}
use Rattle.std.proofs.lemmas.Bool.{le-ltb, leb-true, lt-ltb}
use Rattle.std.proofs.lemmas.Bool.Decides.{nat_tests}
use Rattle.std.proofs.lemmas.List.{get_or-map, length-map}
use Rattle.std.proofs.lemmas.List.Elements.{All-from_recursion, recursion_from_All}
use Rattle.std.proofs.lemmas.List.Folds.{list_any_at, list_any_none}
use Rattle.subdiv_model.specs.Level.{Level}
use Rattle.subdiv_model.specs.Mask.{Scheme, CatmullClark, Mask}
use Rattle.subdiv_model.specs.Refined.{mask_denominator, source_denominator}
use Rattle.subdiv_model.specs.Channel.{number_bound}
use Rattle.ratio128.specs.Numbers.{greatest_amount}
use Rattle.level_topology.specs.Topology.{Topology, IsTopology}
use Rattle.level_topology.specs.Child.{PointOrigin, FromVertex, ChildTopology, HasParent}
use Rattle.level_walk.proofs.PromiseLemmas.{for-scheme}
use Rattle.primvar_refine.specs.View.{rows_of}
use Rattle.ratio128.specs.declared.valued.Valued.{Valued}
use Rattle.primvar_refine.specs.declared.fault.ValueFault.{ValueFault}
use Rattle.primvar_refine.specs.declared.fault.ValueFault.TheVariants as value
use Rattle.primvar_refine.specs.Rows.{Row, row_at, dens_of, AreWithin, rounded_up, least_bound, greatest_of}
use Rattle.child_masks.specs.Masks.{mask_from, masks_from, CanRefine}
use Rattle.primvar_refine.specs.Step.{AreRefined, refined_dens, IsValueFault}
use Rattle.child_masks.proofs.DenLemmas.{den-positive}
use Rattle.primvar_refine.proofs.SurveyLemmas.{good-positive}
use Rattle.level_walk.specs.declared.fault.Cause.TheVariants.{Overflow}
use Rattle.level_walk.specs.declared.fault.OverflowKind.TheVariants.{Value}
use Rattle.channel_refine.specs.Step.{AreValues, AreCarried, IsValueCause}
use Rattle.channel_refine.specs.Causes.{cause_of_value}
use Rattle.channel_refine.proofs.DenominatorLemmas.{each-below}

-- no denominator passes its bound
pub none-passes : (dens : List ℕ) → All (λ den. den ≤ number_bound) dens → list_any (nat_lt number_bound) dens ≡ false
none-passes dens short = list_any_none (nat_lt number_bound) dens (λ k d h. le-ltb number_bound _ (short k d h))

-- the greatest of numbers with a common bound
fold-below : (numbers : List ℕ) (start most : ℕ) → start ≤ most → AllByRecursion (λ n. n ≤ most) numbers → fold max start numbers ≤ most
fold-below [] start most h all = h
fold-below (n ∷ numbers) start most h all = fold-below numbers (max start n) most (omega (arith, h, all.0)) all.1

-- no value passes a whole number, and neither does the least number that none passes
rounded-below : (num den most : ℕ) → 0 < den → num ≤ den * most → rounded_up num den ≤ most
rounded-below num den most positive h =
    let more : (most + 1) * den ≡ den * most + den = omega arith in
    omega (arith, div_below (num + (den - 1)) den (most + 1) positive (omega (arith, more, h, positive)))

pub bound-below : (rows : List Row) (most : ℕ) → All (λ row. 0 < row.den) rows → AreWithin most rows → least_bound rows ≤ most
bound-below rows most positive within =
    fold-below (map (λ row. rounded_up (greatest_amount row.numbers) row.den) rows) 0 most (omega arith)
    (go rows (recursion_from_All (λ row. 0 < row.den) rows positive) (recursion_from_All (λ row. greatest_amount row.numbers ≤ row.den * most) rows within))
  where
    go : (some : List Row) → AllByRecursion (λ row. 0 < row.den) some → AllByRecursion (λ row. greatest_amount row.numbers ≤ row.den * most) some
        → AllByRecursion (λ n. n ≤ most) (map (λ row. rounded_up (greatest_amount row.numbers) row.den) some)
    go [] p q = tt
    go (row ∷ some) p q = (rounded-below (greatest_amount row.numbers) row.den most p.0 q.0, go some p.1 q.1)

-- a denominator that is too great for the values is too great for that number
pub too-big : (rows : List Row) (most great : ℕ) → All (λ row. 0 < row.den) rows → AreWithin most rows → number_bound < great * least_bound rows → number_bound < great * most
too-big rows most great positive within h =
    let more = mul-le-mul_left great (bound-below rows most positive within) in omega (arith, h, more)

-- a fault of values, as the cause of a walk
pub value-cause : (most : ℕ) (t : Topology) (scheme : Scheme) (origins : List PointOrigin) (rows : List Row) (fault : ValueFault) → AreValues most t rows
    → IsValueFault t.level scheme origins rows fault → IsValueCause most t.level scheme origins rows (cause_of_value fault)
value-cause most t scheme origins rows (value.Transition v) are is = (v, is)
value-cause most t scheme origins rows (value.Denominator p) are is =
    (is.0, list_any_at (nat_lt number_bound) (refined_dens t.level scheme origins rows) p 1 is.1.exists (lt-ltb number_bound _ is.1.great))
value-cause most t scheme origins rows (value.TooBig p) are is = (
  is.0,
  none-passes _ is.1.short,
  omega arith,
  too-big rows most _ are.good.positive are.within is.1.great,
)
value-cause most t scheme origins rows value.Memory are is = tt

-- values pass their bound, and all other numbers keep theirs
pub value-over : (most : ℕ) (level : Level) (scheme : Scheme) (origins : List PointOrigin) (rows next : List Row) → AreRefined level scheme origins rows next
    → number_bound < greatest_of (dens_of next) * most → IsValueCause most level scheme origins rows (Overflow Value)
value-over most level scheme origins rows next are over = (
  are.fine,
  ap (list_any (nat_lt number_bound)) (sym are.dens) ∙ none-passes (dens_of next) are.short,
  omega arith,
  subst (λ dens. number_bound < greatest_of dens * most) are.dens over,
)

-- the denominators of values are those of their rows
pub dens-of-rows : {P : Type 0} (numbers : P → List ℤ) (values : List (Valued P)) → map (λ v. v.den) values ≡ dens_of (rows_of numbers values)
dens-of-rows numbers [] = refl
dens-of-rows numbers (v ∷ values) = ap (λ dens. v.den ∷ dens) (dens-of-rows numbers values)

-- the meaning of the test of the values
module _ {P : Type 0} (numbers : P → List ℤ) (kept values : List (Valued P)) (most : ℕ) (same : kept ≡ values) where
  greatest-same : greatest_of (map (λ v. v.den) kept) ≡ greatest_of (dens_of (rows_of numbers values))
  greatest-same = ap (λ (vs : List (Valued P)). greatest_of (map (λ v. v.den) vs)) same ∙ ap greatest_of (dens-of-rows numbers values)

  pub test-fits : (b : Bool) → b ≡ nat_le (greatest_of (map (λ v. v.den) kept) * most) number_bound → b ≡ true
      → greatest_of (dens_of (rows_of numbers values)) * most ≤ number_bound
  test-fits b is h = subst (λ n. n * most ≤ number_bound) greatest-same (leb-true _ _ (sym is ∙ h))

  pub test-over : (b : Bool) → b ≡ nat_le (greatest_of (map (λ v. v.den) kept) * most) number_bound → b ≡ false
      → number_bound < greatest_of (dens_of (rows_of numbers values)) * most
  test-over b is h = subst (λ n. number_bound < n * most) greatest-same (over _ _ (sym is ∙ h))
    where
      over : (m n : ℕ) → nat_le m n ≡ false → n < m
      over m n h = grind (arith, nat_tests)

-- a fact about all denominators
pub from-dens : (P : ℕ → Type 0) (rows : List Row) → AllByRecursion P (dens_of rows) → All (λ row. P row.den) rows
from-dens P rows all = All-from_recursion (λ row. P row.den) rows (go rows all)
  where
    go : (some : List Row) → AllByRecursion P (dens_of some) → AllByRecursion (λ row. P row.den) some
    go [] h = tt
    go (row ∷ some) h = (h.0, go some h.1)

pub kept : (amount den greatest most bound : ℕ) → amount ≤ den * greatest → greatest ≤ most → den * most ≤ bound → amount ≤ bound
kept amount den greatest most bound h below products = omega (arith, h, products, mul-le-mul_left den below)

-- all rows are as long as the first
pub alike-own : (rows : List Row) (n : ℕ) → All (λ row. length row.numbers ≡ n) rows → All (λ row. length row.numbers ≡ length (row_at rows 0).numbers) rows
alike-own rows n all k d h = all k d h ∙ sym (all 0 (record { numbers = []; den = 1 }) (omega (arith, h)))

pub times : (den great most : ℕ) → den ≤ great → great * most ≤ number_bound → den * most ≤ number_bound
times den great most h fits = omega (arith, fits, mul-le-mul_right most h)

-- the values of a child can be carried on
module _ (most : ℕ) (parent : Topology) (child : ChildTopology) (scheme : Scheme) (rows next : List Row) (is : IsTopology parent) (has : HasParent child)
    (can : CanRefine parent child CatmullClark) (values : AreValues most parent rows) (carried : AreCarried most parent.level scheme child.origins rows next) where
  next-positive : All (λ row. 0 < row.den) next
  next-positive =
      from-dens (λ n. 0 < n) next
      (recursion_from_All (λ n. 0 < n) (dens_of next) (subst (All (λ n. 0 < n)) (sym carried.refined.dens) each))
    where
      each : All (λ n. 0 < n) (refined_dens parent.level scheme child.origins rows)
      each p d h =
          let den : Mask → ℕ = mask_denominator (source_denominator parent.level (dens_of rows)) in
          let none = mask_from parent.level scheme (FromVertex 0) in
          let some : p < length (masks_from parent.level scheme child.origins) = subst (λ n. p < n) (length-map (masks_from parent.level scheme child.origins) den) h in
          let inside : p < length child.origins = subst (λ n. p < n) (length-map child.origins (mask_from parent.level scheme)) some in
          let here = get_or-map den (masks_from parent.level scheme child.origins) p none d some ∙ ap den (get_or-map (mask_from parent.level scheme) child.origins p (FromVertex 0) none inside) in
          subst (λ n. 0 < n) (sym here) (den-positive parent child scheme (dens_of rows) is has (for-scheme parent child scheme can) (good-positive rows values.good) p inside)

  pub values-next : AreValues most child.topology next
  values-next = record {
    each =
        sym (length-map next (λ row. row.den)) ∙ ap length carried.refined.dens ∙ length-map (masks_from parent.level scheme child.origins) _
        ∙ length-map child.origins (mask_from parent.level scheme) ∙ has.is.each_point;
    good = record {
      positive = next-positive;
      short = from-dens (λ n. n ≤ number_bound) next (recursion_from_All (λ n. n ≤ number_bound) (dens_of next) carried.refined.short);
      kept = λ k d h. kept (greatest_amount (get_or next k d).numbers) (get_or next k d).den most most number_bound (carried.refined.within most values.within k d h) (omega arith)
          (times (get_or next k d).den (greatest_of (dens_of next)) most (from-dens (λ n. n ≤ greatest_of (dens_of next)) next (each-below (dens_of next) 1) k d h) carried.fits);
      alike = alike-own next (length (row_at rows 0).numbers) carried.refined.alike;
    };
    within = carried.refined.within most values.within;
  }
