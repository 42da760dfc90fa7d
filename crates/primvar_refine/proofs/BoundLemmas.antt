-- The greatest denominator, and the bound of all values, one more at a time.
use Rattle.std.proofs.Common.{◌≡◌, ℕ, zero, suc, ◌+◌, ◌-◌, ◌*◌, ◌/◌, ◌<◌, ◌≤◌, ℤ, List, [], ◌∷◌, ◌++◌, length, length-append, map, take, get_or, max, arith, ap, sym, ◌∙◌, subst}
use Rattle.std.specs.List.{All, fold}
use Rattle.std.specs.Ordering.{ord_max, nat_cmp}
use Rattle.std.proofs.lemmas.Bool.Decides.{nat_tests}
use Rattle.std.proofs.lemmas.List.{take_more, length-map, get_or-map, map-append}
use Rattle.std.proofs.lemmas.List.Elements.{All-from_recursion}
use Rattle.std.proofs.lemmas.List.Sums.{fold-append}
use Rattle.std.proofs.Math.ListN.{get_or-append}
use Rattle.std.proofs.Math.Seq.{get_or-append_seam}
use Rattle.std.proofs.Math.Nat.{max-eq_right, div-lt_iff_lt-mul}
use Rattle.ratio128.specs.Numbers.{greatest_amount}
use Rattle.subdiv_model.specs.Channel.{number_bound}
use Rattle.ratio128.specs.declared.valued.Valued.{Valued}
use Rattle.primvar_refine.specs.Rows.{Row, AreGood, rounded_up, least_bound}
use Rattle.primvar_refine.specs.View.{row_of, rows_of}
use Rattle.primvar_refine.specs.Step.{IsTooBig}
use Rattle.primvar_refine.specs.Greatest.{IsGreatestAt}
use Rattle.primvar_refine.proofs.MadeLemmas.{all-below-fold}

-- the code's greater of two numbers is their maximum
pub ord-max : (a b : ℕ) → ord_max nat_cmp a b ≡ max a b
ord-max a b = grind (arith, nat_tests)

-- none passes the greatest
each-le : (a : ℕ) (xs : List ℕ) (q d : ℕ) → q < length xs → get_or xs q d ≤ fold max a xs
each-le a xs q d inside = All-from_recursion (λ n. n ≤ fold max a xs) xs (all-below-fold xs a).1 q d inside

-- a greater denominator after the others
pub greatest-next : (dens : List ℕ) (d place den at : ℕ) → den < d → place ≡ length dens → IsGreatestAt dens den at → IsGreatestAt (dens ++ d ∷ []) d place
greatest-next dens d place den at above e h = record {
  greatest = sym (fold-append max 1 dens (d ∷ []) ∙ max-eq_right (let g = h.greatest in omega arith));
  exists = λ _. let n = length-append dens (d ∷ []) in omega arith;
  there = λ _. ap (λ n. get_or (dens ++ d ∷ []) n 1) e ∙ get_or-append_seam dens d [] 1;
  first = λ _ q below.
      let inside : q < length dens = omega arith in
      let same = get_or-append dens (d ∷ []) 1 q inside in
      let le = each-le 1 dens q 1 inside in
      let g = h.greatest in
      omega arith;
}

-- a fraction of at least 1 as denominator is rounded up to no more than its numerator
rounded-le : (num den : ℕ) → 0 < den → rounded_up num den ≤ num
rounded-le num zero some = absurd (omega arith)
rounded-le num (suc d) some =
    let more : num + (suc d - 1) < suc num * suc d = turned num d in
    let below : (num + (suc d - 1)) / suc d < suc num = (div-lt_iff_lt-mul some).1 more in
    omega arith
  where
    turned : (n d : ℕ) → n + (suc d - 1) < suc n * suc d
    turned n d = omega arith

module _ {P : Type 0} (numbers : P → List ℤ) (values : List (Valued P)) (good : AreGood (rows_of numbers values)) where
  -- a value is its row
  row-is : (i : ℕ) (v : Valued P) → i < length values → v ≡ get_or values i v → get_or (rows_of numbers values) i (row_of numbers v) ≡ row_of numbers v
  row-is i v inside e = get_or-map (row_of numbers) values i v (row_of numbers v) inside ∙ ap (row_of numbers) (sym e)

  -- there is a row for each value
  below-rows : (i : ℕ) → i < length values → i < length (rows_of numbers values)
  below-rows i inside = subst (λ n. i < n) (sym (length-map values (row_of numbers))) inside

  -- the denominator of a value is above 0
  pub den-positive : (i : ℕ) (v : Valued P) → i < length values → v ≡ get_or values i v → 0 < v.den
  den-positive i v inside e = subst (λ (row : Row). 0 < row.den) (row-is i v inside e) (good.positive i (row_of numbers v) (below-rows i inside))

  -- the denominator of a value is within the bound
  pub den-short : (i : ℕ) (v : Valued P) → i < length values → v ≡ get_or values i v → v.den ≤ number_bound
  den-short i v inside e = subst (λ (row : Row). row.den ≤ number_bound) (row-is i v inside e) (good.short i (row_of numbers v) (below-rows i inside))

  -- the numerators of a value are within the bound
  pub numbers-kept : (i : ℕ) (v : Valued P) → i < length values → v ≡ get_or values i v → greatest_amount (numbers v.value) ≤ number_bound
  numbers-kept i v inside e =
      subst (λ (row : Row). greatest_amount row.numbers ≤ number_bound) (row-is i v inside e) (good.kept i (row_of numbers v) (below-rows i inside))

  -- the bound with one value more
  pub bound-more : (i m r : ℕ) (v : Valued P) → i < length values → v ≡ get_or values i v → m ≡ least_bound (take i (rows_of numbers values))
      → r ≡ rounded_up (greatest_amount (numbers v.value)) v.den → max m r ≡ least_bound (take (i + 1) (rows_of numbers values))
  bound-more i m r v inside e h k =
      let rows = rows_of numbers values in
      let of : Row → ℕ = λ row. rounded_up (greatest_amount row.numbers) row.den in
      ap (λ n. max n r) h ∙ ap (max (least_bound (take i rows))) k
      ∙ sym (fold-append max 0 (map of (take i rows)) (of (row_of numbers v) ∷ []))
      ∙ ap (fold max 0) (sym (map-append of (take i rows) (row_of numbers v ∷ [])))
      ∙ ap (λ row. least_bound (take i rows ++ row ∷ [])) (sym (row-is i v inside e))
      ∙ ap least_bound (sym (take_more rows i (row_of numbers v) (below-rows i inside)))

  -- the number to which they are rounded up is within the bound
  pub rounded-short : (i r : ℕ) (v : Valued P) → i < length values → v ≡ get_or values i v → r ≡ rounded_up (greatest_amount (numbers v.value)) v.den → r ≤ number_bound
  rounded-short i r v inside e k =
      let le = rounded-le (greatest_amount (numbers v.value)) v.den (den-positive i v inside e) in
      let kept = numbers-kept i v inside e in
      omega arith

-- a denominator too great for the values is above 1, and so some point has it
pub too-big : (dens all : List ℕ) (den place most : ℕ) → dens ≡ all → All (λ d. d ≤ number_bound) all → IsGreatestAt dens den place → most ≤ number_bound
    → number_bound < den * most → IsTooBig all most place
too-big dens all den place most e short h small great = subst (λ ds. IsTooBig ds most place) e (record {
  short = subst (All (λ d. d ≤ number_bound)) (sym e) short;
  exists = h.exists above;
  greatest = h.there above ∙ h.greatest;
  first = λ q below. subst (λ n. get_or dens q 1 < n) h.greatest (h.first above q below);
  great = subst (λ n. number_bound < n * most) h.greatest great;
})
  where
    more : (d : ℕ) → number_bound < d * most → 1 < d
    more zero g = absurd (omega arith)
    more (suc zero) g = absurd (omega arith)
    more (suc (suc d)) g = omega arith

    above : 1 < den
    above = more den great
