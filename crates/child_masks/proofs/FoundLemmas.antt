-- The zeros of a list of denominators, each 0 if it is above its bound.
use Rattle.std.proofs.Common.{◌≡◌, ◌≢◌, inl, inr, ℕ, ◌<◌, ◌≤◌, List, [], ◌∷◌, length, map, get_or, arith, refl, ap, sym, ◌∙◌, subst}
use Rattle.std.specs.List.{All, AllByRecursion}
use Rattle.std.proofs.lemmas.Bool.{cases_lt}
use Rattle.std.proofs.lemmas.List.Elements.{recursion_from_All}
use Rattle.std.proofs.lemmas.Bool.Decides.{nat_tests}
use Rattle.std.proofs.Math.ListN.{get_or-eq_default}
use Rattle.std.proofs.lemmas.List.{get_or_default, length-map, get_or-map}
use Rattle.subdiv_model.specs.Channel.{number_bound}
use Rattle.child_masks.specs.Masks.{IsFirstDenominator}
use Rattle.child_masks.specs.Survey.{within_bound}
use Rattle.child_masks.proofs.WithinLemmas.{within-kept, within-zero}

-- the denominators of the points within their bound, and 0 for those that pass it
module _ (all found : List ℕ) (positive : All (λ den. 0 < den) all) (is : found ≡ map within_bound all) where
  -- the two lists have one length
  within-count : length found ≡ length all
  within-count = ap length is ∙ length-map all within_bound

  -- each entry is the denominator, or 0 above the bound
  within-at : (q : ℕ) → q < length all → get_or found q 1 ≡ within_bound (get_or all q 1)
  within-at q inside = ap (λ xs. get_or xs q 1) is ∙ get_or-map within_bound all q 1 1 inside

  -- an entry that is not 0 is within the bound
  short-at : (q : ℕ) → get_or found q 1 ≢ 0 → get_or all q 1 ≤ number_bound
  short-at q some = elim (cases_lt q (length all)) [ inl inside ↦ short q inside some | inr past ↦ beyond all q past ]
    where
      short : (q : ℕ) → q < length all → get_or found q 1 ≢ 0 → get_or all q 1 ≤ number_bound
      short q inside some = let at = within-at q inside in grind (arith, nat_tests)

      beyond : (xs : List ℕ) (q : ℕ) → length xs ≤ q → get_or xs q 1 ≤ number_bound
      beyond xs q past = let one = get_or-eq_default xs 1 past in omega arith

  -- if none is 0, all are within the bound
  pub short-all : ((q : ℕ) → q < length found → get_or found q 1 ≢ 0) → All (λ den. den ≤ number_bound) all
  short-all none q d inside =
      subst (λ n. n ≤ number_bound) (get_or_default all q 1 d inside) (short-at q (none q (subst (λ n. q < n) (sym within-count) inside)))

  -- if none is 0, they are the denominators themselves
  pub found-all : ((q : ℕ) → q < length found → get_or found q 1 ≢ 0) → found ≡ all
  found-all none = is ∙ same all (short-all none)
    where
      same : (xs : List ℕ) → All (λ den. den ≤ number_bound) xs → map within_bound xs ≡ xs
      same xs h = by xs (recursion_from_All (λ den. den ≤ number_bound) xs h)
        where
          by : (ys : List ℕ) → AllByRecursion (λ den. den ≤ number_bound) ys → map within_bound ys ≡ ys
          by [] h = refl
          by (y ∷ ys) h = ap (λ n. n ∷ map within_bound ys) (within-kept y h.0) ∙ ap (λ ns. y ∷ ns) (by ys h.1)

  -- the first 0 is the first that passes
  pub first-over : (p : ℕ) → p < length found → get_or found p 1 ≡ 0 → ((q : ℕ) → q < p → get_or found q 1 ≢ 0) → IsFirstDenominator all p
  first-over p inside none before =
      let here = subst (λ n. p < n) within-count inside in
      record {
        exists = here;
        great = within-zero (get_or all p 1) (positive p 1 here) (sym none ∙ within-at p here);
        first = λ q below. short-at q (before q below);
      }
