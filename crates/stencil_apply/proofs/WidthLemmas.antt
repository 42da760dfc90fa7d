-- The width of sums.
use Rattle.std.proofs.Common.{◌≡◌, ℕ, ◌+◌, ◌*◌, ◌<◌, ◌≤◌, max, ℤ, List, [], ◌∷◌, ◌++◌, length, map, take, get_or, arith, sym, ap, ◌∙◌}
use Rattle.std.specs.List.{fold}
use Rattle.std.proofs.Math.Nat.{mul-le-mul_left}
use Rattle.std.proofs.lemmas.Bool.Decides.{nat_tests}
use Rattle.std.proofs.lemmas.List.{length-map, get_or-map, map_more}
use Rattle.std.proofs.lemmas.List.Sums.{fold_push}
use Rattle.std.proofs.lemmas.List.{map-append}
use Rattle.number_width.specs.declared.width.Width.TheVariants.{Narrow, Wide}
use Rattle.ratio128.specs.Numbers.{greatest_amount}
use Rattle.stencil_apply.specs.Table.{Table, greatest_of}
use Rattle.stencil_apply.specs.Means.{CanSumNarrow, word_bound, greatest_of_all, sum_width_of}
use Rattle.stencil_apply.proofs.RowLemmas.{start-le, each-le}

-- the greatest amount of one control more
pub greatest-more : {X : Type 0} (numbers : X → List ℤ) (controls : List X) (i : ℕ) (control : X) → i < length controls → control ≡ get_or controls i control
    → max (greatest_of_all (map numbers (take i controls))) (greatest_amount (numbers control)) ≡ greatest_of_all (map numbers (take (i + 1) controls))
greatest-more numbers controls i control h is =
    let before = map numbers (take i controls) in
    sym (ap greatest_of_all (map_more numbers controls i control h ∙ ap (λ x. before ++ numbers x ∷ []) (sym is))
    ∙ ap (fold max 1) (map-append greatest_amount before (numbers control ∷ []))
    ∙ fold_push max 1 (map greatest_amount before) (greatest_amount (numbers control)))

module _ (table : Table) (controls : List (List ℤ)) (denominator greatest : ℕ) (is-denominator : denominator ≡ greatest_of table) (is-greatest : greatest ≡ greatest_of_all controls) where
  pub is-wide : word_bound < denominator * greatest → Wide ≡ sum_width_of table controls
  is-wide h = rw (← is-denominator, ← is-greatest) (grind (arith, nat_tests))

  module _ (h : denominator * greatest ≤ word_bound) where
    pub is-narrow : Narrow ≡ sum_width_of table controls
    is-narrow = rw (← is-denominator, ← is-greatest) (grind (arith, nat_tests))

    -- sums of 64 bits serve
    pub can-sum-narrow : CanSumNarrow table controls
    can-sum-narrow =
        let least = start-le 1 (map greatest_amount controls) in
        let whole : greatest_of table * greatest_of_all controls ≤ word_bound = rw (← is-denominator, ← is-greatest) h in
        record {
          short = omega (arith, whole, mul-le-mul_left (greatest_of table) least);
          within = λ k d below.
              let amounts = map greatest_amount controls in
              let most = each-le 1 (map greatest_amount controls) k 0 (rw (length-map controls greatest_amount) below) in
              omega (arith, whole, mul-le-mul_left (greatest_of table) (rw (get_or-map greatest_amount controls k d 0 below) at most));
        }
