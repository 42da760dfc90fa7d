-- A walk step by step, with a mark at each item that it met.
use Rattle.std.proofs.Common.{◌≡◌, ℕ, zero, suc, ◌-◌, ◌<◌, Bool, true, false, not, ◌&&◌, nat_eq, nat_lt, List, length, get_or, slice_set, replicate, arith, refl, ap, sym, ◌∙◌}
use Rattle.std.specs.List.{All, list_all}
use Rattle.std.proofs.lemmas.Bool.Decides.{nat_tests}
use Rattle.std.proofs.lemmas.List.{length-replicate}
use Rattle.std.proofs.lemmas.List.Sums.{AllPass-from_list_all}
use Rattle.std.proofs.lemmas.Grind.{get_or_default_zero}
use Rattle.mesh_check.specs.Marks.{is_new}
use Rattle.mesh_check.specs.Chain.{walked, is_long_walk, goes_on}
use Rattle.mesh_check.proofs.MarkLemmas.{new-distinct, none-marked}

goes-split : (mark : ℕ) (next marks : List ℕ) (n i : ℕ) → goes_on mark next marks n i ≡ (list_all (λ k. nat_lt k (length next)) (walked next n i) && is_new mark marks (walked next n i))
goes-split mark next marks zero i = refl
goes-split mark next marks (suc n) i =
    rw (goes-split mark next (slice_set marks i mark) n (get_or next i (length next))) (mixed (nat_lt i (length next)) (nat_eq (get_or marks i 0) mark) (list_all (λ k. nat_lt k (length next)) (walked next n (get_or next i (length next)))) (is_new mark (slice_set marks i mark) (walked next n (get_or next i (length next)))))
  where
    mixed : (a b c d : Bool) → (a && (not b && (c && d))) ≡ ((a && c) && (not b && d))
    mixed true true true d = refl
    mixed true true false d = refl
    mixed true false true d = refl
    mixed true false false d = refl
    mixed false b c d = refl

-- if nothing is marked, the rest of the walk is the walk
pub long-start : (next marks : List ℕ) (i : ℕ) → marks ≡ replicate (length next) 0 → goes_on 1 next marks (length next) i ≡ is_long_walk next i
long-start next marks i is = goes-split 1 next marks (length next) i ∙ go (list_all (λ k. nat_lt k (length next)) (walked next (length next) i)) refl
  where
    size : length marks ≡ length next
    size = ap length is ∙ length-replicate (length next) 0

    fresh : (v : ℕ) → get_or marks v 0 < 1
    fresh v = let e : get_or marks v 0 ≡ 0 = ap (λ xs. get_or xs v 0) is ∙ none-marked (length next) v in omega (arith, e)

    go : (b : Bool) → list_all (λ k. nat_lt k (length next)) (walked next (length next) i) ≡ b → (list_all (λ k. nat_lt k (length next)) (walked next (length next) i) && is_new 1 marks (walked next (length next) i)) ≡ is_long_walk next i
    go true e =
        let inside : All (λ v. v < length marks) (walked next (length next) i) = λ k d h. at (get_or (walked next (length next) i) k d) (AllPass-from_list_all (λ m. nat_lt m (length next)) (walked next (length next) i) e k d h) in
        ap (λ b. list_all (λ k. nat_lt k (length next)) (walked next (length next) i) && b) (new-distinct 1 marks (walked next (length next) i) inside fresh)
      where
        at : (m : ℕ) → nat_lt m (length next) ≡ true → m < length marks
        at m h = let less : m < length next = grind (arith, nat_tests) in omega (arith, less, size)
    go false e = rw e refl

pub step-on : (mark : ℕ) (next marks : List ℕ) (steps i : ℕ) → 0 < steps → i < length next → nat_eq (get_or marks i 0) mark ≡ false → goes_on mark next (slice_set marks i mark) (steps - 1) (get_or next i 0) ≡ goes_on mark next marks steps i
step-on mark next marks zero i h inside k = absurd (omega arith)
step-on mark next marks (suc steps) i h inside k =
    let less : nat_lt i (length next) ≡ true = grind (arith, nat_tests) in
    let one : suc steps - 1 ≡ steps = omega arith in
    let same : get_or next i 0 ≡ get_or next i (length next) = sym (get_or_default_zero next i (length next) inside) in
    ap (λ n. goes_on mark next (slice_set marks i mark) n (get_or next i 0)) one ∙ ap (goes_on mark next (slice_set marks i mark) steps) same ∙ sym (rw (less, k) refl)
