-- The shares of two arrays from a place on, added one after another.
use Rattle.std.proofs.Common.{◌≡◌, ℕ, zero, suc, ◌+◌, ◌*◌, ◌<◌, ◌≤◌, List, ◌∷◌, length, map, get_or, drop, arith, ap, sym, ◌∙◌}
use Rattle.std.specs.List.{zip}
use Rattle.std.proofs.lemmas.List.{drop_more, at_drop_all, get_or-map}
use Rattle.stencil_apply.specs.Table.{Share, total_of}
use Rattle.place_sums.specs.Sums.{added_at, added_shares, sum_of}
use Rattle.place_sums.proofs.SumLemmas.{sum-added_at, total-first}

module _ (factor most : ℕ) (indices numerators : List ℕ) (equal : length numerators ≡ length indices) where
  -- the shares from a place on
  abbrev pub left : ℕ → List Share
  left i = zip (drop i indices) (drop i numerators)

  left-more : (i : ℕ) → i < length indices → left i ≡ (get_or indices i 0, get_or numerators i 0) ∷ left (i + 1)
  left-more i h =
      ap (λ xs. zip xs (drop i numerators)) (drop_more indices i 0 h)
      ∙ ap (zip (get_or indices i 0 ∷ drop (i + 1) indices)) (drop_more numerators i 0 (omega (arith, equal)))

  -- a share is added
  pub left-sums : (i : ℕ) (sums after whole : List ℕ) → i < length indices → after ≡ added_at (get_or indices i 0) (factor * get_or numerators i 0) sums → added_shares factor (left i) sums ≡ whole → added_shares factor (left (i + 1)) after ≡ whole
  left-sums i sums after whole h is e = ap (added_shares factor (left (i + 1))) is ∙ sym (ap (λ ss. added_shares factor ss sums) (left-more i h)) ∙ e

  left-total : (i : ℕ) → i < length indices → factor * total_of (left i) ≡ factor * get_or numerators i 0 + factor * total_of (left (i + 1))
  left-total i h = ap (λ ss. factor * total_of ss) (left-more i h) ∙ total-first factor (get_or indices i 0, get_or numerators i 0) (left (i + 1))

  -- The sums with the remaining shares stay within the bound.
  pub left-fits : (i : ℕ) (sums after : List ℕ) → i < length indices → get_or indices i 0 < length sums → after ≡ added_at (get_or indices i 0) (factor * get_or numerators i 0) sums → sum_of sums + factor * total_of (left i) ≤ most → sum_of after + factor * total_of (left (i + 1)) ≤ most
  left-fits i sums after h inside is fits =
      omega (arith, ap sum_of is, sum-added_at (get_or indices i 0) (factor * get_or numerators i 0) sums inside, left-total i h, fits)

  -- The sums with the next share stay within the bound.
  pub next-fits : (i : ℕ) (sums : List ℕ) → i < length indices → sum_of sums + factor * total_of (left i) ≤ most → sum_of sums + factor * get_or numerators i 0 ≤ most
  next-fits i sums h fits = omega (arith, left-total i h, fits)

  -- a numerator is no more than its share
  pub numerator-fits : (i : ℕ) (sums : List ℕ) → 0 < factor → i < length indices → sum_of sums + factor * total_of (left i) ≤ most → get_or numerators i 0 ≤ most
  numerator-fits i sums some h fits = omega (arith, next-fits i sums h fits, grows factor (get_or numerators i 0) some)
    where
      grows : (f n : ℕ) → 0 < f → n ≤ f * n
      grows zero n some = absurd (omega (arith, some))
      grows (suc f) n some = omega arith

  -- After the last round no share remains.
  pub left-none : (i : ℕ) (sums whole : List ℕ) → length indices ≤ i → added_shares factor (left i) sums ≡ whole → sums ≡ whole
  left-none i sums whole h e = sym (at_drop_all (λ xs. added_shares factor (zip xs (drop i numerators)) sums) indices i h) ∙ e

-- what a list of numbers of any type has at a place
pub number-there : {T : Type 0} (value : T → ℕ) (numbers : List T) (i : ℕ) (number : T) → i < length numbers → number ≡ get_or numbers i number → value number ≡ get_or (map value numbers) i 0
number-there value numbers i number h at = ap value at ∙ sym (get_or-map value numbers i number 0 h)
