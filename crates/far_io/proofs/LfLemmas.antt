-- The first LF of a list.
use Rattle.std.proofs.Common.{◌≡◌, ℕ, zero, suc, ◌+◌, ◌<◌, ◌≤◌, Bool, true, false, cond, List, [], ◌∷◌, ◌++◌, length, get_or, take, drop, Some, None, arith, refl, sym, ap, ◌∙◌, length-drop, length-take}
use Rattle.std.specs.List.{All, position, position_or_len, list_any}
use Rattle.std.proofs.lemmas.Bool.{ltb-false}
use Rattle.std.proofs.lemmas.Bool.Decides.{nat_tests}
use Rattle.std.proofs.lemmas.Grind.{common_steps}
use Rattle.std.proofs.lemmas.List.{take-append-drop, drop_more, get_or-take}
use Rattle.std.proofs.lemmas.List.Elements.{All-nil, All-cons, All-from_get_or}
use Rattle.std.proofs.lemmas.List.Folds.{list_any_none}
use Rattle.std.proofs.lemmas.List.Quantifiers.{position-Some}
use Rattle.far_io.specs.Lines.{is_lf, HasNoLf, IsClosed}

module _ (test : ℕ → Bool) where
  -- A search may skip a prefix that is known not to pass.
  skip : (searched : ℕ) (xs : List ℕ) → searched ≤ length xs → list_any test (take searched xs) ≡ false →
      position_or_len test xs ≡ searched + position_or_len test (drop searched xs)
  skip zero xs h e = omega arith
  skip (suc searched) [] h e = absurd (omega (arith, h))
  skip (suc searched) (x ∷ xs) h e = by (test x) refl (skip searched xs (omega (arith, h)))
    where
      by : (b : Bool) → test x ≡ b → (list_any test (take searched xs) ≡ false → position_or_len test xs ≡ searched + position_or_len test (drop searched xs)) →
          position_or_len test (x ∷ xs) ≡ suc searched + position_or_len test (drop searched xs)
      by true is rest = absurd (grind (arith, e, is))
      by false is rest =
          let plain : list_any test (take searched xs) ≡ false = grind (arith, e, is) in
          let all : position_or_len test xs ≡ searched + position_or_len test (drop searched xs) = rest plain in
          grind (arith, is, all)

  pub skipped-some : (searched k : ℕ) (xs : List ℕ) → searched ≤ length xs → list_any test (take searched xs) ≡ false →
      position test (drop searched xs) ≡ Some k → Some (searched + k) ≡ position test xs
  skipped-some searched k xs h e found =
      let all = skip searched xs h e in
      grind (arith, common_steps, all, found, length-drop searched xs)

  pub skipped-none : (searched : ℕ) (xs : List ℕ) → searched ≤ length xs → list_any test (take searched xs) ≡ false →
      position test (drop searched xs) ≡ None → None ≡ position test xs
  skipped-none searched xs h e found =
      let all = skip searched xs h e in
      grind (arith, common_steps, all, found, length-drop searched xs)

  none-passes : (xs : List ℕ) → length xs ≤ position_or_len test xs → All (λ x. test x ≡ false) xs
  none-passes [] h = All-nil (λ x. test x ≡ false)
  none-passes (x ∷ xs) h = by (test x) refl (none-passes xs)
    where
      by : (b : Bool) → test x ≡ b → (length xs ≤ position_or_len test xs → All (λ y. test y ≡ false) xs) → All (λ y. test y ≡ false) (x ∷ xs)
      by true e rest = absurd (grind (arith, nat_tests, e, h))
      by false e rest = All-cons (λ y. test y ≡ false) x xs e (rest (grind (arith, nat_tests, e, h)))

some-or : (test : Bool) (place : ℕ) → cond test (Some place) None ≡ None → test ≡ false
some-or true place e = cc
some-or false place e = refl

-- No LF was found.
pub has-none : (xs : List ℕ) → position is_lf xs ≡ None → HasNoLf xs
has-none xs e = list_any_none is_lf xs (none-passes is_lf xs (ltb-false (position_or_len is_lf xs) (length xs) (some-or _ _ e)))

-- The place found holds an LF.
pub lf-at : (xs : List ℕ) (k : ℕ) → position is_lf xs ≡ Some k → get_or xs k 0 ≡ 10
lf-at xs k e =
    let at = position-Some is_lf xs k 0 e in
    grind (arith, nat_tests, at.1)

-- the first was found at k
pub found-at : (xs : List ℕ) (k : ℕ) → position is_lf xs ≡ Some k → (k < length xs) × IsClosed xs (take k xs) (drop (k + 1) xs)
found-at xs k e =
    let at = position-Some is_lf xs k 0 e in
    let here : get_or xs k 0 ≡ 10 = grind (arith, nat_tests, at.1) in (
      at.0,
      (
        sym (take-append-drop k xs) ∙ ap (λ r. take k xs ++ r) (drop_more xs k 0 at.0 ∙ ap (λ b. b ∷ drop (k + 1) xs) here),
        list_any_none is_lf (take k xs)
            (All-from_get_or (λ x. is_lf x ≡ false) (take k xs) 0 (λ i lt.
            let below : i < k = omega (arith, lt, length-take k xs) in
            ap is_lf (get_or-take k xs i 0 below) ∙ at.2 i below)),
      ),
    )
