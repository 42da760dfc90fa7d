-- The sum of a row, one entry after the other.
use Rattle.std.proofs.Common.{◌≡◌, ℕ, suc, ◌+◌, ◌-◌, ◌<◌, ◌≤◌, ℤ, Bool, true, nat_lt, List, [], ◌∷◌, length, get_or, drop, map, Option, Some, None, refl, ap, sym, ◌∙◌, arith}
use Rattle.std.specs.List.{fold, list_all, range_with_len, slice_range}
use Rattle.std.proofs.lemmas.Bool.{and_parts, ltb-true, leb-true}
use Rattle.std.proofs.lemmas.List.{get_or-take, get_or-drop, length-take, length-drop}
use Rattle.std.proofs.lemmas.List.Elements.{All-get_or}
use Rattle.std.proofs.lemmas.List.Sums.{AllPass-from_list_all}
use Rattle.row_arrays.specs.Sums.{plus}
use Rattle.row_arrays.specs.Rows.{AreEntries, row_start, row_end, control_count, is_within}
use Rattle.row_arrays.specs.declared.rows.RowArrays.{RowArrays}
use Rattle.row_arrays.specs.declared.rows.ControlArrays.{ControlArrays}

-- A missing sum stays missing.
none-stays : (xs : List ℤ) → fold plus None xs ≡ None
none-stays [] = refl
none-stays (x ∷ xs) = none-stays xs

module _ (f : ℕ → ℤ) (e n : ℕ) (s : ℤ) (whole : Option ℤ) where
  -- the products from an entry on are its own and those from the next one on
  split : e < n → fold plus (Some s) (map f (range_with_len e (n - e))) ≡ whole →
      fold plus (plus (Some s) (f e)) (map f (range_with_len (e + 1) (n - (e + 1)))) ≡ whole
  split h so-far =
      let more : suc (n - (e + 1)) ≡ n - e = omega (arith, h) in
      ap (λ k. fold plus (Some s) (map f (range_with_len e k))) more ∙ so-far

  pub sum-more : (t : ℤ) → e < n → fold plus (Some s) (map f (range_with_len e (n - e))) ≡ whole → Some t ≡ plus (Some s) (f e) →
      fold plus (Some t) (map f (range_with_len (e + 1) (n - (e + 1)))) ≡ whole
  sum-more t h so-far step = ap (λ o. fold plus o (map f (range_with_len (e + 1) (n - (e + 1))))) step ∙ split h so-far

  pub sum-none : e < n → fold plus (Some s) (map f (range_with_len e (n - e))) ≡ whole → None ≡ plus (Some s) (f e) → None ≡ whole
  sum-none h so-far step =
      sym (none-stays (map f (range_with_len (e + 1) (n - (e + 1)))))
      ∙ ap (λ o. fold plus o (map f (range_with_len (e + 1) (n - (e + 1))))) step ∙ split h so-far

-- an item within a part that passes a test as a whole passes it
pub part-passes : (test : ℕ → Bool) (xs : List ℕ) (from to i : ℕ) → from ≤ i → i < to → to ≤ length xs → list_all test (slice_range xs from to) ≡ true →
    test (get_or xs i 0) ≡ true
part-passes test xs from to i low high inside all =
    let short : i - from < to - from = omega (arith, low, high) in
    let there : from + (i - from) ≡ i = omega (arith, low) in
    let within : i - from < length (slice_range xs from to) = omega (arith, low, high, inside, length-take (to - from) (drop from xs), length-drop from xs) in
    ap (λ k. test (get_or xs k 0)) (sym there)
    ∙ ap test (sym (get_or-take (to - from) (drop from xs) (i - from) 0 short ∙ get_or-drop from xs (i - from) 0))
    ∙ All-get_or (λ x. test x ≡ true) (slice_range xs from to) (i - from) 0 within (AllPass-from_list_all test (slice_range xs from to) all)

-- the entries of a row within the arrays
pub within-parts : (rows : RowArrays) (controls : ControlArrays) (row : ℕ) → is_within rows controls row ≡ true → AreEntries rows controls (row_start rows row) (row_end rows row)
within-parts rows controls row e =
    let first = and_parts _ _ e in
    let second = and_parts _ _ first.1 in
    let third = and_parts _ _ second.1 in
    let ends : row_end rows row ≤ length rows.indices.now = leb-true (row_end rows row) (length rows.indices.now) second.0 in record {
      indices = ends;
      numerators = leb-true (row_end rows row) (length rows.numerators.now) third.0;
      named = λ entry low high. ltb-true (get_or rows.indices.now entry 0) (control_count controls)
          (part-passes (λ control. nat_lt control (control_count controls)) rows.indices.now (row_start rows row) (row_end rows row) entry low high ends third.1);
    }
