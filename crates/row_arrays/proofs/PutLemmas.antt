-- The sums of a row, written one after the other.
use Rattle.std.proofs.Common.{◌≡◌, ℕ, zero, suc, ◌+◌, ◌-◌, ◌<◌, ◌≤◌, ℤ, Bool, true, false, List, [], ◌∷◌, ◌++◌, length, take, drop, map, Option, Some, None, if◌then◌else◌, refl, ap, sym, ◌∙◌, subst, arith}
use Rattle.std.specs.List.{list_all, range_with_len}
use Rattle.std.specs.Option.{is_some, some_prefix}
use Rattle.std.proofs.lemmas.List.{length-take, length-map, map-append}
use Rattle.std.proofs.lemmas.List.FromFn.{map-range_with_len_more}
use Rattle.flat_arrays.specs.Words.{integer_of}
use Rattle.flat_arrays.specs.declared.wide.Wide.{Wide}
use Rattle.row_arrays.specs.Rows.{ArePut, is_within, row_start, row_end, product_at, row_sum, row_sums, row_fault}
use Rattle.row_arrays.specs.Sums.{sum_of}
use Rattle.row_arrays.specs.declared.rows.RowArrays.{RowArrays}
use Rattle.row_arrays.specs.declared.rows.ControlArrays.{ControlArrays}
use Rattle.row_arrays.specs.declared.rows.RowFault.{RowFault}
use Rattle.row_arrays.specs.declared.rows.RowFault.TheVariants.{Row, Overflow}

-- Numbers that all exist are their own prefix.
prefix-all : (xs : List ℤ) → some_prefix (map Some xs) ≡ xs
prefix-all [] = refl
prefix-all (x ∷ xs) = ap (λ ys. x ∷ ys) (prefix-all xs)

all-there : (xs : List ℤ) → list_all is_some (map Some xs) ≡ true
all-there [] = refl
all-there (x ∷ xs) = all-there xs

prefix-stops : (xs : List ℤ) (others : List (Option ℤ)) → some_prefix (map Some xs ++ None ∷ others) ≡ xs
prefix-stops [] others = refl
prefix-stops (x ∷ xs) others = ap (λ ys. x ∷ ys) (prefix-stops xs others)

one-missing : (xs : List ℤ) (others : List (Option ℤ)) → list_all is_some (map Some xs ++ None ∷ others) ≡ false
one-missing [] others = refl
one-missing (x ∷ xs) others = one-missing xs others

-- The values at a range, split at one of its places.
split-at : (f : ℕ → Option ℤ) (a k n j : ℕ) → a + k ≡ j → k < n →
    (others : List (Option ℤ)) × (map f (range_with_len a n) ≡ map f (range_with_len a k) ++ f j ∷ others)
split-at f a k zero j e h = absurd (omega (arith, h))
split-at f a zero (suc n) j e h =
    let here : a ≡ j = omega (arith, e) in (map f (range_with_len (a + 1) n), ap (λ i. f i ∷ map f (range_with_len (a + 1) n)) here)
split-at f a (suc k) (suc n) j e h =
    let later = split-at f (a + 1) k n j (omega (arith, e)) (omega (arith, h)) in (later.0, ap (λ xs. f a ∷ xs) later.1)

-- the first numbers are written, and the other places stay
pub put-first : (numbers : List ℤ) (k : ℕ) (old new : List Wide) → numbers ≡ map integer_of (take k new) → k ≤ length new → drop k new ≡ drop k old →
    ArePut numbers old new
put-first numbers k old new is inside rest =
    let count : k ≡ length numbers = omega (arith, ap length is, length-map (take k new) integer_of, length-take k new, inside) in record {
      written = ap (λ i. map integer_of (take i new)) (sym count) ∙ sym is;
      rest = subst (λ i. drop i new ≡ drop i old) count rest;
    }

-- one sum more
pub sums-more : (f : ℕ → Option ℤ) (k : ℕ) (old new : List Wide) (sum : ℤ) → map integer_of (take (k + 1) new) ≡ map integer_of (take k old) ++ sum ∷ [] →
    Some sum ≡ f k → map Some (map integer_of (take k old)) ≡ map f (range_with_len 0 k) →
    map Some (map integer_of (take (k + 1) new)) ≡ map f (range_with_len 0 (k + 1))
sums-more f k old new sum written is so-far =
    ap (map Some) written ∙ map-append Some (map integer_of (take k old)) (sum ∷ []) ∙ ap (λ xs. xs ++ Some sum ∷ []) so-far
    ∙ ap (λ o. map f (range_with_len 0 k) ++ o ∷ []) is ∙ sym (map-range_with_len_more f 0 k k (omega arith))

-- The fault of a row, by whether the arrays contain it and whether all its sums exist.
abbrev pub fault_by : ℕ → Bool → Bool → Option RowFault
fault_by row within all = if within then (if all then None else (Some (Overflow row))) else (Some (Row row))

module _ (rows : RowArrays) (controls : ControlArrays) (row : ℕ) where
  pub no-sum : is_within rows controls row ≡ false → (c : ℕ) → row_sum rows controls row c ≡ None
  no-sum e c =
      ap (λ within. if within then (sum_of (map (product_at rows controls c) (range_with_len (row_start rows row) (row_end rows row - row_start rows row)))) else None) e

  -- all its sums are written
  module _ (k : ℕ) (old new : List Wide) (low : controls.components ≤ k) (high : k ≤ controls.components)
      (is : map Some (map integer_of (take k new)) ≡ map (row_sum rows controls row) (range_with_len 0 k)) where
    all-sums : row_sums rows controls row ≡ map Some (map integer_of (take k new))
    all-sums =
        let count : controls.components ≡ k = omega (arith, low, high) in
        ap (λ n. map (row_sum rows controls row) (range_with_len 0 n)) count ∙ sym is

    pub all-fault : is_within rows controls row ≡ true → row_fault rows controls row ≡ None
    all-fault e =
        ap (λ within. fault_by row within (list_all is_some (row_sums rows controls row))) e
        ∙ ap (λ os. fault_by row true (list_all is_some os)) all-sums ∙ ap (fault_by row true) (all-there (map integer_of (take k new)))

    pub all-put : k ≤ length new → drop k new ≡ drop k old → ArePut (some_prefix (row_sums rows controls row)) old new
    all-put inside rest = put-first (some_prefix (row_sums rows controls row)) k old new (ap some_prefix all-sums ∙ prefix-all (map integer_of (take k new))) inside rest

  -- there is no sum for a component
  split-sums : (k : ℕ) (xs : List ℤ) → k < controls.components → map Some xs ≡ map (row_sum rows controls row) (range_with_len 0 k) →
      row_sum rows controls row k ≡ None → (others : List (Option ℤ)) × (row_sums rows controls row ≡ map Some xs ++ None ∷ others)
  split-sums k xs h is none =
      let parts = split-at (row_sum rows controls row) 0 k controls.components k (omega arith) h in
      (parts.0, parts.1 ∙ ap (λ ys. ys ++ row_sum rows controls row k ∷ parts.0) (sym is) ∙ ap (λ o. map Some xs ++ o ∷ parts.0) none)

  pub over-fault : (k : ℕ) (xs : List ℤ) → is_within rows controls row ≡ true → k < controls.components →
      map Some xs ≡ map (row_sum rows controls row) (range_with_len 0 k) → row_sum rows controls row k ≡ None → row_fault rows controls row ≡ Some (Overflow row)
  over-fault k xs e h is none =
      let parts = split-sums k xs h is none in
      ap (λ within. fault_by row within (list_all is_some (row_sums rows controls row))) e
      ∙ ap (λ os. fault_by row true (list_all is_some os)) parts.1 ∙ ap (fault_by row true) (one-missing xs parts.0)

  pub over-put : (k : ℕ) (old new : List Wide) → k < controls.components → k ≤ length new →
      map Some (map integer_of (take k new)) ≡ map (row_sum rows controls row) (range_with_len 0 k) → row_sum rows controls row k ≡ None → drop k new ≡ drop k old →
      ArePut (some_prefix (row_sums rows controls row)) old new
  over-put k old new h inside is none rest =
      let parts = split-sums k (map integer_of (take k new)) h is none in
      put-first (some_prefix (row_sums rows controls row)) k old new (ap some_prefix parts.1 ∙ prefix-stops (map integer_of (take k new)) parts.0) inside rest
