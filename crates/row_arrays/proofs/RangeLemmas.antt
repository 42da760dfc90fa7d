-- The sums of the rows of a range, written one row after the other.
use Rattle.std.proofs.Common.{◌≡◌, ℕ, zero, suc, ◌+◌, ◌-◌, ◌*◌, ◌<◌, ◌≤◌, ℤ, Bool, true, false, ◌&&◌, List, [], ◌∷◌, ◌++◌, length, take, drop, map, Option, Some, None, refl, ap, sym, ◌∙◌, arith, append_assoc}
use borrow.Rule.Slice.PartMut.{put_mid, mid_of, post_of, put_same}
use Rattle.std.specs.List.{flat_map, list_all, range_with_len}
use Rattle.std.specs.Option.{is_some, some_prefix, option_or}
use Rattle.std.proofs.Math.Nat.{suc-mul}
use Rattle.std.proofs.Math.Seq.{take-append-add, drop-append-add}
use Rattle.std.proofs.lemmas.List.{length-take-le, length-drop, map-append, take-append-le, drop-append-le}
use Rattle.std.proofs.lemmas.List.FromFn.{length-map-range_with_len}
use Rattle.flat_arrays.specs.Words.{integer_of}
use Rattle.flat_arrays.specs.declared.wide.Wide.{Wide}
use Rattle.flat_arrays.proofs.PartLemmas.{rest-later}
use Rattle.row_arrays.specs.Rows.{ArePut, is_within, row_sum, row_sums, row_fault, first_row_fault, sums_of_rows}
use Rattle.row_arrays.specs.declared.rows.RowArrays.{RowArrays}
use Rattle.row_arrays.specs.declared.rows.ControlArrays.{ControlArrays}
use Rattle.row_arrays.specs.declared.rows.RowFault.{RowFault}
use Rattle.row_arrays.proofs.PutLemmas.{fault_by, no-sum, put-first}

-- The prefix of two joined lists, if every number of the first exists.
prefix-joined : (xs ys : List (Option ℤ)) → list_all is_some xs ≡ true → some_prefix (xs ++ ys) ≡ some_prefix xs ++ some_prefix ys
prefix-joined [] ys e = refl
prefix-joined (None ∷ xs) ys e = cc
prefix-joined (Some x ∷ xs) ys e = ap (λ zs. x ∷ zs) (prefix-joined xs ys e)

prefix-within : (xs ys : List (Option ℤ)) → list_all is_some xs ≡ false → some_prefix (xs ++ ys) ≡ some_prefix xs
prefix-within [] ys e = cc
prefix-within (None ∷ xs) ys e = refl
prefix-within (Some x ∷ xs) ys e = ap (λ zs. x ∷ zs) (prefix-within xs ys e)

length-prefix : (xs : List (Option ℤ)) → list_all is_some xs ≡ true → length (some_prefix xs) ≡ length xs
length-prefix [] e = refl
length-prefix (None ∷ xs) e = cc
length-prefix (Some x ∷ xs) e = let less = length-prefix xs e in omega (arith, less)

length-prefix-le : (xs : List (Option ℤ)) → length (some_prefix xs) ≤ length xs
length-prefix-le [] = omega arith
length-prefix-le (None ∷ xs) = omega arith
length-prefix-le (Some x ∷ xs) = let less = length-prefix-le xs in omega (arith, less)

missing : (f : ℕ → Option ℤ) (a n : ℕ) → 0 < n → ((c : ℕ) → f c ≡ None) → list_all is_some (map f (range_with_len a n)) ≡ false
missing f a zero h none = absurd (omega (arith, h))
missing f a (suc n) h none = ap (λ o. is_some o && list_all is_some (map f (range_with_len (a + 1) n))) (none a)

fault-none : (row : ℕ) (within all : Bool) → fault_by row within all ≡ None → all ≡ true
fault-none row true true e = refl
fault-none row true false e = cc
fault-none row false all e = cc

fault-some : (row : ℕ) (within all : Bool) (fault : RowFault) → (within ≡ false → all ≡ false) → fault_by row within all ≡ Some fault → all ≡ false
fault-some row true true fault outside e = cc
fault-some row true false fault outside e = refl
fault-some row false all fault outside e = outside refl

-- numbers written into a part of an array
module _ (at k : ℕ) (more : List ℤ) (out part : List Wide) (inside : at + k ≤ length out) (full : length part ≡ k) (few : length more ≤ k)
    (put : ArePut more (mid_of at k out) part) where
  front : at ≡ length (take at out)
  front = sym (length-take-le at out (omega (arith, inside)))

  pub part-numbers : map integer_of (take (at + length more) (put_mid at k out part)) ≡ map integer_of (take at out) ++ more
  part-numbers =
      ap (λ n. map integer_of (take (n + length more) (put_mid at k out part))) front
      ∙ ap (map integer_of) (take-append-add (take at out) (part ++ post_of at k out) (length more))
      ∙ map-append integer_of (take at out) (take (length more) (part ++ post_of at k out))
      ∙ ap (λ ws. map integer_of (take at out) ++ map integer_of ws) (take-append-le (length more) part (post_of at k out) (omega (arith, full, few)))
      ∙ ap (λ xs. map integer_of (take at out) ++ xs) put.written

  behind : (ws : List Wide) → length ws ≡ k → drop (at + length more) (put_mid at k out ws) ≡ drop (length more) ws ++ post_of at k out
  behind ws e =
      ap (λ n. drop (n + length more) (put_mid at k out ws)) front ∙ drop-append-add (take at out) (ws ++ post_of at k out) (length more)
      ∙ drop-append-le (length more) ws (post_of at k out) (omega (arith, e, few))

  pub part-behind : drop (at + length more) (put_mid at k out part) ≡ drop (at + length more) out
  part-behind =
      let whole : length (mid_of at k out) ≡ k = length-take-le k (drop at out) (omega (arith, inside, length-drop at out)) in
      behind part full ∙ ap (λ ws. ws ++ post_of at k out) put.rest ∙ sym (behind (mid_of at k out) whole) ∙ ap (drop (at + length more)) (put_same at k out)

-- the rows from one on are that row and those from the next one on
rows-from : (row to : ℕ) → row < to → range_with_len row (to - row) ≡ row ∷ range_with_len (row + 1) (to - (row + 1))
rows-from row to h = let more : to - row ≡ suc (to - (row + 1)) = omega (arith, h) in ap (range_with_len row) more

module _ (rows : RowArrays) (controls : ControlArrays) (row to : ℕ) (there : row < to) where
  later : List ℕ
  later = range_with_len (row + 1) (to - (row + 1))

  -- a row without a fault
  pub fault-later : (whole : Option RowFault) → row_fault rows controls row ≡ None → first_row_fault rows controls (range_with_len row (to - row)) ≡ whole →
      first_row_fault rows controls (range_with_len (row + 1) (to - (row + 1))) ≡ whole
  fault-later whole none so-far =
      ap (λ o. option_or o (first_row_fault rows controls (range_with_len (row + 1) (to - (row + 1))))) (sym none)
      ∙ ap (first_row_fault rows controls) (sym (rows-from row to there)) ∙ so-far

  pub fault-here : (whole : Option RowFault) (fault : RowFault) → row_fault rows controls row ≡ Some fault →
      first_row_fault rows controls (range_with_len row (to - row)) ≡ whole → whole ≡ Some fault
  fault-here whole fault found so-far =
      sym so-far ∙ ap (first_row_fault rows controls) (rows-from row to there)
      ∙ ap (λ o. option_or o (first_row_fault rows controls (range_with_len (row + 1) (to - (row + 1))))) found

  all-there : row_fault rows controls row ≡ None → list_all is_some (row_sums rows controls row) ≡ true
  all-there none = fault-none row (is_within rows controls row) (list_all is_some (row_sums rows controls row)) none

  one-missing : (fault : RowFault) → 0 < controls.components → row_fault rows controls row ≡ Some fault → list_all is_some (row_sums rows controls row) ≡ false
  one-missing fault some found =
      fault-some row (is_within rows controls row) (list_all is_some (row_sums rows controls row)) fault
      (λ e. missing (row_sum rows controls row) 0 controls.components some (no-sum rows controls row e)) found

  pub count-all : row_fault rows controls row ≡ None → length (some_prefix (row_sums rows controls row)) ≡ controls.components
  count-all none =
      length-prefix (row_sums rows controls row) (all-there none) ∙ length-map-range_with_len (row_sum rows controls row) 0 controls.components

  pub count-few : length (some_prefix (row_sums rows controls row)) ≤ controls.components
  count-few =
      omega (arith, length-prefix-le (row_sums rows controls row), length-map-range_with_len (row_sum rows controls row) 0 controls.components)

  pub sums-later : (before whole : List ℤ) → row_fault rows controls row ≡ None → before ++ sums_of_rows rows controls (range_with_len row (to - row)) ≡ whole →
      (before ++ some_prefix (row_sums rows controls row)) ++ sums_of_rows rows controls (range_with_len (row + 1) (to - (row + 1))) ≡ whole
  sums-later before whole none so-far =
      append_assoc before (some_prefix (row_sums rows controls row)) (sums_of_rows rows controls (range_with_len (row + 1) (to - (row + 1))))
      ∙ ap (λ xs. before ++ xs)
      (sym (prefix-joined (row_sums rows controls row) (flat_map (row_sums rows controls) (range_with_len (row + 1) (to - (row + 1)))) (all-there none))
      ∙ ap (sums_of_rows rows controls) (sym (rows-from row to there)))
      ∙ so-far

  pub sums-here : (before whole : List ℤ) (fault : RowFault) → 0 < controls.components → row_fault rows controls row ≡ Some fault →
      before ++ sums_of_rows rows controls (range_with_len row (to - row)) ≡ whole → whole ≡ before ++ some_prefix (row_sums rows controls row)
  sums-here before whole fault some found so-far =
      sym so-far ∙ ap (λ xs. before ++ xs)
      (ap (sums_of_rows rows controls) (rows-from row to there)
      ∙ prefix-within (row_sums rows controls row) (flat_map (row_sums rows controls) (range_with_len (row + 1) (to - (row + 1)))) (one-missing fault some found))

-- The numbers written up to a row with a fault.
pub stops-here : (numbers more : List ℤ) (at k : ℕ) (old out part : List Wide) → at + k ≤ length out → length part ≡ k → length more ≤ k →
    length (put_mid at k out part) ≡ length out → ArePut more (mid_of at k out) part → numbers ≡ map integer_of (take at out) ++ more → drop at out ≡ drop at old →
    ArePut numbers old (put_mid at k out part)
stops-here numbers more at k old out part inside full few same put is rest =
    put-first numbers (at + length more) old (put_mid at k out part) (is ∙ sym (part-numbers at k more out part inside full few put)) (omega (arith, inside, few, same))
    (part-behind at k more out part inside full few put ∙ rest-later at (at + length more) out old old (omega arith) rest refl)

-- the array is long enough for the rows behind a row
pub enough-later : (at row to width len : ℕ) → row < to → at + (to - row) * width ≤ len → (at + width) + (to - (row + 1)) * width ≤ len
enough-later at row to width len there enough =
    let more : (to - row) * width ≡ (to - (row + 1)) * width + width = ap (λ n. n * width) (omega (arith, there)) ∙ suc-mul (to - (row + 1)) width in
    omega (arith, enough, more)
