-- The arrays of a table, read row by row.
use Rattle.std.proofs.Common.{◌≡◌, ℕ, ◌-◌, ◌^◌, ◌<◌, ◌≤◌, List, ◌∷◌, length, map, take, drop, get_or, arith, ap, sym, ◌∙◌, slice_range}
use Rattle.std.proofs.lemmas.List.{take-map, drop-map, length-take, length-drop}
use Rattle.std.proofs.lemmas.Slice.Zip.{length-zip, firsts-zip, seconds-zip}
use Rattle.stencil_apply.specs.Table.{Share, Row, entries_of, row_at}
use Rattle.stencil_apply.specs.Arrays.{Ascend, table_of, shares_in, AreTied}
use Rattle.stencil_apply.specs.declared.arrays.Arrays.{Arrays}
use Rattle.stencil_apply.proofs.ArrayLemmas.{length-rows_from, dens-rows_from, row_from-at, entries-whole}

range-map : {X Y : Type 0} (f : X → Y) (xs : List X) (a b : ℕ) → map f (slice_range xs a b) ≡ slice_range (map f xs) a b
range-map f xs a b = sym (take-map f (b - a) (drop a xs)) ∙ ap (take (b - a)) (sym (drop-map f a xs))

module _ (arrays : Arrays) (is : AreTied arrays) where
  -- there are as many shares as indices
  pub length-shares : length (shares_in arrays) ≡ length arrays.indices.items
  length-shares = omega (arith, is.numerators, length-zip arrays.indices.items arrays.numerators.items)

  -- the ends ascend to the end of the shares
  pub ascend-shares : Ascend 0 arrays.ends.items (length (shares_in arrays))
  ascend-shares = rw length-shares is.ascend

  -- there are as many rows as ends
  pub rows_are : length arrays.ends.items ≡ length (table_of arrays).rows
  rows_are = sym (length-rows_from 0 arrays.ends.items arrays.denominators.items (shares_in arrays) is.denominators)

  -- there are as many entries as indices
  pub entries_are : length arrays.indices.items ≡ entries_of (table_of arrays).rows
  entries_are = sym (entries-whole arrays.ends.items arrays.denominators.items (shares_in arrays) ascend-shares is.denominators ∙ length-shares)

  -- there are at most 2^27 rows and 2^27 entries
  pub rows_few : length arrays.ends.items ≤ 2 ^ 27
  rows_few = omega (arith, is.table.rows_few, rows_are)

  pub entries_few : length arrays.indices.items ≤ 2 ^ 27
  entries_few = omega (arith, is.table.entries_few, entries_are)

  -- no part of the indices is longer
  pub part_few : (a b : ℕ) → length (slice_range arrays.indices.items a b) ≤ 2 ^ 27
  part_few a b = omega (arith, entries_few, length-take (b - a) (drop a arrays.indices.items), length-drop a arrays.indices.items)

  inside : (row : ℕ) → row < length (table_of arrays).rows → row < length arrays.ends.items
  inside row h = omega (arith, h, rows_are)

  row_is : (row n : ℕ) → row < length (table_of arrays).rows → row_at (table_of arrays) row ≡ record { den = get_or arrays.denominators.items row n; shares = slice_range (shares_in arrays) (get_or (0 ∷ arrays.ends.items) row 0) (get_or arrays.ends.items row 0) }
  row_is row n h = row_from-at 0 arrays.ends.items arrays.denominators.items (shares_in arrays) row _ n is.denominators (inside row h)

  -- the denominator of a row
  pub den_at : (row n : ℕ) → row < length (table_of arrays).rows → get_or arrays.denominators.items row n ≡ (row_at (table_of arrays) row).den
  den_at row n h = sym (ap (λ (r : Row). r.den) (row_is row n h))

  -- the denominators of all rows
  pub dens_are : arrays.denominators.items ≡ map (λ (r : Row). r.den) (table_of arrays).rows
  dens_are = sym (dens-rows_from 0 arrays.ends.items arrays.denominators.items (shares_in arrays) is.denominators)

  -- the control points of a row
  pub indices_at : (row : ℕ) → row < length (table_of arrays).rows → slice_range arrays.indices.items (get_or (0 ∷ arrays.ends.items) row 0) (get_or arrays.ends.items row 0) ≡ map (λ share. share.0) (row_at (table_of arrays) row).shares
  indices_at row h =
      let a = get_or (0 ∷ arrays.ends.items) row 0 in
      let b = get_or arrays.ends.items row 0 in
      sym (ap (λ (r : Row). map (λ (share : Share). share.0) r.shares) (row_is row 0 h)
      ∙ range-map (λ (share : Share). share.0) (shares_in arrays) a b
      ∙ ap (λ xs. slice_range xs a b) (firsts-zip arrays.indices.items arrays.numerators.items is.numerators))

  -- the numerators of a row
  pub numerators_at : (row : ℕ) → row < length (table_of arrays).rows → slice_range arrays.numerators.items (get_or (0 ∷ arrays.ends.items) row 0) (get_or arrays.ends.items row 0) ≡ map (λ share. share.1) (row_at (table_of arrays) row).shares
  numerators_at row h =
      let a = get_or (0 ∷ arrays.ends.items) row 0 in
      let b = get_or arrays.ends.items row 0 in
      sym (ap (λ (r : Row). map (λ (share : Share). share.1) r.shares) (row_is row 0 h)
      ∙ range-map (λ (share : Share). share.1) (shares_in arrays) a b
      ∙ ap (λ xs. slice_range xs a b) (seconds-zip arrays.indices.items arrays.numerators.items is.numerators))
