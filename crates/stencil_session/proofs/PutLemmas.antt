-- Entries that are put into the parts of their columns.
use Rattle.std.proofs.Common.{◌≡◌, ℕ, ◌+◌, ◌-◌, ◌^◌, ◌<◌, ◌≤◌, Bool, true, false, cond, if◌then◌else◌, nat_eq, nat_lt, nat_le, List, [], ◌∷◌, ◌++◌, length, map, get_or, set, take, drop, slice_range, arith, refl, ap, sym, ◌∙◌, subst, ◌⊎◌, inl, inr}
use Rattle.std.specs.List.{filter, count_by}
use Rattle.std.proofs.lemmas.Bool.{cases_eq, cases_order, eq-eqb, ne_eqb, leb-true}
use Rattle.std.proofs.lemmas.Bool.Decides.{nat_tests}
use Rattle.std.proofs.lemmas.List.{take_more_set, take-set-le, drop-set-lt, drop-set-add, length-drop, length-set, map-append, append-nil, get_or-map, get_or-set_same, get_or-set_other}
use Rattle.std.proofs.lemmas.List.Elements.{filter-append}
use Rattle.std.proofs.lemmas.List.Sums.{sum_by-append, sum_by-cons, get_or-le-sum_by}
use Rattle.number_width.specs.Numbers.{width_for, most_of}
use Rattle.number_width.specs.declared.width.Width.{Width}
use Rattle.number_width.specs.declared.width.Width.TheVariants as width
use Rattle.stencil_apply.specs.Table.{Share, Table, IsRow, IsTable, row_at, greatest_of}
use Rattle.stencil_apply.proofs.RowLemmas.{den-row}
use Rattle.stencil_session.specs.Columns.{Cell, cells_from, is_of, start_of, ArePut}
use Rattle.stencil_session.specs.declared.parts.Parts.{Parts}
use Rattle.stencil_session.proofs.CellLemmas.{cell, done, done-more, done-rest, at-share, control-is, control-inside, count-more, cells-few}

abbrev one_if : Bool → ℕ
one_if test = cond test 1 0

-- a part of a list whose place is written behind the part, before it, or at its end
range-before : {X : Type 0} (xs : List X) (a b at : ℕ) (x : X) → a ≤ b → b ≤ at → slice_range (set xs at x) a b ≡ slice_range xs a b
range-before xs a b at x h k =
    let there : at ≡ a + (at - a) = omega (arith, h, k) in
    ap (λ n. take (b - a) (drop a (set xs n x))) there
    ∙ ap (take (b - a)) (drop-set-add a xs (at - a) x)
    ∙ take-set-le (b - a) (drop a xs) (at - a) x (omega (arith, h, k))

range-behind : {X : Type 0} (xs : List X) (a b at : ℕ) (x : X) → at < a → slice_range (set xs at x) a b ≡ slice_range xs a b
range-behind xs a b at x h = ap (take (b - a)) (drop-set-lt a xs at x h)

range-end : {X : Type 0} (xs : List X) (a at : ℕ) (x : X) → a ≤ at → at < length xs → slice_range (set xs at x) a (at + 1) ≡ slice_range xs a at ++ x ∷ []
range-end xs a at x h k =
    let there : at ≡ a + (at - a) = omega (arith, h) in
    let more : (at + 1) - a ≡ (at - a) + 1 = omega (arith, h) in
    ap (λ n. take n (drop a (set xs at x))) more
    ∙ ap (λ n. take ((at - a) + 1) (drop a (set xs n x))) there
    ∙ ap (take ((at - a) + 1)) (drop-set-add a xs (at - a) x)
    ∙ take_more_set (drop a xs) (at - a) x (omega (arith, h, k, length-drop a xs))

-- a column begins where the one before it ends
one-next : (a i : ℕ) → ◌≡◌ {A = ℕ} (cond (nat_lt a (i + 1)) 1 0) (cond (nat_lt a i) 1 0 + cond (nat_eq a i) 1 0)
one-next a i = grind (arith, nat_tests)

one-apart : (a i j : ℕ) → i < j → cond (nat_lt a i) 1 0 + cond (nat_eq a i) 1 0 ≤ cond (nat_lt a j) 1 0
one-apart a i j h = grind (arith, nat_tests)

one-most : (a i : ℕ) → cond (nat_lt a i) 1 0 ≤ 1
one-most a i = grind (arith, nat_tests)

pub start-next : (cells : List Cell) (i : ℕ) → start_of cells (i + 1) ≡ start_of cells i + count_by (is_of i) cells
start-next [] i = refl
start-next (cell ∷ cells) i =
    omega (arith, one-next cell.0 i, start-next cells i, sum_by-cons (λ (c : Cell). cond (nat_lt c.0 (i + 1)) 1 0) cell cells, sum_by-cons (λ (c : Cell). cond (nat_lt c.0 i) 1 0) cell cells, sum_by-cons (λ (c : Cell). cond (nat_eq c.0 i) 1 0) cell cells)

pub start-apart : (cells : List Cell) (i j : ℕ) → i < j → start_of cells i + count_by (is_of i) cells ≤ start_of cells j
start-apart [] i j h = omega arith
start-apart (cell ∷ cells) i j h =
    omega (arith, one-apart cell.0 i j h, start-apart cells i j h, sum_by-cons (λ (c : Cell). cond (nat_lt c.0 j) 1 0) cell cells, sum_by-cons (λ (c : Cell). cond (nat_lt c.0 i) 1 0) cell cells, sum_by-cons (λ (c : Cell). cond (nat_eq c.0 i) 1 0) cell cells)

pub start-most : (cells : List Cell) (i : ℕ) → start_of cells i ≤ length cells
start-most [] i = omega arith
start-most (cell ∷ cells) i =
    omega (arith, one-most cell.0 i, start-most cells i, sum_by-cons (λ (c : Cell). cond (nat_lt c.0 i) 1 0) cell cells)

-- entries are put up to one, which is the next
module _ (all done rest : List Cell) (entry : Cell) (cut : all ≡ done ++ entry ∷ rest) where
  -- the place of the next entry of a column
  abbrev place : ℕ → ℕ
  place i = start_of all i + count_by (is_of i) done

  counts-cut : (i : ℕ) → count_by (is_of i) all ≡ count_by (is_of i) done + (cond (nat_eq entry.0 i) 1 0 + count_by (is_of i) rest)
  counts-cut i =
      ap (count_by (is_of i)) cut
      ∙ sum_by-append (λ c. cond (is_of i c) 1 0) done (entry ∷ rest)
      ∙ ap (λ n. count_by (is_of i) done + n) (sum_by-cons (λ c. cond (is_of i c) 1 0) entry rest)

  room : place entry.0 + 1 ≤ start_of all entry.0 + count_by (is_of entry.0) all
  room =
      let one : ◌≡◌ {A = ℕ} (cond (nat_eq entry.0 entry.0) 1 0) 1 = grind (arith, nat_tests) in
      omega (arith, counts-cut entry.0, one)

  pub place-inside : place entry.0 < length all
  place-inside = omega (arith, room, start-next all entry.0, start-most all (entry.0 + 1))

  filter-more : (i : ℕ) → filter (is_of i) (done ++ entry ∷ []) ≡ filter (is_of i) done ++ cond (is_of i entry) (entry ∷ []) []
  filter-more i = filter-append (is_of i) done (entry ∷ [])

  module _ (value : Cell → ℕ) (items new : List ℕ) (long : length items ≡ length all) (put : new ≡ set items (place entry.0) (value entry)) where
    -- the part of its column has it behind the others
    here : slice_range items (start_of all entry.0) (place entry.0) ≡ map value (filter (is_of entry.0) done)
        → slice_range new (start_of all entry.0) (start_of all entry.0 + count_by (is_of entry.0) (done ++ entry ∷ [])) ≡ map value (filter (is_of entry.0) (done ++ entry ∷ []))
    here part =
        let is : is_of entry.0 entry ≡ true = eq-eqb entry.0 entry.0 refl in
        let more : start_of all entry.0 + count_by (is_of entry.0) (done ++ entry ∷ []) ≡ place entry.0 + 1 =
        omega (arith, count-more entry.0 done entry, ap one_if is) in
        ap (λ n. slice_range new (start_of all entry.0) n) more
        ∙ ap (λ xs. slice_range xs (start_of all entry.0) (place entry.0 + 1)) put
        ∙ range-end items (start_of all entry.0) (place entry.0) (value entry) (omega arith) (omega (arith, place-inside, long))
        ∙ ap (λ xs. xs ++ value entry ∷ []) part
        ∙ sym (map-append value (filter (is_of entry.0) done) (entry ∷ []))
        ∙ ap (map value) (sym (filter-more entry.0 ∙ ap (λ b. filter (is_of entry.0) done ++ cond b (entry ∷ []) []) is))

    -- the parts of the others are as they were
    there : (i : ℕ) → (i ≡ entry.0 → ⊥) → slice_range items (start_of all i) (place i) ≡ map value (filter (is_of i) done)
        → slice_range new (start_of all i) (start_of all i + count_by (is_of i) (done ++ entry ∷ [])) ≡ map value (filter (is_of i) (done ++ entry ∷ []))
    there i other part =
        let is : is_of i entry ≡ false = ne_eqb entry.0 i (λ e. other (sym e)) in
        let same : start_of all i + count_by (is_of i) (done ++ entry ∷ []) ≡ place i =
        omega (arith, count-more i done entry, ap one_if is) in
        ap (λ n. slice_range new (start_of all i) n) same
        ∙ ap (λ xs. slice_range xs (start_of all i) (place i)) put
        ∙ apart (cases_order i entry.0)
        ∙ part
        ∙ ap (map value) (sym (filter-more i ∙ ap (λ b. filter (is_of i) done ++ cond b (entry ∷ []) []) is ∙ append-nil (filter (is_of i) done)))
      where
        apart : (i ≡ entry.0) ⊎ ((i < entry.0) ⊎ (entry.0 < i)) → slice_range (set items (place entry.0) (value entry)) (start_of all i) (place i) ≡ slice_range items (start_of all i) (place i)
        apart (inl e) = absurd (other e)
        apart (inr (inl less)) =
            range-before items (start_of all i) (place i) (place entry.0) (value entry) (omega arith)
            (omega (arith, counts-cut i, start-apart all i entry.0 less))
        apart (inr (inr more)) =
            range-behind items (start_of all i) (place i) (place entry.0) (value entry)
            (omega (arith, room, start-apart all entry.0 i more))

    pub part-step : (i : ℕ) → slice_range items (start_of all i) (place i) ≡ map value (filter (is_of i) done)
        → slice_range new (start_of all i) (start_of all i + count_by (is_of i) (done ++ entry ∷ [])) ≡ map value (filter (is_of i) (done ++ entry ∷ []))
    part-step i = elim (cases_eq i entry.0) [
      | inl same ↦
          subst (λ j. slice_range items (start_of all j) (place j) ≡ map value (filter (is_of j) done) → slice_range new (start_of all j) (start_of all j + count_by (is_of j) (done ++ entry ∷ [])) ≡ map value (filter (is_of j) (done ++ entry ∷ []))) (sym same) here
      | inr other ↦ there i other
    ]

-- a numerator up to a greatest one is a number of the width that has the greatest
small-for : (n most : ℕ) → n ≤ most → n < 2 ^ 128 → n ≤ most_of (width_for most)
small-for n most h short = go (nat_le most (2 ^ 64 - 1)) refl
  where
    go : (b : Bool) → nat_le most (2 ^ 64 - 1) ≡ b → n ≤ most_of (if b then width.Narrow else width.Wide)
    go true e = omega (arith, h, leb-true most (2 ^ 64 - 1) e)
    go false e = omega (arith, short)

-- an entry of a row, read from the table, that is put
module _ (table : Table) (is : IsTable table) (row : ℕ) (inside : row < length table.rows) (indices : List ℕ) (named : indices ≡ map (λ share. share.0) (row_at table row).shares) (at : ℕ) (h : at < length indices)
    (numerators : List ℕ) (numbered : numerators ≡ map (λ share. share.1) (row_at table row).shares)
    (old : Parts) (put : ArePut table.controls (cells_from 0 table.rows) (done table row inside at) old) where
  abbrev all : List Cell
  all = cells_from 0 table.rows

  abbrev entry : Cell
  entry = cell table row inside at

  there-share : at < length (row_at table row).shares
  there-share = at-share table is row inside indices named at h

  control : get_or indices at 0 ≡ entry.0
  control = control-is table is row inside indices named at h

  numerator : get_or numerators at 0 ≡ entry.2
  numerator = ap (λ xs. get_or xs at 0) numbered ∙ get_or-map (λ (share : Share). share.1) (row_at table row).shares at (0, 0) 0 there-share

  entry-inside : entry.0 < table.controls
  entry-inside = control-inside table is row inside indices named at h

  rest : (rest : List Cell) × (all ≡ done table row inside at ++ entry ∷ rest)
  rest = done-rest table row inside at there-share

  next : get_or old.ends.items (get_or indices at 0) 0 ≡ start_of all entry.0 + count_by (is_of entry.0) (done table row inside at)
  next = ap (λ i. get_or old.ends.items i 0) control ∙ put.next entry.0 entry-inside

  next-inside : start_of all entry.0 + count_by (is_of entry.0) (done table row inside at) < length all
  next-inside = place-inside all (done table row inside at) rest.0 entry rest.1

  pub put-control : get_or indices at 0 < length old.ends.items
  put-control = omega (arith, control, entry-inside, put.columns)

  pub put-row : get_or old.ends.items (get_or indices at 0) 0 < length old.rows.items
  put-row = omega (arith, next, next-inside, put.long)

  pub put-numerator : get_or old.ends.items (get_or indices at 0) 0 < length old.numerators.items
  put-numerator = omega (arith, next, next-inside, put.numerators)

  pub put-short : length old.rows.items ≤ 2 ^ 27
  put-short = omega (arith, put.long, cells-few table is)

  pub put-small : (number : ℕ) → number ≡ get_or numerators at 0 → (width : Width) → width ≡ width_for (greatest_of table) → number ≤ most_of width
  put-small number read width wide =
      let good : IsRow table.controls (row_at table row) = is.rows row _ inside in
      let one = get_or-le-sum_by (λ (share : Share). share.1) (row_at table row).shares at (0, 0) there-share in
      let least = den-row table row inside in
      rw wide
      (small-for number (greatest_of table) (omega (arith, read, numerator, one, good.whole, least)) (omega (arith, read, numerator, one, good.whole, good.short)))

  module _ (number : ℕ) (read : number ≡ get_or numerators at 0) (new : Parts)
      (ends : new.ends.items ≡ set old.ends.items (get_or indices at 0) (get_or old.ends.items (get_or indices at 0) 0 + 1))
      (rows : new.rows.items ≡ set old.rows.items (get_or old.ends.items (get_or indices at 0) 0) row)
      (values : new.numerators.items ≡ set old.numerators.items (get_or old.ends.items (get_or indices at 0) 0) number) where
    abbrev after : List Cell
    after = done table row inside at ++ entry ∷ []

    next-after : (i : ℕ) → i < table.controls → get_or new.ends.items i 0 ≡ start_of all i + count_by (is_of i) after
    next-after i h = elim (cases_eq i entry.0) [
      | inl same ↦
          let is : is_of i entry ≡ true = eq-eqb entry.0 i (sym same) in
          let here : get_or new.ends.items i 0 ≡ get_or old.ends.items (get_or indices at 0) 0 + 1 =
          rw (ends, same ∙ sym control) (get_or-set_same old.ends.items (get_or indices at 0) _ 0 put-control) in
          omega (arith, here, put.next i h, count-more i (done table row inside at) entry, ap one_if is, ap (λ j. get_or old.ends.items j 0) (control ∙ sym same))
      | inr other ↦
          let is : is_of i entry ≡ false = ne_eqb entry.0 i (λ e. other (sym e)) in
          let here : get_or new.ends.items i 0 ≡ get_or old.ends.items i 0 =
          rw ends (get_or-set_other old.ends.items (get_or indices at 0) i _ 0 (λ e. other (e ∙ control))) in
          omega (arith, here, put.next i h, count-more i (done table row inside at) entry, ap one_if is)
    ]

    pub put-more : ArePut table.controls all (done table row inside (at + 1)) new
    put-more = rw (done-more table row inside at there-share) (record {
      columns = ap length ends ∙ length-set old.ends.items _ _ ∙ put.columns;
      long = ap length rows ∙ length-set old.rows.items _ _ ∙ put.long;
      numerators = ap length values ∙ length-set old.numerators.items _ _ ∙ put.numerators;
      next = next-after;
      row_parts = λ i h. part-step all (done table row inside at) rest.0 entry rest.1 (λ (c : Cell). c.1) old.rows.items new.rows.items put.long
          (rows ∙ ap (λ n. set old.rows.items n row) next) i (put.row_parts i h);
      numerator_parts = λ i h. part-step all (done table row inside at) rest.0 entry rest.1 (λ (c : Cell). c.2) old.numerators.items new.numerators.items put.numerators
          (values ∙ ap (λ n. set old.numerators.items n number) next ∙ ap (set old.numerators.items (start_of all entry.0 + count_by (is_of entry.0) (done table row inside at))) (read ∙ numerator)) i (put.numerator_parts i h);
    })
