-- One more row, and the memory for it.
use Rattle.std.proofs.Common.{◌≡◌, ℕ, suc, ◌+◌, ◌-◌, ◌^◌, ◌<◌, ◌≤◌, max, List, [], ◌∷◌, ◌++◌, length, map, get_or, arith, refl, ap, sym, ◌∙◌, length-append}
use Rattle.std.specs.List.{zip, fold, All}
use Rattle.std.proofs.lemmas.Bool.Decides.{nat_tests}
use Rattle.std.proofs.lemmas.List.{length-map, map-append, get_or-map}
use Rattle.std.proofs.lemmas.List.Elements.{All-push}
use Rattle.std.proofs.lemmas.List.Sums.{fold_push, sum_by_push, get_or-le-sum_by}
use Rattle.std.proofs.lemmas.Slice.Zip.{length-zip, get_or-zip}
use Rattle.number_width.specs.Numbers.{width_for, most_of}
use Rattle.number_width.specs.declared.width.Width.{Width}
use Rattle.number_width.specs.declared.width.Width.TheVariants as width
use Rattle.stencil_apply.specs.Table.{Share, Row, Table, IsRow, IsTable, entries_of, greatest_of}
use Rattle.stencil_apply.specs.Arrays.{shares_in, table_of, AreTied, shares_of, row_of, row_of_parts}
use Rattle.stencil_apply.specs.Built.{with_row, wider, HaveCapacity, HaveSpace, IsGrown, IsPushed}
use Rattle.stencil_apply.specs.declared.arrays.Arrays.{Arrays}
use Rattle.stencil_apply.specs.declared.entry.Entry.{Entry}
use Rattle.stencil_apply.proofs.ArrayLemmas.{Ascend-push, rows_from-push}
use Rattle.stencil_apply.proofs.TableLemmas.{length-shares, ascend-shares, entries_are}
use Rattle.stencil_apply.proofs.RowLemmas.{zip-maps}

-- pairs of two lists one after another
zip-append : {A B : Type 0} (xs ys : List A) (us vs : List B) → length us ≡ length xs → zip (xs ++ ys) (us ++ vs) ≡ zip xs us ++ zip ys vs
zip-append [] ys [] vs e = refl
zip-append [] ys (u ∷ us) vs e = absurd (omega (arith, e))
zip-append (x ∷ xs) ys [] vs e = absurd (omega (arith, e))
zip-append (x ∷ xs) ys (u ∷ us) vs e = ap (λ ps. (x, u) ∷ ps) (zip-append xs ys us vs (omega (arith, e)))

-- the shares of entries are as many, and have their control points and numerators
pub length-shares_of : (row : List Entry) → length (shares_of row) ≡ length row
length-shares_of [] = refl
length-shares_of (entry ∷ row) = ap suc (length-shares_of row)

pub firsts-shares_of : (row : List Entry) → map (λ share. share.0) (shares_of row) ≡ map (λ entry. entry.index) row
firsts-shares_of [] = refl
firsts-shares_of (entry ∷ row) = ap (λ xs. entry.index ∷ xs) (firsts-shares_of row)

pub seconds-shares_of : (row : List Entry) → map (λ share. share.1) (shares_of row) ≡ map (λ entry. entry.numerator) row
seconds-shares_of [] = refl
seconds-shares_of (entry ∷ row) = ap (λ xs. entry.numerator ∷ xs) (seconds-shares_of row)

-- no numerator of a row passes a bound of its denominator
pub entries-small : (controls den most : ℕ) (row : List Entry) → IsRow controls (row_of den row) → den ≤ most → All (λ entry. entry.numerator ≤ most) row
entries-small controls den most row is short k d h =
    let one = get_or-le-sum_by (λ (share : Share). share.1) (shares_of row) k (d.index, d.numerator) (rw length-shares_of h) in
    let same : get_or (shares_of row) k (d.index, d.numerator) ≡ ((get_or row k d).index, (get_or row k d).numerator) =
    get_or-map (λ (entry : Entry). (entry.index, entry.numerator)) row k d (d.index, d.numerator) h in
    omega (arith, one, ap (λ (share : Share). share.1) same, is.whole, short)

pub length-parts : {X : Type 0} (value : X → ℕ) (indices : List ℕ) (numerators : List X) → length numerators ≡ length indices → length (zip indices (map value numerators)) ≡ length indices
length-parts value indices numerators equal =
    omega (arith, equal, length-map numerators value, length-zip indices (map value numerators))

pub parts-small : {X : Type 0} (value : X → ℕ) (controls den most : ℕ) (indices : List ℕ) (numerators : List X) → length numerators ≡ length indices → IsRow controls (row_of_parts den indices (map value numerators)) → den ≤ most → All (λ number. value number ≤ most) numerators
parts-small value controls den most indices numerators equal is short k d h =
    let count = length-map numerators value in
    let shares = zip indices (map value numerators) in
    let one = get_or-le-sum_by (λ (share : Share). share.1) shares k (0, 0) (omega (arith, h, equal, count, length-zip indices (map value numerators))) in
    let same = get_or-zip indices (map value numerators) k (0, 0) (omega (arith, h, equal)) (omega (arith, h, count)) in
    omega (arith, one, ap (λ (share : Share). share.1) same, get_or-map value numerators k d 0 h, is.whole, short)

-- a number fits the width that was widened for it
pub width-enough : (old new : Width) (number : ℕ) → number < 2 ^ 128 → new ≡ wider old (width_for number) → number ≤ most_of new
width-enough old new number h e = rw e (fits old number h)
  where
    fits : (old : Width) (number : ℕ) → number < 2 ^ 128 → number ≤ most_of (wider old (width_for number))
    fits width.Narrow number h = grind (arith, nat_tests)
    fits width.Wide number h = omega (arith, h)

-- arrays with the same items are those of the same table
pub table-grown : (old new : Arrays) → IsGrown old new → table_of new ≡ table_of old
table-grown old new g = rw (g.controls, g.ends, g.denominators, g.indices, g.numerators) refl

-- arrays with the same items belong together if the old ones do
pub AreTied-grown : (old new : Arrays) → IsGrown old new → AreTied old → AreTied new
AreTied-grown old new g is =
    let same = table-grown old new g in
    record {
      table = rw same is.table;
      ascend = rw (g.ends, g.indices) is.ascend;
      numerators = rw (g.numerators, g.indices) is.numerators;
      denominators = rw (g.denominators, g.ends) is.denominators;
      greatest = g.greatest ∙ is.greatest ∙ sym (ap greatest_of same);
    }

-- arrays with the same items have the memory that was reserved before
pub HaveCapacity-grown : (old new : Arrays) (rows entries : ℕ) → IsGrown old new → HaveCapacity old rows entries → HaveCapacity new rows entries
HaveCapacity-grown old new rows entries g have = record {
  tied = AreTied-grown old new g have.tied;
  end_capacity = omega (arith, ap length g.ends, have.end_capacity, g.capacity.ends);
  denominator_capacity = omega (arith, ap length g.denominators, have.denominator_capacity, g.capacity.denominators);
  index_capacity = omega (arith, ap length g.indices, have.index_capacity, g.capacity.indices);
  numerator_capacity = omega (arith, ap length g.numerators, have.numerator_capacity, g.capacity.numerators);
}

-- the greatest denominator with a row more
greatest-with_row : (row : Row) (table : Table) → greatest_of (with_row row table) ≡ max (greatest_of table) row.den
greatest-with_row row table =
    ap (fold max 1) (map-append (λ (r : Row). r.den) table.rows (row ∷ [])) ∙ fold_push max 1 (map (λ (r : Row). r.den) table.rows) row.den

-- a table stays one with a row more
IsTable-with_row : (row : Row) (table : Table) → IsTable table → IsRow table.controls row → length table.rows < 2 ^ 27 → entries_of table.rows + length row.shares ≤ 2 ^ 27 → IsTable (with_row row table)
IsTable-with_row row table is good few short = record {
  rows = All-push (IsRow table.controls) table.rows row is.rows good;
  controls_few = is.controls_few;
  rows_few = omega (arith, few, length-append table.rows (row ∷ []));
  entries_few = omega (arith, short, sum_by_push (λ (r : Row). length r.shares) table.rows row);
}

abbrev made_table : ℕ → List Row → Table
made_table controls rows = record { controls = controls; rows = rows }

module _ (old new : Arrays) (row : Row) (pushed : IsPushed old new row) (is : AreTied old) where
  -- the shares are those before and those of the row
  shares-pushed : shares_in new ≡ shares_in old ++ row.shares
  shares-pushed =
      rw (pushed.indices, pushed.numerators)
      (zip-append old.indices.items (map (λ (share : Share). share.0) row.shares) old.numerators.items (map (λ (share : Share). share.1) row.shares) is.numerators
      ∙ ap (λ ps. shares_in old ++ ps) (zip-maps row.shares))

  -- the row ends where the shares do
  end-pushed : length old.indices.items + length row.shares ≡ length (shares_in old) + length row.shares
  end-pushed = omega (arith, length-shares old is)

  -- arrays with a row more are those of the table with a row more
  pub table-pushed : table_of new ≡ with_row row (table_of old)
  table-pushed =
      rw (pushed.controls, pushed.ends, pushed.denominators, shares-pushed, end-pushed)
      (ap (made_table old.controls) (rows_from-push 0 old.ends.items old.denominators.items row.den (shares_in old) row.shares (ascend-shares old is) is.denominators))

  -- arrays with a new row belong together
  pub AreTied-pushed : IsRow (table_of old).controls row → length (table_of old).rows < 2 ^ 27 → entries_of (table_of old).rows + length row.shares ≤ 2 ^ 27 → AreTied new
  AreTied-pushed good few short = record {
    table = rw table-pushed (IsTable-with_row row (table_of old) is.table good few short);
    ascend = rw (pushed.ends, pushed.indices, length-append old.indices.items (map (λ (share : Share). share.0) row.shares), length-map row.shares (λ (share : Share). share.0)) (Ascend-push 0 old.ends.items (length old.indices.items) (length row.shares) is.ascend);
    numerators = rw (pushed.indices, pushed.numerators) (omega (arith, is.numerators, length-append old.indices.items (map (λ (share : Share). share.0) row.shares), length-append old.numerators.items (map (λ (share : Share). share.1) row.shares), length-map row.shares (λ (share : Share). share.0), length-map row.shares (λ (share : Share). share.1)));
    denominators = rw (pushed.ends, pushed.denominators) (omega (arith, is.denominators, length-append old.denominators.items (row.den ∷ []), length-append old.ends.items ((length old.indices.items + length row.shares) ∷ [])));
    greatest = pushed.greatest ∙ ap (λ g. max g row.den) is.greatest ∙ sym (ap greatest_of table-pushed ∙ greatest-with_row row (table_of old));
  }

  -- after a row, the arrays have memory for one row less, and its entries less
  pub HaveCapacity-pushed : (rows entries : ℕ) → HaveCapacity old rows entries → HaveSpace old (length row.shares) → AreTied new → HaveCapacity new (rows - 1) (entries - length row.shares)
  HaveCapacity-pushed rows entries have space tied = record {
    tied = tied;
    end_capacity = omega (arith, ap length pushed.ends, have.end_capacity, space.ends, pushed.capacity.ends, length-append old.ends.items ((length old.indices.items + length row.shares) ∷ []));
    denominator_capacity = omega (arith, ap length pushed.denominators, have.denominator_capacity, space.denominators, pushed.capacity.denominators, length-append old.denominators.items (row.den ∷ []));
    index_capacity = omega (arith, ap length pushed.indices, have.index_capacity, space.indices, pushed.capacity.indices, length-append old.indices.items (map (λ (share : Share). share.0) row.shares), length-map row.shares (λ (share : Share). share.0));
    numerator_capacity = omega (arith, ap length pushed.numerators, have.numerator_capacity, space.numerators, pushed.capacity.numerators, length-append old.numerators.items (map (λ (share : Share). share.1) row.shares), length-map row.shares (λ (share : Share). share.1));
  }

-- memory was reserved, and then a row was added
module _ (old grown : Arrays) (g : IsGrown old grown) (table : Table) (same : table_of old ≡ table) (rows entries : ℕ) (have : HaveCapacity old rows entries) (n : ℕ) (few : length table.rows < 2 ^ 27) (short : entries_of table.rows + n ≤ 2 ^ 27) where
  grown-same : table_of grown ≡ table
  grown-same = table-grown old grown g ∙ same

  -- the end of the row is a number of 32 bits
  pub end-short : length grown.indices.items + n < 2 ^ 32
  end-short = omega (arith, short, entries_are grown (AreTied-grown old grown g have.tied), ap (λ (t : Table). entries_of t.rows) grown-same)

  -- the table has the row at its end
  pub table-added : (new : Arrays) (row : Row) → IsPushed grown new row → table_of new ≡ with_row row table
  table-added new row pushed =
      table-pushed grown new row pushed (AreTied-grown old grown g have.tied) ∙ ap (with_row row) grown-same

  -- the arrays belong together, and have memory for one row less and its entries less
  pub capacity-left : (new : Arrays) (row : Row) → IsPushed grown new row → n ≡ length row.shares → IsRow table.controls row → HaveSpace grown n → HaveCapacity new (rows - 1) (entries - n)
  capacity-left new row pushed e good space =
      let tied = AreTied-grown old grown g have.tied in
      rw e
      (HaveCapacity-pushed grown new row pushed tied rows entries (HaveCapacity-grown old grown rows entries g have) (rw (← e) space)
      (AreTied-pushed grown new row pushed tied
      (rw (ap (λ (t : Table). t.controls) grown-same) good)
      (omega (arith, few, ap (λ (t : Table). length t.rows) grown-same))
      (omega (arith, short, e, ap (λ (t : Table). entries_of t.rows) grown-same))))
