-- The columns of a table from its entries.
use Rattle.std.proofs.Common.{◌≡◌, ℕ, zero, suc, ◌+◌, ◌-◌, ◌^◌, ◌<◌, ◌≤◌, Bool, true, false, cond, if◌then◌else◌, nat_eq, nat_lt, List, [], ◌∷◌, ◌++◌, length, map, get_or, take, drop, slice_range, sum, arith, refl, ap, sym, ◌∙◌, add-one}
use Rattle.std.specs.List.{All, AllPairs, filter, count_by, list_any, zip, range_with_len}
use Rattle.std.proofs.lemmas.Bool.{eqb-true}
use Rattle.std.proofs.lemmas.Bool.Decides.{nat_tests}
use Rattle.std.proofs.lemmas.List.{map-append, length-append, take_all, take-map, drop-map}
use Rattle.std.proofs.lemmas.List.Elements.{filter-append}
use Rattle.std.proofs.lemmas.List.Kept.{AllPairs-from_increasing}
use Rattle.std.proofs.lemmas.List.Sums.{sum_by-append, sum_by-cons, sum_by_more}
use Rattle.std.proofs.lemmas.Slice.Zip.{firsts-zip, seconds-zip}
use Rattle.stencil_apply.specs.Table.{Share, Row, Table, IsRow, IsTable, entries_of}
use Rattle.stencil_apply.specs.Means.{numerator_of}
use Rattle.stencil_apply.specs.Arrays.{Ascend}
use Rattle.stencil_apply.proofs.ArrayLemmas.{cons_both}
use Rattle.stencil_apply.proofs.MeanLemmas.{all-first, all-rest}
use Rattle.stencil_session.specs.Session.{has_control}
use Rattle.stencil_session.specs.Columns.{Cell, Entry, cells_of, cells_from, column_from, column_of, columns_of, columns_in, parts_from, is_of, start_of, AreCounts, ArePut, ArePacked}
use Rattle.stencil_session.specs.declared.parts.Parts.{Parts}
use Rattle.stencil_session.proofs.CellLemmas.{length-cells_of, length-cells, cells-few}
use Rattle.stencil_session.proofs.PutLemmas.{start-next, start-most}

start-none : (cells : List Cell) → start_of cells 0 ≡ 0
start-none [] = refl
start-none (cell ∷ cells) = omega (arith, start-none cells, sum_by-cons (λ (c : Cell). cond (nat_lt c.0 0) 1 0) cell cells, none cell.0)
  where
    none : (a : ℕ) → ◌≡◌ {A = ℕ} (cond (nat_lt a 0) 1 0) 0
    none a = grind (arith, nat_tests)

-- a column begins behind as many entries as those of lesser controls are
pub sum-starts : (controls : ℕ) (cells : List Cell) (counts : List ℕ) → AreCounts controls cells counts → (i : ℕ) → i ≤ controls → sum (take i counts) ≡ start_of cells i
sum-starts controls cells counts are zero h = sym (start-none cells)
sum-starts controls cells counts are (suc i) h =
    ap (λ n. sum (take n counts)) (sym (add-one i))
    ∙ omega (arith, sum_by_more (λ (x : ℕ). x) counts i 0 (omega (arith, h, are.long)), sum-starts controls cells counts are i (omega (arith, h)), are.each i (omega (arith, h)), start-next cells i)
    ∙ ap (start_of cells) (add-one i)

pub sum-few : (controls : ℕ) (cells : List Cell) (counts : List ℕ) → AreCounts controls cells counts → sum counts ≤ length cells
sum-few controls cells counts are =
    omega (arith, sum-starts controls cells counts are controls (omega arith), ap sum (take_all controls counts (omega (arith, are.long))), start-most cells controls)

-- before any entry is put
pub ArePut-none : (controls : ℕ) (all : List Cell) (parts : Parts) → length parts.ends.items ≡ controls → length parts.rows.items ≡ length all → length parts.numerators.items ≡ length all
    → ((i : ℕ) → i < controls → get_or parts.ends.items i 0 ≡ start_of all i) → ArePut controls all [] parts
ArePut-none controls all parts columns long numerators begins = record {
  columns = columns;
  long = long;
  numerators = numerators;
  next = λ i h. omega (arith, begins i h);
  row_parts = λ i h. none (start_of all i) parts.rows.items;
  numerator_parts = λ i h. none (start_of all i) parts.numerators.items;
}
  where
    none : (a : ℕ) (xs : List ℕ) → slice_range xs a (a + 0) ≡ []
    none a xs =
        let nothing : (a + 0) - a ≡ 0 = omega arith in
        ap (λ n. take n (drop a xs)) nothing

-- zeros, with where each column begins
module _ (table : Table) (is : IsTable table) (counts : List ℕ) (are : AreCounts table.controls (cells_from 0 table.rows) counts) where
  pub begin-few : sum counts ≤ 2 ^ 27
  begin-few = omega (arith, sum-few table.controls (cells_from 0 table.rows) counts are, cells-few table is)

  pub begun : (parts : Parts) → length parts.ends.items ≡ length counts → length parts.rows.items ≡ entries_of table.rows → length parts.numerators.items ≡ entries_of table.rows
      → ((i : ℕ) → i < length counts → get_or parts.ends.items i 0 ≡ sum (take i counts)) → ArePut table.controls (cells_from 0 table.rows) [] parts
  begun parts columns long numerators begins =
      ArePut-none table.controls (cells_from 0 table.rows) parts (columns ∙ are.long) (long ∙ sym (length-cells 0 table.rows)) (numerators ∙ sym (length-cells 0 table.rows))
      (λ i h. begins i (omega (arith, h, are.long)) ∙ sum-starts table.controls (cells_from 0 table.rows) counts are i (omega (arith, h)))

-- the parts of two lists are those of their pairs
zip-take : {A B : Type 0} (n : ℕ) (xs : List A) (ys : List B) → take n (zip xs ys) ≡ zip (take n xs) (take n ys)
zip-take zero xs ys = refl
zip-take (suc n) [] ys = refl
zip-take (suc n) (x ∷ xs) [] = refl
zip-take (suc n) (x ∷ xs) (y ∷ ys) = ap (λ ps. (x, y) ∷ ps) (zip-take n xs ys)

zip-none : {A B : Type 0} (xs : List A) → zip {X = B} xs [] ≡ []
zip-none [] = refl
zip-none (x ∷ xs) = refl

zip-drop : {A B : Type 0} (n : ℕ) (xs : List A) (ys : List B) → drop n (zip xs ys) ≡ zip (drop n xs) (drop n ys)
zip-drop zero xs ys = refl
zip-drop (suc n) [] ys = refl
zip-drop (suc n) (x ∷ xs) [] = sym (zip-none (drop n xs))
zip-drop (suc n) (x ∷ xs) (y ∷ ys) = zip-drop n xs ys

pub zip-range : {A B : Type 0} (xs : List A) (ys : List B) (a b : ℕ) → slice_range (zip xs ys) a b ≡ zip (slice_range xs a b) (slice_range ys a b)
zip-range xs ys a b = ap (take (b - a)) (zip-drop a xs ys) ∙ zip-take (b - a) (drop a xs) (drop a ys)

zip-cells : (cells : List Cell) → zip (map (λ (c : Cell). c.1) cells) (map (λ (c : Cell). c.2) cells) ≡ map (λ (c : Cell). (c.1, c.2)) cells
zip-cells [] = refl
zip-cells (cell ∷ cells) = ap (λ es. (cell.1, cell.2) ∷ es) (zip-cells cells)

-- a row has a control at most once
pub none-later : (v : ℕ) (shares : List Share) → ((j : ℕ) → j < length (map (λ share. share.0) shares) → v < get_or (map (λ share. share.0) shares) j 0) → list_any (λ share. nat_eq share.0 v) shares ≡ false
none-later v [] later = refl
none-later v (share ∷ shares) later =
    let first : v < share.0 = later 0 (omega arith) in
    let rest = none-later v shares (λ j h. later (suc j) (omega (arith, h))) in
    grind (arith, nat_tests)

once : (i n : ℕ) (shares : List Share) → AllPairs (λ x y. x < y) (map (λ share. share.0) shares)
    → filter (is_of i) (map (λ share. (share.0, n, share.1)) shares) ≡ (if list_any (λ share. nat_eq share.0 i) shares then (i, n, numerator_of shares i) ∷ [] else [])
once i n [] apart = refl
once i n (share ∷ shares) apart =
    go (nat_eq share.0 i) refl (once i n shares (λ j k d h inside. apart (suc j) (suc k) d (omega (arith, h)) (omega (arith, inside))))
  where
    later : (j : ℕ) → j < length (map (λ share. share.0) shares) → share.0 < get_or (map (λ share. share.0) shares) j 0
    later j h = apart 0 (suc j) 0 (omega arith) (omega (arith, h))

    go : (test : Bool) → nat_eq share.0 i ≡ test
        → filter (is_of i) (map (λ share. (share.0, n, share.1)) shares) ≡ (if list_any (λ share. nat_eq share.0 i) shares then (i, n, numerator_of shares i) ∷ [] else [])
        → filter (is_of i) (map (λ share. (share.0, n, share.1)) (share ∷ shares)) ≡ (if list_any (λ share. nat_eq share.0 i) (share ∷ shares) then (i, n, numerator_of (share ∷ shares) i) ∷ [] else [])
    go true is rest =
        let same : share.0 ≡ i = eqb-true share.0 i is in
        let none : list_any (λ share. nat_eq share.0 i) shares ≡ false = rw (← same) (none-later share.0 shares later) in
        let others : filter (is_of i) (map (λ share. (share.0, n, share.1)) shares) ≡ [] =
        rest ∙ ap (λ b. if b then (i, n, numerator_of shares i) ∷ [] else []) none in
        rw (is, others, same) refl
    go false is rest = rw is rest

-- the column of a control, row by row
pub column-cells : (controls i first : ℕ) (rows : List Row) → ((k : ℕ) (d : Row) → k < length rows → IsRow controls (get_or rows k d))
    → map (λ (c : Cell). (c.1, c.2)) (filter (is_of i) (cells_from first rows)) ≡ column_from first rows i
column-cells controls i first [] are = refl
column-cells controls i first (row ∷ rows) are =
    ap (map (λ (c : Cell). (c.1, c.2))) (filter-append (is_of i) (cells_of first row) (cells_from (first + 1) rows))
    ∙ map-append (λ (c : Cell). (c.1, c.2)) (filter (is_of i) (cells_of first row)) (filter (is_of i) (cells_from (first + 1) rows))
    ∙ ap (λ es. map (λ (c : Cell). (c.1, c.2)) (filter (is_of i) (cells_of first row)) ++ es) (column-cells controls i (first + 1) rows (all-rest (IsRow controls) row rows are))
    ∙ ap (λ cells. map (λ (c : Cell). (c.1, c.2)) cells ++ column_from (first + 1) rows i)
    (once i first row.shares (AllPairs-from_increasing (map (λ share. share.0) row.shares) (all-first (IsRow controls) row rows are).ascending))
    ∙ go (has_control i row) refl
  where
    go : (test : Bool) → has_control i row ≡ test
        → map (λ (c : Cell). (c.1, c.2)) (if has_control i row then (i, first, numerator_of row.shares i) ∷ [] else []) ++ column_from (first + 1) rows i ≡ column_from first (row ∷ rows) i
    go true is = rw is refl
    go false is = rw is refl

-- parts that end where the next begins
ends-ascend : (starts : ℕ → ℕ) (first : ℕ) (ends : List ℕ) → ((i : ℕ) → starts i ≤ starts (i + 1)) → ((k : ℕ) → k < length ends → get_or ends k 0 ≡ starts ((first + k) + 1))
    → (last : ℕ) → starts (first + length ends) ≡ last → Ascend (starts first) ends last
ends-ascend starts first [] up are last e = ap starts (omega arith) ∙ e
ends-ascend starts first (end ∷ ends) up are last e =
    let next : end ≡ starts (first + 1) = are 0 (omega arith) ∙ ap starts (omega arith) in
    let behind : Ascend (starts (first + 1)) ends last =
    ends-ascend starts (first + 1) ends up (λ k h. are (suc k) (omega (arith, h)) ∙ ap starts (omega arith)) last (ap starts (omega arith) ∙ e) in
    (omega (arith, next, up first), rw next behind)

parts-are : (starts : ℕ → ℕ) (first : ℕ) (ends : List ℕ) (entries : List Entry) → ((k : ℕ) → k < length ends → get_or ends k 0 ≡ starts ((first + k) + 1))
    → parts_from (starts first) ends entries ≡ map (λ i. slice_range entries (starts i) (starts (i + 1))) (range_with_len first (length ends))
parts-are starts first [] entries are = refl
parts-are starts first (end ∷ ends) entries are =
    let next : end ≡ starts (first + 1) = are 0 (omega arith) ∙ ap starts (omega arith) in
    cons_both (ap (slice_range entries (starts first)) next)
    (ap (λ from. parts_from from ends entries) next ∙ parts-are starts (first + 1) ends entries (λ k h. are (suc k) (omega (arith, h)) ∙ ap starts (omega arith)))

range-same : {X : Type 0} (f g : ℕ → X) (first n : ℕ) → ((i : ℕ) → i < first + n → f i ≡ g i) → map f (range_with_len first n) ≡ map g (range_with_len first n)
range-same f g first zero same = refl
range-same f g first (suc n) same = cons_both (same first (omega arith)) (range-same f g (first + 1) n (λ i h. same i (omega (arith, h))))

-- all entries are of lesser controls than there are
start-row : (controls n : ℕ) (shares : List Share) → All (λ share. share.0 < controls) shares → start_of (map (λ share. (share.0, n, share.1)) shares) controls ≡ length shares
start-row controls n [] inside = refl
start-row controls n (share ∷ shares) inside =
    let here : share.0 < controls = all-first (λ (s : Share). s.0 < controls) share shares inside in
    let one : ◌≡◌ {A = ℕ} (cond (nat_lt share.0 controls) 1 0) 1 = grind (arith, nat_tests) in
    omega (arith, one, start-row controls n shares (all-rest (λ (s : Share). s.0 < controls) share shares inside), sum_by-cons (λ (c : Cell). cond (nat_lt c.0 controls) 1 0) (share.0, n, share.1) (map (λ share. (share.0, n, share.1)) shares))

start-whole : (controls first : ℕ) (rows : List Row) → All (IsRow controls) rows → start_of (cells_from first rows) controls ≡ length (cells_from first rows)
start-whole controls first [] are = refl
start-whole controls first (row ∷ rows) are =
    omega (
      arith,
      sum_by-append (λ (c : Cell). cond (nat_lt c.0 controls) 1 0) (cells_of first row) (cells_from (first + 1) rows),
      start-row controls first row.shares (all-first (IsRow controls) row rows are).inside,
      start-whole controls (first + 1) rows (all-rest (IsRow controls) row rows are),
      length-append (cells_of first row) (cells_from (first + 1) rows),
      length-cells_of first row,
    )

-- all entries of a table are put
module _ (table : Table) (is : IsTable table) (parts : Parts) (put : ArePut table.controls (cells_from 0 table.rows) (cells_from 0 table.rows) parts) where
  abbrev all : List Cell
  all = cells_from 0 table.rows

  ends-are : (k : ℕ) → k < length parts.ends.items → get_or parts.ends.items k 0 ≡ start_of all ((0 + k) + 1)
  ends-are k h = put.next k (omega (arith, h, put.columns)) ∙ sym (start-next all k) ∙ ap (start_of all) (omega arith)

  starts-up : (i : ℕ) → start_of all i ≤ start_of all (i + 1)
  starts-up i = omega (arith, start-next all i)

  pub are-packed : ArePacked parts
  are-packed =
      let none = start-none all in
      let whole : start_of all (0 + length parts.ends.items) ≡ length parts.rows.items =
      ap (λ n. start_of all n) (omega arith ∙ put.columns) ∙ start-whole table.controls 0 table.rows is.rows ∙ sym put.long in
      record {
        ascend = rw (← none) (ends-ascend (start_of all) 0 parts.ends.items starts-up ends-are (length parts.rows.items) whole);
        numerators = put.numerators ∙ sym put.long;
      }

  column-is : (i : ℕ) → i < table.controls → slice_range (zip parts.rows.items parts.numerators.items) (start_of all i) (start_of all (i + 1)) ≡ column_of table i
  column-is i h =
      ap (slice_range (zip parts.rows.items parts.numerators.items) (start_of all i)) (start-next all i)
      ∙ zip-range parts.rows.items parts.numerators.items (start_of all i) (start_of all i + count_by (is_of i) all)
      ∙ ap (λ xs. zip xs (slice_range parts.numerators.items (start_of all i) (start_of all i + count_by (is_of i) all))) (put.row_parts i h)
      ∙ ap (zip (map (λ (c : Cell). c.1) (filter (is_of i) all))) (put.numerator_parts i h)
      ∙ zip-cells (filter (is_of i) all)
      ∙ column-cells table.controls i 0 table.rows is.rows

  pub columns-are : columns_in parts ≡ columns_of table
  columns-are =
      ap (λ from. parts_from from parts.ends.items (zip parts.rows.items parts.numerators.items)) (sym (start-none all))
      ∙ parts-are (start_of all) 0 parts.ends.items (zip parts.rows.items parts.numerators.items) ends-are
      ∙ ap (λ n. map (λ i. slice_range (zip parts.rows.items parts.numerators.items) (start_of all i) (start_of all (i + 1))) (range_with_len 0 n)) put.columns
      ∙ range-same (λ i. slice_range (zip parts.rows.items parts.numerators.items) (start_of all i) (start_of all (i + 1))) (column_of table) 0 table.controls (λ i h. column-is i (omega (arith, h)))

-- the columns of parts
pub length-parts_from : (from : ℕ) (ends : List ℕ) (entries : List Entry) → length (parts_from from ends entries) ≡ length ends
length-parts_from from [] entries = refl
length-parts_from from (end ∷ ends) entries = omega (arith, length-parts_from end ends entries)

parts_from-at : (from : ℕ) (ends : List ℕ) (entries : List Entry) (i : ℕ) → i < length ends → get_or (parts_from from ends entries) i [] ≡ slice_range entries (get_or (from ∷ ends) i 0) (get_or ends i 0)
parts_from-at from [] entries i h = absurd (omega arith)
parts_from-at from (end ∷ ends) entries zero h = refl
parts_from-at from (end ∷ ends) entries (suc i) h = parts_from-at end ends entries i (omega arith)

range-map : {X Y : Type 0} (f : X → Y) (xs : List X) (a b : ℕ) → map f (slice_range xs a b) ≡ slice_range (map f xs) a b
range-map f xs a b = sym (take-map f (b - a) (drop a xs)) ∙ ap (take (b - a)) (sym (drop-map f a xs))

module _ (parts : Parts) (are : ArePacked parts) (columns : List (List Entry)) (view : columns_in parts ≡ columns) (control : ℕ) (inside : control < length columns) where
  abbrev from : ℕ
  from = get_or (0 ∷ parts.ends.items) control 0

  abbrev to : ℕ
  to = get_or parts.ends.items control 0

  pub column-inside : control < length parts.ends.items
  column-inside = omega (arith, inside, ap length view, length-parts_from 0 parts.ends.items (zip parts.rows.items parts.numerators.items))

  column-at : get_or columns control [] ≡ slice_range (zip parts.rows.items parts.numerators.items) from to
  column-at = ap (λ cs. get_or cs control []) (sym view) ∙ parts_from-at 0 parts.ends.items (zip parts.rows.items parts.numerators.items) control column-inside

  pub column-rows : slice_range parts.rows.items from to ≡ map (λ (e : Entry). e.0) (get_or columns control [])
  column-rows =
      sym (ap (map (λ (e : Entry). e.0)) column-at
      ∙ range-map (λ (e : Entry). e.0) (zip parts.rows.items parts.numerators.items) from to
      ∙ ap (λ xs. slice_range xs from to) (firsts-zip parts.rows.items parts.numerators.items are.numerators))

  pub column-numerators : slice_range parts.numerators.items from to ≡ map (λ (e : Entry). e.1) (get_or columns control [])
  column-numerators =
      sym (ap (map (λ (e : Entry). e.1)) column-at
      ∙ range-map (λ (e : Entry). e.1) (zip parts.rows.items parts.numerators.items) from to
      ∙ ap (λ xs. slice_range xs from to) (seconds-zip parts.rows.items parts.numerators.items are.numerators))
