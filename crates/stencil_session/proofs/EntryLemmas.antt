-- The entries of a column of a table.
use Rattle.std.proofs.Common.{◌≡◌, ℕ, zero, suc, ◌+◌, ◌<◌, ◌≤◌, Bool, true, false, ◌||◌, cond, if◌then◌else◌, nat_eq, List, [], ◌∷◌, ◌++◌, length, get_or, arith, refl, ap, sym, ◌∙◌, append_assoc}
use Rattle.std.specs.List.{All, count_by}
use Rattle.std.proofs.Math.Seq.{set-append_seam}
use Rattle.std.proofs.lemmas.Bool.Decides.{nat_tests}
use Rattle.std.proofs.lemmas.List.{length_push}
use Rattle.std.proofs.lemmas.List.Elements.{All-cons}
use Rattle.std.proofs.lemmas.List.Sums.{sum_by-cons}
use Rattle.stencil_apply.specs.Table.{Row, Table, row_at}
use Rattle.stencil_apply.specs.Means.{numerator_of}
use Rattle.stencil_session.specs.Session.{has_control, rows_with, mark_rows}
use Rattle.stencil_session.specs.Columns.{Entry, column_from, column_of, amount_in, marked}
use Rattle.stencil_session.proofs.CellLemmas.{blank}
use Rattle.stencil_session.proofs.ValueLemmas.{numerator-none}

abbrev one_if : Bool → ℕ
one_if test = cond test 1 0

abbrev with_first : Bool → Entry → List Entry → List Entry
with_first test entry entries = if test then entry ∷ entries else entries

-- a column has an entry for each row that has the control
length-from : (i first : ℕ) (rows : List Row) → length (column_from first rows i) ≡ count_by (has_control i) rows
length-from i first [] = refl
length-from i first (row ∷ rows) = go (has_control i row) refl (length-from i (first + 1) rows)
  where
    go : (test : Bool) → has_control i row ≡ test → length (column_from (first + 1) rows i) ≡ count_by (has_control i) rows
        → length (with_first (has_control i row) (first, numerator_of row.shares i) (column_from (first + 1) rows i)) ≡ count_by (has_control i) (row ∷ rows)
    go true is rest =
        let counts : count_by (has_control i) (row ∷ rows) ≡ one_if (has_control i row) + count_by (has_control i) rows = sum_by-cons (λ (r : Row). one_if (has_control i r)) row rows in
        ap (λ b. length (with_first b (first, numerator_of row.shares i) (column_from (first + 1) rows i))) is ∙ omega (arith, rest, counts, ap one_if is)
    go false is rest =
        let counts : count_by (has_control i) (row ∷ rows) ≡ one_if (has_control i row) + count_by (has_control i) rows = sum_by-cons (λ (r : Row). one_if (has_control i r)) row rows in
        ap (λ b. length (with_first b (first, numerator_of row.shares i) (column_from (first + 1) rows i))) is ∙ omega (arith, rest, counts, ap one_if is)

pub length-column : (i : ℕ) (table : Table) → length (column_of table i) ≡ rows_with i table
length-column i table = length-from i 0 table.rows

abbrev amount_at : ℕ → Entry → ℕ
amount_at row entry = if nat_eq entry.0 row then entry.1 else 0

at-own : (entry : Entry) → amount_at entry.0 entry ≡ entry.1
at-own entry = grind (arith, nat_tests)

at-other : (row : ℕ) (entry : Entry) → (entry.0 ≡ row → ⊥) → amount_at row entry ≡ 0
at-other row entry apart = grind (arith, nat_tests)

-- the column has no row before the first
amount-before : (i first : ℕ) (rows : List Row) (n : ℕ) → n < first → amount_in (column_from first rows i) n ≡ 0
amount-before i first [] n h = refl
amount-before i first (row ∷ rows) n h = go (has_control i row) (amount-before i (first + 1) rows n (omega (arith, h)))
  where
    go : (test : Bool) → amount_in (column_from (first + 1) rows i) n ≡ 0 → amount_in (with_first test (first, numerator_of row.shares i) (column_from (first + 1) rows i)) n ≡ 0
    go true rest =
        omega (arith, rest, sum_by-cons (amount_at n) (first, numerator_of row.shares i) (column_from (first + 1) rows i), at-other n (first, numerator_of row.shares i) (λ e. omega (arith, e, h)))
    go false rest = rest

-- a row has in the column its numerator of the control
amount-from : (i first : ℕ) (rows : List Row) (k : ℕ) → k < length rows → amount_in (column_from first rows i) (first + k) ≡ numerator_of (get_or rows k blank).shares i
amount-from i first [] k h = absurd (omega arith)
amount-from i first (row ∷ rows) zero h = ap (amount_in (column_from first (row ∷ rows) i)) (omega arith) ∙ go (has_control i row) refl
  where
    go : (test : Bool) → has_control i row ≡ test → amount_in (with_first (has_control i row) (first, numerator_of row.shares i) (column_from (first + 1) rows i)) first ≡ numerator_of row.shares i
    go true is = rw is
        (omega (arith, amount-before i (first + 1) rows first (omega arith), sum_by-cons (amount_at first) (first, numerator_of row.shares i) (column_from (first + 1) rows i), at-own (first, numerator_of row.shares i)))
    go false is = rw is (omega (arith, amount-before i (first + 1) rows first (omega arith), numerator-none i row.shares is))
amount-from i first (row ∷ rows) (suc k) h =
    ap (amount_in (column_from first (row ∷ rows) i)) (omega arith) ∙ go (has_control i row) (amount-from i (first + 1) rows k (omega (arith, h)))
  where
    go : (test : Bool) → amount_in (column_from (first + 1) rows i) ((first + 1) + k) ≡ numerator_of (get_or rows k blank).shares i
        → amount_in (with_first test (first, numerator_of row.shares i) (column_from (first + 1) rows i)) ((first + 1) + k) ≡ numerator_of (get_or rows k blank).shares i
    go true rest =
        omega (arith, rest, sum_by-cons (amount_at ((first + 1) + k)) (first, numerator_of row.shares i) (column_from (first + 1) rows i), at-other ((first + 1) + k) (first, numerator_of row.shares i) (λ e. omega (arith, e)))
    go false rest = rest

pub amount-column : (i : ℕ) (table : Table) (row : ℕ) → row < length table.rows → amount_in (column_of table i) row ≡ numerator_of (row_at table row).shares i
amount-column i table row h = ap (amount_in (column_of table i)) (omega arith) ∙ amount-from i 0 table.rows row h

-- each entry is of a row of the table, and each row occurs once
record IsOnce (column : List Entry) (first last : ℕ) (entry : Entry) : Type 0 where
  low : first ≤ entry.0
  high : entry.0 < last
  once : amount_in column entry.0 ≡ entry.1

once-from : (i first : ℕ) (rows : List Row) → All (IsOnce (column_from first rows i) first (first + length rows)) (column_from first rows i)
once-from i first [] = λ k d h. absurd (omega (arith, h))
once-from i first (row ∷ rows) = go (has_control i row) (once-from i (first + 1) rows)
  where
    go : (test : Bool) → All (IsOnce (column_from (first + 1) rows i) (first + 1) ((first + 1) + length rows)) (column_from (first + 1) rows i)
        → All (IsOnce (with_first test (first, numerator_of row.shares i) (column_from (first + 1) rows i)) first (first + length (row ∷ rows))) (with_first test (first, numerator_of row.shares i) (column_from (first + 1) rows i))
    go true rest =
        let head : Entry = (first, numerator_of row.shares i) in
        let others = column_from (first + 1) rows i in
        All-cons (IsOnce (head ∷ others) first (first + length (row ∷ rows))) head others
        (record {
          low = omega arith;
          high = omega arith;
          once = omega (arith, amount-before i (first + 1) rows first (omega arith), sum_by-cons (amount_at first) head others, at-own head);
        })
        (λ k d h.
        let here = rest k d h in
        record {
          low = omega (arith, here.low);
          high = omega (arith, here.high);
          once = omega (arith, here.once, sum_by-cons (amount_at (get_or others k d).0) head others, at-other (get_or others k d).0 head (λ e. omega (arith, e, here.low)));
        })
    go false rest = λ k d h.
        let here = rest k d h in
        record {
          low = omega (arith, here.low);
          high = omega (arith, here.high);
          once = here.once;
        }

module _ (i : ℕ) (table : Table) where
  pub column-rows-inside : All (λ entry. entry.0 < length table.rows) (column_of table i)
  column-rows-inside k d h = let here = once-from i 0 table.rows k d h in omega (arith, here.high)

  pub column-once : All (λ entry. amount_in (column_of table i) entry.0 ≡ entry.1) (column_of table i)
  column-once k d h = (once-from i 0 table.rows k d h).once

-- the marks of its rows are those of the rows that have the control
marks-from : (i : ℕ) (before : List Bool) (rows : List Row) (marks : List Bool) → length marks ≡ length rows → marked (before ++ marks) (column_from (length before) rows i) ≡ before ++ mark_rows i rows marks
marks-from i before [] [] e = refl
marks-from i before [] (mark ∷ marks) e = absurd (omega (arith, e))
marks-from i before (row ∷ rows) [] e = absurd (omega (arith, e))
marks-from i before (row ∷ rows) (mark ∷ marks) e = go (has_control i row) refl (λ now. marks-from i (before ++ now ∷ []) rows marks (omega (arith, e)))
  where
    rest : (now : Bool) → marked ((before ++ now ∷ []) ++ marks) (column_from (length (before ++ now ∷ [])) rows i) ≡ (before ++ now ∷ []) ++ mark_rows i rows marks
        → marked (before ++ now ∷ marks) (column_from (length before + 1) rows i) ≡ before ++ now ∷ mark_rows i rows marks
    rest now done =
        ap (λ n. marked (before ++ now ∷ marks) (column_from n rows i)) (sym (length_push before now))
        ∙ ap (λ xs. marked xs (column_from (length (before ++ now ∷ [])) rows i)) (sym (append_assoc before (now ∷ []) marks))
        ∙ done
        ∙ append_assoc before (now ∷ []) (mark_rows i rows marks)

    go : (test : Bool) → has_control i row ≡ test
        → ((now : Bool) → marked ((before ++ now ∷ []) ++ marks) (column_from (length (before ++ now ∷ [])) rows i) ≡ (before ++ now ∷ []) ++ mark_rows i rows marks)
        → marked (before ++ mark ∷ marks) (column_from (length before) (row ∷ rows) i) ≡ before ++ (has_control i row || mark) ∷ mark_rows i rows marks
    go true is done =
        ap (λ b. marked (before ++ mark ∷ marks) (with_first b (length before, numerator_of row.shares i) (column_from (length before + 1) rows i))) is
        ∙ ap (λ xs. marked xs (column_from (length before + 1) rows i)) (set-append_seam before mark marks true)
        ∙ rest true (done true)
        ∙ ap (λ b. before ++ (b || mark) ∷ mark_rows i rows marks) (sym is)
    go false is done =
        ap (λ b. marked (before ++ mark ∷ marks) (with_first b (length before, numerator_of row.shares i) (column_from (length before + 1) rows i))) is
        ∙ rest mark (done mark)
        ∙ ap (λ b. before ++ (b || mark) ∷ mark_rows i rows marks) (sym is)

pub marks-column : (i : ℕ) (table : Table) (marks : List Bool) → length marks ≡ length table.rows → marked marks (column_of table i) ≡ mark_rows i table.rows marks
marks-column i table marks e = marks-from i [] table.rows marks e
