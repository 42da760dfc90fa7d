-- The text of a stored table is read as the table.
use Rattle.std.proofs.Common.{◌≡◌, ℕ, suc, ◌+◌, ◌^◌, true, not, List, [], ◌∷◌, ◌++◌, length, arith, refl, ap, sym, ◌∙◌, append_assoc, append-nil, le-leb, None, Option, Result, Ok}
use Rattle.std.specs.Prelude.{codes}
use Rattle.std.specs.List.{AllByRecursion, flat_map}
use Rattle.std.proofs.lemmas.Bool.{and_from, cond-true, cond-false}
use Rattle.std.proofs.lemmas.List.Elements.{recursion_from_All}
use Rattle.std.proofs.lemmas.List.Sums.{sum_by-cons, sum_by-append}
use Rattle.subdiv_model.specs.Digits.{number_of_digits}
use Rattle.subdiv_model.specs.NumberText.{number_text}
use Rattle.subdiv_model.specs.ReadTable.{Header, Reading, is_header_form, header_of, is_header_in_range, is_miscounted, header_cause, row_of_words, row_words_cause, first_words, behind_line, reading_unless, next_row_cause, read_rows, first_line_cause, read_table}
use Rattle.subdiv_model.specs.Table.{Row, Table, IsRow, entries_of}
use Rattle.subdiv_model.specs.TableFault.{TableCause, TableFault}
use Rattle.subdiv_model.specs.TableText.{row_text, table_line, text_of_table}
use Rattle.table_laws.specs.StoredTable.{IsStored}
use Rattle.table_laws.proofs.LineLemmas.{are_words, IsFirstLine, line-read}
use Rattle.table_laws.proofs.NumberWordLemmas.{number-word, number-says}
use Rattle.table_laws.proofs.RowLemmas.{row_words, number-plain, row-plain, row-back, row-good, well-counted}

-- after a line without fault the reading goes on
pub unless-none : (line : ℕ) (cause : Option TableCause) (reading : Result Reading TableFault) → cause ≡ None → reading_unless line cause reading ≡ reading
unless-none line cause reading good = ap (λ c. reading_unless line c reading) good

-- the row of the next line
row-line : (row : Row) (bytes : List ℕ) → IsFirstLine (row_text row ++ bytes) (codes "s" ∷ row_words row) bytes
row-line row bytes = line-read (codes "s") (row_words row) bytes refl (row-plain row)

entries-more : (done : List Row) (row : Row) (rows : List Row) → entries_of (done ++ row ∷ rows) ≡ entries_of done + length row.shares + entries_of rows
entries-more done row rows =
    let both = sum_by-append (λ (r : Row). length r.shares) done (row ∷ rows) in
    let more = sum_by-cons (λ (r : Row). length r.shares) row rows in
    omega (arith, both, more)

next-good : (header : Header) (done : List Row) (row : Row) (rows : List Row) (bytes : List ℕ) → IsRow header.controls row
    → entries_of (done ++ row ∷ rows) ≡ header.entries → next_row_cause header (length rows) done (row_text row ++ bytes) ≡ None
next-good header done row rows bytes is all =
    let line = row-line row bytes in
    let sum = entries-more done row rows in
    cond-true _ _ _ line.closed
    ∙ ap (row_words_cause header (length rows) (entries_of done)) line.words_read
    ∙ row-good header (length rows) (entries_of done) row is
    (well-counted header (length rows) (entries_of done + length row.shares) (omega (arith, sum, all))
    (λ none. omega (arith, sum, all, no-entries rows none)))
  where
    no-entries : (some : List Row) → length some ≡ 0 → entries_of some ≡ 0
    no-entries [] e = refl
    no-entries (r ∷ some) e = absurd (omega arith)

-- the rows of a text, behind others
rows-read : (header : Header) (done rows : List Row) (rest : List ℕ) → AllByRecursion (IsRow header.controls) rows → entries_of (done ++ rows) ≡ header.entries
    → read_rows header (length rows) done (flat_map row_text rows ++ rest) ≡ Ok (record { table = record { controls = header.controls; rows = done ++ rows }; rest = rest })
rows-read header done [] rest are all =
    ap (λ (rows : List Row). Ok (record { table = record { controls = header.controls; rows = rows }; rest = rest })) (sym (append-nil done))
rows-read header done (row ∷ rows) rest are all =
    let behind : List ℕ = flat_map row_text rows ++ rest in
    let line = row-line row behind in
    let text : flat_map row_text (row ∷ rows) ++ rest ≡ row_text row ++ behind = append_assoc (row_text row) (flat_map row_text rows) rest in
    let next : List Row = done ++ row ∷ [] in
    let shift : next ++ rows ≡ done ++ row ∷ rows = append_assoc done (row ∷ []) rows in
    ap (read_rows header (suc (length rows)) done) text
    ∙ unless-none (length done + 2) (next_row_cause header (length rows) done (row_text row ++ behind)) _ (next-good header done row rows behind are.0 all)
    ∙ ap (λ r. read_rows header (length rows) (done ++ r ∷ []) (behind_line (row_text row ++ behind))) (ap row_of_words line.words_read ∙ row-back row)
    ∙ ap (read_rows header (length rows) next) line.behind
    ∙ rows-read header next rows rest are.1 (ap entries_of shift ∙ all)
    ∙ ap (λ (all_rows : List Row). Ok (record { table = record { controls = header.controls; rows = all_rows }; rest = rest })) shift

-- the words of the first line
abbrev pub header_words : Header → List (List ℕ)
header_words header =
    codes "controls" ∷ number_text header.controls ∷ codes "rows" ∷ number_text header.rows ∷ codes "entries" ∷ number_text header.entries ∷ []

header-plain : (header : Header) → are_words (header_words header) ≡ true
header-plain header = rw (number-plain header.controls, number-plain header.rows, number-plain header.entries) refl

header-form : (header : Header) → is_header_form (codes "table" ∷ header_words header) ≡ true
header-form header = rw (number-word header.controls, number-word header.rows, number-word header.entries) refl

header-back : (header : Header) → header_of (codes "table" ∷ header_words header) ≡ header
header-back header =
    ap (λ (n : ℕ). record { controls = n; rows = number_of_digits (number_text header.rows); entries = number_of_digits (number_text header.entries) }) (number-says header.controls)
    ∙ ap (λ (n : ℕ). record { controls = header.controls; rows = n; entries = number_of_digits (number_text header.entries) }) (number-says header.rows)
    ∙ ap (λ (n : ℕ). record { controls = header.controls; rows = header.rows; entries = n }) (number-says header.entries)

abbrev header_for : Table → Header
header_for table = record { controls = table.controls; rows = length table.rows; entries = entries_of table.rows }

header-good : (table : Table) → IsStored table → header_cause (codes "table" ∷ header_words (header_for table)) ≡ None
header-good table is =
    let header = header_for table in
    let words = codes "table" ∷ header_words header in
    let range : is_header_in_range header ≡ true =
    and_from _ _ (and_from _ _ (le-leb table.controls (2 ^ 20) is.controls_few) (le-leb (length table.rows) (2 ^ 27) is.is_table.rows_few))
    (le-leb (entries_of table.rows) (2 ^ 27) is.is_table.entries_few) in
    cond-false _ _ _ (ap not (header-form header))
    ∙ cond-false _ _ _ (ap (λ h. not (is_header_in_range h)) (header-back header) ∙ ap not range)
    ∙ cond-false _ _ _
    (ap (λ h. is_miscounted h h.rows 0) (header-back header) ∙ well-counted header (length table.rows) 0 (omega arith) (no-entries table.rows))
  where
    no-entries : (some : List Row) → length some ≡ 0 → 0 ≡ entries_of some
    no-entries [] e = refl
    no-entries (r ∷ some) e = absurd (omega arith)

-- the text of a stored table is read as the table
pub table-read : (table : Table) (rest : List ℕ) → IsStored table → read_table (text_of_table table ++ rest) ≡ Ok (record { table = table; rest = rest })
table-read table rest is =
    let header = header_for table in
    let behind : List ℕ = flat_map row_text table.rows ++ rest in
    let text : text_of_table table ++ rest ≡ table_line table.controls (length table.rows) (entries_of table.rows) ++ behind =
    append_assoc (table_line table.controls (length table.rows) (entries_of table.rows)) (flat_map row_text table.rows) rest in
    let line : IsFirstLine (table_line table.controls (length table.rows) (entries_of table.rows) ++ behind) (codes "table" ∷ header_words header) behind =
    line-read (codes "table") (header_words header) behind refl (header-plain header) in
    let bytes : List ℕ = table_line table.controls (length table.rows) (entries_of table.rows) ++ behind in
    let says : header_of (first_words bytes) ≡ header = ap header_of line.words_read ∙ header-back header in
    ap read_table text
    ∙ unless-none 1 (first_line_cause bytes) _ (cond-true _ _ _ line.closed ∙ ap header_cause line.words_read ∙ header-good table is)
    ∙ ap (λ h. read_rows h h.rows [] (behind_line bytes)) says
    ∙ ap (read_rows header (length table.rows) []) line.behind
    ∙ rows-read header [] table.rows rest (recursion_from_All (IsRow table.controls) table.rows is.is_table.rows) refl
