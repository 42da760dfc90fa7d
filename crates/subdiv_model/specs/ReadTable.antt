-- The reader of a table at the beginning of some bytes: the table and the bytes after its text, or the first bad line.
-- Source: Drillolive.
use Rattle.std.specs.Prelude.{ℕ, zero, suc, ◌+◌, ◌%◌, ◌^◌, Bool, true, not, ◌&&◌, ◌||◌, nat_eq, nat_le, nat_lt, List, [], ◌∷◌, ◌++◌, length, drop, get_or, Option, Some, None, Result, Ok, Err, bytes_eq, codes, if◌then◌else◌}
use Rattle.std.specs.List.{list_all, list_any, slice_split, before_first, after_first}
use Rattle.subdiv_model.specs.Digits.{is_number_word, number_of_digits}
use Rattle.subdiv_model.specs.ObjLine.{is_lf}
use Rattle.subdiv_model.specs.Channel.{number_bound}
use Rattle.subdiv_model.specs.Table.{Share, Row, Table, total_of, entries_of}
use Rattle.subdiv_model.specs.TableFault.{TableCause, Form, Range, Sum, Count, TableFault}

-- the words of a line, separated by single spaces
abbrev pub spaced_words : List ℕ → List (List ℕ)
spaced_words line = slice_split (λ b. nat_eq b 32) line

-- the number of the word at a place, from 0
abbrev pub word_number : List (List ℕ) → ℕ → ℕ
word_number words i = number_of_digits (get_or words i [])

-- the first line: the numbers of control points, rows and entries
pub record Header : Type 0 where
  pub controls : ℕ
  pub rows : ℕ
  pub entries : ℕ

-- the words are `table controls C rows R entries E`
abbrev pub is_header_form : List (List ℕ) → Bool
is_header_form words =
    nat_eq (length words) 7
    && bytes_eq (get_or words 0 []) (codes "table")
    && bytes_eq (get_or words 1 []) (codes "controls")
    && is_number_word (get_or words 2 [])
    && bytes_eq (get_or words 3 []) (codes "rows")
    && is_number_word (get_or words 4 [])
    && bytes_eq (get_or words 5 []) (codes "entries")
    && is_number_word (get_or words 6 [])

-- the counts of the first line
abbrev pub header_of : List (List ℕ) → Header
header_of words = record { controls = word_number words 2; rows = word_number words 4; entries = word_number words 6 }

-- the table has at most 2^20 control points, 2^27 rows and 2^27 entries
abbrev pub is_header_in_range : Header → Bool
is_header_in_range header = nat_le header.controls (2 ^ 20) && nat_le header.rows (2 ^ 27) && nat_le header.entries (2 ^ 27)

-- the entries up to a line are too many, or too few if it is the last line, from the number of rows to come
abbrev pub is_miscounted : Header → ℕ → ℕ → Bool
is_miscounted header left entries = nat_lt header.entries entries || (nat_eq left 0 && nat_lt entries header.entries)

-- the cause of a bad first line
abbrev pub header_cause : List (List ℕ) → Option TableCause
header_cause words =
    if not (is_header_form words) then Some Form
    else if not (is_header_in_range (header_of words)) then Some Range
    else if is_miscounted (header_of words) (header_of words).rows 0 then Some Count
    else None

-- the words are `s`, a denominator, and control points, each with a numerator
abbrev pub is_row_form : List (List ℕ) → Bool
is_row_form words =
    nat_le 2 (length words)
    && nat_eq (length words % 2) 0
    && bytes_eq (get_or words 0 []) (codes "s")
    && list_all is_number_word (drop 1 words)

-- the control points of a row, each with its numerator
abbrev pub shares_of_words : List (List ℕ) → List Share
shares_of_words [] = []
shares_of_words (control ∷ []) = []
shares_of_words (control ∷ (numerator ∷ words)) = (number_of_digits control, number_of_digits numerator) ∷ shares_of_words words

-- the row of the words of its line
abbrev pub row_of_words : List (List ℕ) → Row
row_of_words words = record { den = word_number words 1; shares = shares_of_words (drop 2 words) }

-- the number is within the limits of denominators and numerators
abbrev pub is_term : ℕ → Bool
is_term n = nat_le 1 n && nat_le n number_bound

-- the control points ascend from a number, are below another, and have numerators within the limits
abbrev pub are_shares_in_range : ℕ → ℕ → List Share → Bool
are_shares_in_range controls least [] = true
are_shares_in_range controls least (share ∷ shares) =
    nat_le least share.0 && nat_lt share.0 controls && is_term share.1 && are_shares_in_range controls (suc share.0) shares

-- the denominator of the row and its control points are within their limits
abbrev pub is_row_in_range : ℕ → Row → Bool
is_row_in_range controls row = is_term row.den && are_shares_in_range controls 0 row.shares

-- the cause of a bad row, from the number of entries before it and of rows to come
abbrev pub row_cause : Header → ℕ → ℕ → Row → Option TableCause
row_cause header left entries row =
    if not (is_row_in_range header.controls row) then Some Range
    else if not (nat_eq (total_of row.shares) row.den) then Some Sum
    else if is_miscounted header left (entries + length row.shares) then Some Count
    else None

-- the cause of bad words of a row, from the number of entries before it and of rows to come
abbrev pub row_words_cause : Header → ℕ → ℕ → List (List ℕ) → Option TableCause
row_words_cause header left entries words =
    if is_row_form words then row_cause header left entries (row_of_words words) else Some Form

-- LF closes the first line
abbrev pub has_line : List ℕ → Bool
has_line bytes = list_any is_lf bytes

-- the words of the first line
abbrev pub first_words : List ℕ → List (List ℕ)
first_words bytes = spaced_words (before_first is_lf bytes)

-- the bytes after the first line
abbrev pub behind_line : List ℕ → List ℕ
behind_line bytes = after_first is_lf bytes

-- a table, and the bytes after its text
pub record Reading : Type 0 where
  pub table : Table
  pub rest : List ℕ

-- a reading, unless the line of this number is bad
abbrev pub reading_unless : ℕ → Option TableCause → Result Reading TableFault → Result Reading TableFault
reading_unless line (Some cause) reading = Err (record { line = line; cause = cause })
reading_unless line None reading = reading

-- the cause of the line after these rows, from the number of rows to come after it
abbrev pub next_row_cause : Header → ℕ → List Row → List ℕ → Option TableCause
next_row_cause header left rows bytes =
    if has_line bytes then row_words_cause header left (entries_of rows) (first_words bytes) else Some Form

-- the table of these rows and of a number of further ones
abbrev pub read_rows : Header → ℕ → List Row → List ℕ → Result Reading TableFault
read_rows header zero rows bytes = Ok (record { table = record { controls = header.controls; rows = rows }; rest = bytes })
read_rows header (suc left) rows bytes =
    reading_unless (length rows + 2) (next_row_cause header left rows bytes)
    (read_rows header left (rows ++ row_of_words (first_words bytes) ∷ []) (behind_line bytes))

-- the cause of a bad first line of bytes
abbrev pub first_line_cause : List ℕ → Option TableCause
first_line_cause bytes = if has_line bytes then header_cause (first_words bytes) else Some Form

-- the table whose text the bytes begin with, or the first bad line
abbrev pub read_table : List ℕ → Result Reading TableFault
read_table bytes =
    let header = header_of (first_words bytes) in
    reading_unless 1 (first_line_cause bytes) (read_rows header header.rows [] (behind_line bytes))
