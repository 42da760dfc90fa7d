-- The numbers of lines and points of a text. Its fault names one of its lines.
use Rattle.std.proofs.Common.{◌≡◌, ℕ, zero, suc, ◌+◌, ◌-◌, ◌^◌, ◌≤◌, Bool, true, false, not, ◌&&◌, cond, nat_eq, nat_le, nat_lt, List, [], ◌∷◌, ◌++◌, length, take, drop, take_all, Result, Err, Option, Some, None, arith, leb-true, refl, sym, subst, ap}
use Rattle.std.specs.Option.{option_or}
use Rattle.std.specs.List.{filter, slice_split}
use Rattle.std.proofs.lemmas.Bool.{and_parts, cond_both}
use Rattle.std.proofs.lemmas.List.{length-drop, length-map, length_push}
use Rattle.std.proofs.lemmas.List.Splits.{length-slice_split}
use Rattle.std.proofs.lemmas.List.Sums.{count_by-le-length, length-filter}
use Rattle.subdiv_model.specs.ObjFault.{ObjCause, ObjFault}
use Rattle.subdiv_model.specs.ObjLine.{closed_lines, is_vertex_line, line_words, lines_of}
use Rattle.subdiv_model.specs.ReadObj.{common_over, fault_at, first_bad_line, first_fault, first_late_fault, late_fault, lesser_fault, lines_fault, long_fault, obj_lines, passes_bound, point_over, position_common, read_obj_fault, read_obj_mesh, wide_fault, without_mark}
use Rattle.subdiv_model.specs.ReadTable.{Header, Reading, behind_line, first_line_cause, first_words, has_line, header_cause, header_of, is_header_form, is_header_in_range, is_miscounted, next_row_cause, read_rows, read_table, reading_unless, row_of_words}
use Rattle.subdiv_model.specs.Table.{Row}
use Rattle.subdiv_model.specs.TableFault.{Count, Form, Range, TableCause, TableFault}
use Rattle.obj_laws.proofs.FirstFaultLemmas.{bad-first, first_from, good-first}
use Rattle.obj_laws.proofs.ObjSizeLemmas.{without-mark-bytes}

-- the fault, if there is one, names one of the lines
abbrev NamesLine : ℕ → Option ObjFault → Type 0
NamesLine count None = Unit {0}
NamesLine count (Some fault) = fault.line ≤ count

first-names : (cause_at : ℕ → Option ObjCause) (start count : ℕ) → NamesLine (start + count) (first_from cause_at start count)
first-names cause_at start zero = tt
first-names cause_at start (suc count) = by (cause_at start) refl (first-names cause_at (start + 1) count)
  where
    by : (cause : Option ObjCause) → cause_at start ≡ cause → NamesLine ((start + 1) + count) (first_from cause_at (start + 1) count)
        → NamesLine (start + suc count) (first_from cause_at start (suc count))
    by None good later =
        let same : (start + 1) + count ≡ start + suc count = omega arith in
        subst (NamesLine (start + suc count)) (sym (good-first cause_at start count good))
        (subst (λ n. NamesLine n (first_from cause_at (start + 1) count)) same later)
    by (Some cause) bad later =
        let here : suc start ≤ start + suc count = omega arith in
        subst (NamesLine (start + suc count)) (sym (bad-first cause_at start count cause bad)) here

fault-names : (cause_at : ℕ → Option ObjCause) (count : ℕ) → NamesLine count (first_fault cause_at count)
fault-names cause_at count =
    let same : 0 + count ≡ count = omega arith in
    subst (λ n. NamesLine n (first_fault cause_at count)) same (first-names cause_at 0 count)

either-names : (count : ℕ) (test : Bool) (a b : Option ObjFault) → NamesLine count a → NamesLine count b → NamesLine count (cond test a b)
either-names count true a b first second = first
either-names count false a b first second = second

late-names : (is_of_channel : List (List ℕ) → Bool) (start : ℕ) (lines : List (List (List ℕ))) → NamesLine (length lines) (late_fault is_of_channel start lines)
late-names is_of_channel start lines =
    either-names (length lines) (passes_bound is_of_channel start lines) _ _ (fault-names (wide_fault is_of_channel start lines) (length lines))
    (fault-names (long_fault is_of_channel (common_over start (filter is_of_channel lines)) lines) (length lines))

lesser-names : (count : ℕ) (a b : Option ObjFault) → NamesLine count a → NamesLine count b → NamesLine count (lesser_fault a b)
lesser-names count None b first second = second
lesser-names count (Some fault) None first second = first
lesser-names count (Some fault) (Some other) first second = either-names count (nat_lt other.line fault.line) (Some other) (Some fault) second first

or-names : (count : ℕ) (a b : Option ObjFault) → NamesLine count a → NamesLine count b → NamesLine count (option_or a b)
or-names count None b first second = second
or-names count (Some fault) b first second = first

lines-names : (lines : List (List (List ℕ))) (least : ℕ) → NamesLine (length lines) (lines_fault lines least)
lines-names lines least =
    or-names (length lines) (first_bad_line lines) (first_late_fault least lines) (fault-names (fault_at lines) (length lines))
    (lesser-names (length lines) _ _ (late-names is_vertex_line _ lines) (late-names _ 1 lines))

-- a text has at most one line more than bytes
closed-few : (parts : List (List ℕ)) → length (closed_lines parts) ≤ length parts
closed-few [] = omega arith
closed-few (line ∷ []) = cond_both (nat_eq (length line) 0) [] (line ∷ []) (λ lines. length lines ≤ 1) (λ _. omega arith) (λ _. omega arith)
closed-few (line ∷ (next ∷ lines)) = omega (arith, closed-few (next ∷ lines))

pub lines-few : (text : List ℕ) → length (obj_lines text) ≤ length text + 1
lines-few text =
    let bare = without_mark text in
    let parts = slice_split (λ b. nat_eq b 10) bare in
    omega (arith, length-map (lines_of bare) line_words, closed-few parts, length-slice_split (λ b. nat_eq b 10) bare, count_by-le-length (λ b. nat_eq b 10) bare, without-mark-bytes text)

-- the line of its fault and its number of points are at most that
pub fault-line-few : (text : List ℕ) (fault : ObjFault) → read_obj_fault text 0 ≡ Some fault → fault.line ≤ length text + 1
fault-line-few text fault is =
    let within : fault.line ≤ length (obj_lines text) = subst (NamesLine (length (obj_lines text))) is (lines-names (obj_lines text) 0) in
    omega (arith, within, lines-few text)

pub points-few : (text : List ℕ) → length (read_obj_mesh text 0).points ≤ length text + 1
points-few text =
    let lines = obj_lines text in
    omega (arith, length-map (filter is_vertex_line lines) (point_over (position_common 0 lines)), length-filter is_vertex_line lines, count_by-le-length is_vertex_line lines, lines-few text)

-- the bytes from a place on
pub rest-of : (bytes : List ℕ) (start : ℕ) → take (length bytes - start) (drop start bytes) ≡ drop start bytes
rest-of bytes start = take_all (length bytes - start) (drop start bytes) (omega (arith, length-drop start bytes))

-- The fault of a table names a line of its rows, or its first line.
rows-line : (header : Header) (left : ℕ) (rows : List Row) (bytes : List ℕ) (fault : TableFault) → read_rows header left rows bytes ≡ Err fault → fault.line ≤ length rows + left + 1
rows-line header zero rows bytes fault is = absurd (cc)
rows-line header (suc left) rows bytes fault is =
    by (next_row_cause header left rows bytes) is (rows-line header left (rows ++ row_of_words (first_words bytes) ∷ []) (behind_line bytes) fault)
  where
    further : Result Reading TableFault
    further = read_rows header left (rows ++ row_of_words (first_words bytes) ∷ []) (behind_line bytes)

    by : (cause : Option TableCause) → reading_unless (length rows + 2) cause further ≡ Err fault
        → (further ≡ Err fault → fault.line ≤ length (rows ++ row_of_words (first_words bytes) ∷ []) + left + 1) → fault.line ≤ length rows + suc left + 1
    by (Some cause) e later =
        let same : record { line = length rows + 2; cause = cause } ≡ fault = cc in omega (arith, ap (λ (f : TableFault). f.line) same)
    by None e later = let one = later e in omega (arith, one, length_push rows (row_of_words (first_words bytes)))

range-of : (form range miscounted : Bool) → cond (not form) (Some Form) (cond (not range) (Some Range) (cond miscounted (Some Count) None)) ≡ None → range ≡ true
range-of true true miscounted e = refl
range-of true false miscounted e = absurd (cc)
range-of false range miscounted e = absurd (cc)

header-few : (words : List (List ℕ)) → header_cause words ≡ None → (header_of words).rows ≤ 2 ^ 27
header-few words good =
    let header = header_of words in
    let range = range-of (is_header_form words) (is_header_in_range header) (is_miscounted header header.rows 0) good in
    let both = and_parts (nat_le header.controls (2 ^ 20) && nat_le header.rows (2 ^ 27)) (nat_le header.entries (2 ^ 27)) range in
    leb-true header.rows (2 ^ 27) (and_parts (nat_le header.controls (2 ^ 20)) (nat_le header.rows (2 ^ 27)) both.0).1

line-of : (closed : Bool) (cause : Option TableCause) → cond closed cause (Some Form) ≡ None → cause ≡ None
line-of true cause e = e
line-of false cause e = absurd (cc)

pub table-line-few : (bytes : List ℕ) (fault : TableFault) → read_table bytes ≡ Err fault → fault.line ≤ 2 ^ 27 + 1
table-line-few bytes fault is = by (first_line_cause bytes) refl is
  where
    header : Header
    header = header_of (first_words bytes)

    by : (cause : Option TableCause) → first_line_cause bytes ≡ cause → reading_unless 1 cause (read_rows header header.rows [] (behind_line bytes)) ≡ Err fault → fault.line ≤ 2 ^ 27 + 1
    by (Some cause) same e = let one : record { line = 1; cause = cause } ≡ fault = cc in omega (arith, ap (λ (f : TableFault). f.line) one)
    by None same e =
        omega (arith, rows-line header header.rows [] (behind_line bytes) fault e, header-few (first_words bytes) (line-of (has_line bytes) (header_cause (first_words bytes)) same))
