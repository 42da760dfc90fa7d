-- Bytes that are read as a table begin with the text of the table.
use Rattle.std.proofs.Common.{◌≡◌, ℕ, zero, suc, ◌+◌, ◌^◌, ◌≤◌, Bool, true, false, not, nat_eq, nat_le, nat_lt, List, [], ◌∷◌, ◌++◌, length, get_or, bytes_eq, arith, lit≤, refl, ap, sym, subst, ◌∙◌, append_assoc, append-nil, le_trans, leb-true, ltb-false, eqb-true, true≢false, Some, None, Option, Result, Ok, Err, is_ok}
use Rattle.std.specs.Prelude.{codes}
use Rattle.std.specs.List.{All, AllByRecursion, flat_map}
use Rattle.std.specs.Cmp.Lexicographic.{bytes_decides}
use Rattle.std.proofs.lemmas.Bool.{and_parts, or_parts}
use Rattle.std.proofs.lemmas.List.Elements.{All-from_recursion}
use Rattle.std.proofs.lemmas.List.Sums.{sum_by-cons, sum_by-append}
use Rattle.subdiv_model.specs.Digits.{is_number_word, number_of_digits}
use Rattle.subdiv_model.specs.NumberText.{number_text}
use Rattle.subdiv_model.specs.ReadTable.{Header, Reading, is_header_form, header_of, is_header_in_range, is_miscounted, header_cause, row_of_words, row_words_cause, has_line, first_words, behind_line, reading_unless, next_row_cause, read_rows, first_line_cause, read_table}
use Rattle.subdiv_model.specs.Table.{Row, IsRow, entries_of}
use Rattle.subdiv_model.specs.TableFault.{TableCause, TableFault, Form, Range, Count}
use Rattle.subdiv_model.specs.TableText.{row_text, table_line, text_of_table}
use Rattle.table_laws.specs.StoredTable.{IsStored}
use Rattle.table_laws.proofs.LineLemmas.{line-again}
use Rattle.table_laws.proofs.NumberWordLemmas.{word-text}
use Rattle.table_laws.proofs.RowLemmas.{row_words}
use Rattle.table_laws.proofs.ReadLemmas.{header_words}
use Rattle.table_laws.proofs.WrittenLemmas.{passed, not-failed, row-words-are}

-- a reading that goes on found no fault in its line
unless-read : (line : ℕ) (cause : Option TableCause) (result : Result Reading TableFault) (reading : Reading) → reading_unless line cause result ≡ Ok reading
    → (cause ≡ None) × (result ≡ Ok reading)
unless-read line None result reading e = (refl, e)
unless-read line (Some cause) result reading e = absurd (true≢false (sym (ap is_ok e)))

pub ok-same : (x y : Reading) → ◌≡◌ {A = Result Reading TableFault} (Ok x) (Ok y) → x ≡ y
ok-same x y e = ap (λ (r : Result Reading TableFault). reading_or x r) e
  where
    reading_or : Reading → Result Reading TableFault → Reading
    reading_or given (Ok reading) = reading
    reading_or given (Err fault) = given

-- the further rows read after some rows, and the bytes of their text
record AreRead (header : Header) (left : ℕ) (done : List Row) (bytes : List ℕ) (reading : Reading) : Type 0 where
  rows : List Row
  count : length rows ≡ left
  are : AllByRecursion (IsRow header.controls) rows
  text : bytes ≡ flat_map row_text rows ++ reading.rest
  controls : reading.table.controls ≡ header.controls
  all : reading.table.rows ≡ done ++ rows
  entries : entries_of reading.table.rows ≡ header.entries

-- entries that are not miscounted at the last line are all
all-counted : (header : Header) (entries : ℕ) → is_miscounted header 0 entries ≡ false → entries ≡ header.entries
all-counted header entries counted =
    let parts = or_parts (nat_lt header.entries entries) (nat_lt entries header.entries) counted in
    let most = ltb-false header.entries entries parts.0 in
    let least = ltb-false entries header.entries parts.1 in
    omega arith

entries-push : (done : List Row) (row : Row) → entries_of (done ++ row ∷ []) ≡ entries_of done + length row.shares
entries-push done row =
    let both = sum_by-append (λ (r : Row). length r.shares) done (row ∷ []) in
    let more = sum_by-cons (λ (r : Row). length r.shares) row [] in
    omega (arith, both, more)

rows-written : (header : Header) (left : ℕ) (done : List Row) (bytes : List ℕ) (reading : Reading) → read_rows header left done bytes ≡ Ok reading
    → is_miscounted header left (entries_of done) ≡ false → AreRead header left done bytes reading
rows-written header zero done bytes reading e counted =
    let same = ok-same (record { table = record { controls = header.controls; rows = done }; rest = bytes }) reading e in
    record {
      rows = [];
      count = refl;
      are = tt;
      text = ap (λ (r : Reading). r.rest) same;
      controls = sym (ap (λ (r : Reading). r.table.controls) same);
      all = sym (ap (λ (r : Reading). r.table.rows) same) ∙ sym (append-nil done);
      entries = sym (ap (λ (r : Reading). entries_of r.table.rows) same) ∙ all-counted header (entries_of done) counted;
    }
rows-written header (suc left) done bytes reading e counted =
    let words : List (List ℕ) = first_words bytes in
    let row : Row = row_of_words words in
    let parts = unless-read (length done + 2) (next_row_cause header left done bytes) (read_rows header left (done ++ row ∷ []) (behind_line bytes)) reading e in
    let line = passed (has_line bytes) Form (row_words_cause header left (entries_of done) words) parts.0 in
    let good = row-words-are header left (entries_of done) words line.1 in
    let rest = rows-written header left (done ++ row ∷ []) (behind_line bytes) reading parts.1
    (ap (is_miscounted header left) (entries-push done row) ∙ good.1.counted) in
    record {
      rows = row ∷ rest.rows;
      count = ap suc rest.count;
      are = (good.1.is_row, rest.are);
      text =
          line-again bytes (codes "s") (row_words row) line.0 good.0
          ∙ ap (λ more. row_text row ++ more) rest.text
          ∙ sym (append_assoc (row_text row) (flat_map row_text rest.rows) reading.rest);
      controls = rest.controls;
      all = rest.all ∙ append_assoc done (row ∷ []) rest.rows;
      entries = rest.entries;
    }

-- the words of the first line are those of its numbers
header-text : (words : List (List ℕ)) → is_header_form words ≡ true → words ≡ codes "table" ∷ header_words (header_of words)
header-text words form =
    let seventh = and_parts _ (is_number_word (get_or words 6 [])) form in
    let sixth = and_parts _ (bytes_eq (get_or words 5 []) (codes "entries")) seventh.0 in
    let fifth = and_parts _ (is_number_word (get_or words 4 [])) sixth.0 in
    let fourth = and_parts _ (bytes_eq (get_or words 3 []) (codes "rows")) fifth.0 in
    let third = and_parts _ (is_number_word (get_or words 2 [])) fourth.0 in
    let second = and_parts _ (bytes_eq (get_or words 1 []) (codes "controls")) third.0 in
    let first = and_parts (nat_eq (length words) 7) (bytes_eq (get_or words 0 []) (codes "table")) second.0 in
    let is : (i : ℕ) (name : List ℕ) → bytes_eq (get_or words i []) name ≡ true → get_or words i [] ≡ name = λ i name. (bytes_decides (get_or words i []) name).0 in
    seven words (eqb-true (length words) 7 first.0)
    ∙ all (get_or words 0 []) (get_or words 1 []) (get_or words 2 []) (get_or words 3 []) (get_or words 4 []) (get_or words 5 []) (get_or words 6 [])
    (is 0 (codes "table") first.1) (is 1 (codes "controls") second.1) (is 3 (codes "rows") fourth.1) (is 5 (codes "entries") sixth.1)
    third.1 fifth.1 seventh.1
  where
    seven : (ws : List (List ℕ)) → length ws ≡ 7
        → ws ≡ get_or ws 0 [] ∷ get_or ws 1 [] ∷ get_or ws 2 [] ∷ get_or ws 3 [] ∷ get_or ws 4 [] ∷ get_or ws 5 [] ∷ get_or ws 6 [] ∷ []
    seven (a ∷ b ∷ c ∷ d ∷ e ∷ f ∷ g ∷ []) is = refl
    seven [] is = absurd (omega arith)
    seven (a ∷ []) is = absurd (omega arith)
    seven (a ∷ b ∷ []) is = absurd (omega arith)
    seven (a ∷ b ∷ c ∷ []) is = absurd (omega arith)
    seven (a ∷ b ∷ c ∷ d ∷ []) is = absurd (omega arith)
    seven (a ∷ b ∷ c ∷ d ∷ e ∷ []) is = absurd (omega arith)
    seven (a ∷ b ∷ c ∷ d ∷ e ∷ f ∷ []) is = absurd (omega arith)
    seven (a ∷ b ∷ c ∷ d ∷ e ∷ f ∷ g ∷ h ∷ ws) is = absurd (omega arith)

    all : (a b c d e f g : List ℕ) → a ≡ codes "table" → b ≡ codes "controls" → d ≡ codes "rows" → f ≡ codes "entries"
        → is_number_word c ≡ true → is_number_word e ≡ true → is_number_word g ≡ true
        → a ∷ b ∷ c ∷ d ∷ e ∷ f ∷ g ∷ []
        ≡ codes "table" ∷ codes "controls" ∷ number_text (number_of_digits c) ∷ codes "rows" ∷ number_text (number_of_digits e)
        ∷ codes "entries" ∷ number_text (number_of_digits g) ∷ []
    all a b c d e f g one two four six third fifth seventh =
        rw (one, two, four, six, word-text c third, word-text e fifth, word-text g seventh) refl

turned : (b : Bool) → not b ≡ false → b ≡ true
turned true h = refl
turned false h = absurd (true≢false h)

-- the bytes are the text of a stored table, then the bytes that are left
pub record IsRead (bytes : List ℕ) (reading : Reading) : Type 0 where
  pub text : bytes ≡ text_of_table reading.table ++ reading.rest
  pub stored : IsStored reading.table

pub table-written : (bytes : List ℕ) (reading : Reading) → read_table bytes ≡ Ok reading → IsRead bytes reading
table-written bytes reading e =
    let words : List (List ℕ) = first_words bytes in
    let header : Header = header_of words in
    let parts = unless-read 1 (first_line_cause bytes) (read_rows header header.rows [] (behind_line bytes)) reading e in
    let line = passed (has_line bytes) Form (header_cause words) parts.0 in
    let form = not-failed (not (is_header_form words)) Form _ line.1 in
    let range = not-failed (not (is_header_in_range header)) Range _ form.1 in
    let counted = not-failed (is_miscounted header header.rows 0) Count None range.1 in
    let limits = and_parts _ (nat_le header.entries (2 ^ 27)) (turned _ range.0) in
    let sizes = and_parts (nat_le header.controls (2 ^ 20)) (nat_le header.rows (2 ^ 27)) limits.0 in
    let rest = rows-written header header.rows [] (behind_line bytes) reading parts.1 counted.0 in
    let rows : reading.table.rows ≡ rest.rows = rest.all in
    let count : length reading.table.rows ≡ header.rows = ap length rows ∙ rest.count in
    let few : reading.table.controls ≤ 2 ^ 20 = subst (λ n. n ≤ 2 ^ 20) (sym rest.controls) (leb-true header.controls (2 ^ 20) sizes.0) in
    let are : All (IsRow reading.table.controls) reading.table.rows =
    subst (λ n. All (IsRow n) reading.table.rows) (sym rest.controls)
    (subst (All (IsRow header.controls)) (sym rows) (All-from_recursion (IsRow header.controls) rest.rows rest.are)) in
    let table_text : flat_map row_text rest.rows ≡ flat_map row_text reading.table.rows = ap (flat_map row_text) (sym rows) in
    let first : table_line header.controls header.rows header.entries ≡ table_line reading.table.controls (length reading.table.rows) (entries_of reading.table.rows) =
    ap (λ n. table_line n header.rows header.entries) (sym rest.controls)
    ∙ ap (λ n. table_line reading.table.controls n header.entries) (sym count)
    ∙ ap (λ n. table_line reading.table.controls (length reading.table.rows) n) (sym rest.entries) in
    record {
      text =
          line-again bytes (codes "table") (header_words header) line.0 (header-text words (turned _ form.0))
          ∙ ap (λ text. table_line header.controls header.rows header.entries ++ text) (rest.text ∙ ap (λ text. text ++ reading.rest) table_text)
          ∙ ap (λ text. text ++ (flat_map row_text reading.table.rows ++ reading.rest)) first
          ∙ sym (append_assoc (table_line reading.table.controls (length reading.table.rows) (entries_of reading.table.rows)) (flat_map row_text reading.table.rows) reading.rest);
      stored = record {
        is_table = record {
          rows = are;
          controls_few = le_trans few (lit≤ tt);
          rows_few = subst (λ n. n ≤ 2 ^ 27) (sym count) (leb-true header.rows (2 ^ 27) sizes.1);
          entries_few = subst (λ n. n ≤ 2 ^ 27) (sym rest.entries) (leb-true header.entries (2 ^ 27) limits.1);
        };
        controls_few = few;
      };
    }
