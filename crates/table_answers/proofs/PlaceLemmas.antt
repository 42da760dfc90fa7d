-- The lines that a search for a stored table passed, and the place where it ends.
use Rattle.std.proofs.Common.{◌≡◌, ℕ, zero, suc, ◌+◌, ◌-◌, ◌<◌, ◌≤◌, min, Bool, true, false, not, nat_eq, List, [], ◌∷◌, ◌++◌, length, map, take, drop, get_or, bytes_eq, arith, refl, ap, sym, ◌∙◌, All, append_assoc, append-nil, eqb-true, length-append, length-drop}
use Rattle.std.specs.List.{slice_split, position_or_len, before_first, after_first}
use Rattle.std.specs.Cmp.Lexicographic.{same_text}
use Rattle.std.proofs.lemmas.Bool.{and_right, cond_both, cond-true, cond-false, not_from_false}
use Rattle.std.proofs.lemmas.Grind.{common_steps}
use Rattle.std.proofs.lemmas.List.{take-append-drop, take_all, take_at, drop_all, drop-drop, drop_min}
use Rattle.std.proofs.lemmas.List.Splits.{slice_split_at, length-slice_split}
use Rattle.std.proofs.lemmas.List.Sums.{fails_before_first, passes_at_first, split_at_first, prefix_len-le-length, take_while-cons}
use Rattle.subdiv_model.specs.ObjLine.{is_lf, line_end_of, closed_lines, lines_of, line_words}
use Rattle.subdiv_model.specs.ReadObj.{byte_order_mark, without_mark, obj_lines}
use Rattle.subdiv_model.specs.ReadTable.{behind_line}
use Rattle.far_model.specs.Stored.{is_table_line, lines_before_table, mesh_part, behind_lines}
use Rattle.obj_laws.proofs.ObjLineLemmas.{lines-first}
use Rattle.table_answers.specs.Place.{IsTablePlace}

-- this number of closed lines comes before a place, and none of them begins a table
pub record IsScanned (bytes : List ℕ) (start lines : ℕ) : Type 0 where
  pub text : List ℕ
  pub words : List (List (List ℕ))
  pub split : without_mark bytes ≡ text ++ drop start bytes
  pub read : (more : List ℕ) → map line_words (lines_of (text ++ more)) ≡ words ++ map line_words (lines_of more)
  pub kept : (others : List (List (List ℕ))) → lines_before_table (words ++ others) ≡ words ++ lines_before_table others
  pub count : lines ≡ length words
  pub few : lines ≤ start
  pub inside : start ≤ length bytes
  pub behind : behind_lines lines (without_mark bytes) ≡ drop start bytes

-- the bytes without their mark begin as far after their start as they are shorter
mark-dropped : (bytes : List ℕ) → drop (length bytes - length (without_mark bytes)) bytes ≡ without_mark bytes
mark-dropped bytes =
    cond_both (bytes_eq (take 3 bytes) byte_order_mark) (drop 3 bytes) bytes (λ text. drop (length bytes - length text) bytes ≡ text)
    (λ _. let e : length bytes - length (drop 3 bytes) ≡ min 3 (length bytes) = omega (arith, length-drop 3 bytes) in ap (λ n. drop n bytes) e ∙ drop_min 3 bytes)
    (λ _. let e : length bytes - length bytes ≡ 0 = omega arith in ap (λ n. drop n bytes) e)

-- no line comes before the text of the first line
pub scanned-start : (bytes text : List ℕ) → text ≡ without_mark bytes → IsScanned bytes (length bytes - length text) 0
scanned-start bytes text e =
    let rest : drop (length bytes - length text) bytes ≡ without_mark bytes = ap (λ t. drop (length bytes - length t) bytes) e ∙ mark-dropped bytes in
    record {
      text = [];
      words = [];
      split = sym rest;
      read = λ more. refl;
      kept = λ others. refl;
      count = refl;
      few = omega arith;
      inside = omega arith;
      behind = sym rest;
    }

closed-cons : (line : List ℕ) (parts : List (List ℕ)) → 0 < length parts → closed_lines (line ∷ parts) ≡ line ∷ closed_lines parts
closed-cons line [] some = absurd (omega arith)
closed-cons line (part ∷ parts) some = refl

-- the bytes before the first line feed are a line before any bytes
line-closed : (rest more : List ℕ) → position_or_len is_lf rest < length rest
    → lines_of (before_first is_lf rest ++ 10 ∷ more) ≡ before_first is_lf rest ∷ lines_of more
line-closed rest more h =
    let front : All (λ b. is_lf b ≡ false) (before_first is_lf rest) =
    λ k e m. let fails = fails_before_first is_lf rest k e (grind (arith, common_steps)) in grind (arith, common_steps) in
    ap closed_lines (slice_split_at is_lf (before_first is_lf rest) 10 more front refl)
    ∙ closed-cons (before_first is_lf rest) (slice_split is_lf more) (omega (arith, length-slice_split is_lf more))

-- the bytes up to the first line feed, the line feed, and the bytes behind it
line-cut : (rest : List ℕ) → position_or_len is_lf rest < length rest → rest ≡ before_first is_lf rest ++ 10 ∷ after_first is_lf rest
line-cut rest h =
    split_at_first is_lf rest 0 h
    ∙ ap (λ b. before_first is_lf rest ++ b ∷ after_first is_lf rest) (eqb-true (get_or rest (position_or_len is_lf rest) 0) 10 (passes_at_first is_lf rest 0 h))

-- one more line is passed
behind-more : (lines : ℕ) (bytes : List ℕ) → behind_lines (suc lines) bytes ≡ behind_line (behind_lines lines bytes)
behind-more zero bytes = refl
behind-more (suc lines) bytes = behind-more lines (behind_line bytes)

behind-next : (bytes : List ℕ) (start lines : ℕ) → IsScanned bytes start lines
    → behind_lines (lines + 1) (without_mark bytes) ≡ drop (line_end_of bytes start + 1) bytes
behind-next bytes start lines scanned =
    let text = without_mark bytes in
    let n = position_or_len is_lf (drop start bytes) in
    let e : lines + 1 ≡ suc lines = omega arith in
    let f : start + (n + 1) ≡ start + n + 1 = omega arith in
    ap (λ k. behind_lines k text) e
    ∙ behind-more lines text
    ∙ ap behind_line scanned.behind
    ∙ drop-drop (n + 1) start bytes
    ∙ ap (λ k. drop k bytes) f

-- a line that begins no table is kept before others
line-kept : (words : List (List ℕ)) (others : List (List (List ℕ))) → is_table_line words ≡ false
    → lines_before_table (words ∷ others) ≡ words ∷ lines_before_table others
line-kept words others plain =
    take_while-cons (λ line. not (is_table_line line)) words others
    ∙ cond-true (not (is_table_line words)) (words ∷ lines_before_table others) [] (not_from_false (is_table_line words) plain)

-- no line is kept from the first that begins a table
table-first : (words : List (List ℕ)) (others : List (List (List ℕ))) → is_table_line words ≡ true → lines_before_table (words ∷ others) ≡ []
table-first words others is-table =
    take_while-cons (λ line. not (is_table_line line)) words others
    ∙ cond-false (not (is_table_line words)) (words ∷ lines_before_table others) [] (ap not is-table)

kept-more : (before : List (List (List ℕ))) (words : List (List ℕ))
    → ((others : List (List (List ℕ))) → lines_before_table (before ++ others) ≡ before ++ lines_before_table others)
    → is_table_line words ≡ false
    → (others : List (List (List ℕ))) → lines_before_table ((before ++ words ∷ []) ++ others) ≡ (before ++ words ∷ []) ++ lines_before_table others
kept-more before words kept plain others =
    ap lines_before_table (append_assoc before (words ∷ []) others)
    ∙ kept (words ∷ others)
    ∙ ap (λ more. before ++ more) (line-kept words others plain)
    ∙ sym (append_assoc before (words ∷ []) (lines_before_table others))

-- the bytes before a place
front-is : (bytes front : List ℕ) (start : ℕ) → start ≤ length bytes → bytes ≡ front ++ drop start bytes → take start bytes ≡ front
front-is bytes front start inside e =
    let n : length front ≡ start = omega (arith, ap length e, length-append front (drop start bytes), length-drop start bytes) in
    ap (take start) e ∙ take_at front (drop start bytes) start n

-- bytes have no mark before others if they have none with them
unmarked : (text more : List ℕ) → bytes_eq (take 3 (text ++ more)) byte_order_mark ≡ false → without_mark text ≡ text
unmarked [] more none = refl
unmarked (a ∷ []) more none = rw (and_right (nat_eq a 239) false refl) refl
unmarked (a ∷ b ∷ []) more none = rw (and_right (nat_eq b 187) false refl) rw (and_right (nat_eq a 239) false refl) refl
unmarked (a ∷ b ∷ c ∷ text) more none = cond-false (bytes_eq (a ∷ b ∷ c ∷ []) byte_order_mark) text (a ∷ b ∷ c ∷ text) none

-- the bytes before a place have the mark of the whole
mark-taken : (bytes text : List ℕ) (start : ℕ) → start ≤ length bytes → without_mark bytes ≡ text ++ drop start bytes
    → without_mark (take start bytes) ≡ text
mark-taken bytes text start inside split = by (bytes_eq (take 3 bytes) byte_order_mark) refl
  where
    by : (marked : Bool) → bytes_eq (take 3 bytes) byte_order_mark ≡ marked → without_mark (take start bytes) ≡ text
    by true e =
        let rest : drop 3 bytes ≡ text ++ drop start bytes = sym (cond-true (bytes_eq (take 3 bytes) byte_order_mark) (drop 3 bytes) bytes e) ∙ split in
        let whole : bytes ≡ (byte_order_mark ++ text) ++ drop start bytes =
        sym (take-append-drop 3 bytes)
        ∙ ap (λ mark. mark ++ drop 3 bytes) (same_text (take 3 bytes) byte_order_mark (sym e))
        ∙ ap (λ t. byte_order_mark ++ t) rest in
        ap without_mark (front-is bytes (byte_order_mark ++ text) start inside whole)
    by false e =
        let whole : bytes ≡ text ++ drop start bytes = sym (cond-false (bytes_eq (take 3 bytes) byte_order_mark) (drop 3 bytes) bytes e) ∙ split in
        ap without_mark (front-is bytes text start inside whole)
        ∙ unmarked text (drop start bytes) (sym (ap (λ t. bytes_eq (take 3 t) byte_order_mark) whole) ∙ e)

-- the words of all lines, some of which are known from before a place
scanned-words : (bytes : List ℕ) (start lines : ℕ) (scanned : IsScanned bytes start lines)
    → obj_lines bytes ≡ scanned.words ++ map line_words (lines_of (drop start bytes))
scanned-words bytes start lines scanned =
    ap (λ t. map line_words (lines_of t)) scanned.split ∙ scanned.read (drop start bytes)

-- a search ends at a place from which on no line is the mesh's
placed-here : (bytes : List ℕ) (start lines : ℕ) → IsScanned bytes start lines
    → lines_before_table (map line_words (lines_of (drop start bytes))) ≡ [] → IsTablePlace bytes (record { lines = lines; start = start })
placed-here bytes start lines scanned none =
    let mesh : mesh_part bytes ≡ scanned.words =
    ap lines_before_table (scanned-words bytes start lines scanned)
    ∙ scanned.kept (map line_words (lines_of (drop start bytes)))
    ∙ ap (λ more. scanned.words ++ more) none
    ∙ append-nil scanned.words in
    let before : map line_words (lines_of scanned.text) ≡ scanned.words =
    ap (λ t. map line_words (lines_of t)) (sym (append-nil scanned.text)) ∙ scanned.read [] ∙ append-nil scanned.words in
    let count : lines ≡ length (mesh_part bytes) = scanned.count ∙ ap length (sym mesh) in
    record {
      inside = scanned.inside;
      few = scanned.few;
      lines = count;
      mesh = ap (λ t. map line_words (lines_of t)) (mark-taken bytes scanned.text start scanned.inside scanned.split) ∙ before ∙ sym mesh;
      table = sym scanned.behind ∙ ap (λ n. behind_lines n (without_mark bytes)) count;
    }

-- a search ends behind the last line
pub placed-end : (bytes : List ℕ) (start lines : ℕ) → IsScanned bytes start lines → length bytes ≤ start
    → IsTablePlace bytes (record { lines = lines; start = start })
placed-end bytes start lines scanned past =
    placed-here bytes start lines scanned (ap (λ t. lines_before_table (map line_words (lines_of t))) (drop_all start bytes past))

closed-line : (text line more : List ℕ) → (text ++ (line ++ 10 ∷ [])) ++ more ≡ text ++ (line ++ 10 ∷ more)
closed-line text line more = append_assoc text (line ++ 10 ∷ []) more ∙ ap (λ rest. text ++ rest) (append_assoc line (10 ∷ []) more)

-- a line ends within the bytes
pub end-inside : (bytes : List ℕ) (start finish : ℕ) → start ≤ length bytes → finish ≡ line_end_of bytes start → finish ≤ length bytes
end-inside bytes start finish inside ends =
    omega (arith, prefix_len-le-length (λ b. not (is_lf b)) (drop start bytes), length-drop start bytes)

-- the bytes of a line, and those behind it
abbrev line-from : List ℕ → ℕ → List ℕ
line-from bytes start = before_first is_lf (drop start bytes)

abbrev behind-from : List ℕ → ℕ → List ℕ
behind-from bytes start = after_first is_lf (drop start bytes)

-- the line that begins at a place, whose end was found, after the lines before it
module _ (bytes : List ℕ) (start lines finish : ℕ) (scanned : IsScanned bytes start lines) (some : start < length bytes)
    (ends : finish ≡ line_end_of bytes start) where
  -- whether the bytes that are cut out begin a table
  cut-words : (found : Bool) → is_table_line (line_words (take (finish - start) (drop start bytes))) ≡ found → is_table_line (line_words (line-from bytes start)) ≡ found
  cut-words found is =
      let n : position_or_len is_lf (drop start bytes) ≡ finish - start = omega arith in
      ap (λ k. is_table_line (line_words (take k (drop start bytes)))) n ∙ is

  rest-words : map line_words (lines_of (drop start bytes)) ≡ line_words (line-from bytes start) ∷ map line_words (lines_of (behind-from bytes start))
  rest-words = ap (map line_words) (lines-first (drop start bytes) (omega (arith, length-drop start bytes)))

  -- a search ends where a line begins a table
  pub placed-table : is_table_line (line_words (take (finish - start) (drop start bytes))) ≡ true
      → IsTablePlace bytes (record { lines = lines; start = start })
  placed-table is-table =
      placed-here bytes start lines scanned
      (ap lines_before_table rest-words
      ∙ table-first (line_words (line-from bytes start)) (map line_words (lines_of (behind-from bytes start))) (cut-words true is-table))

  -- a search ends behind a last line without a line feed
  pub placed-last : is_table_line (line_words (take (finish - start) (drop start bytes))) ≡ false → finish ≡ length bytes
      → IsTablePlace bytes (record { lines = lines + 1; start = finish })
  placed-last plain last =
      let few = scanned.few in
      let words = line_words (line-from bytes start) in
      let none : behind-from bytes start ≡ [] = drop_all (position_or_len is_lf (drop start bytes) + 1) (drop start bytes) (omega (arith, length-drop start bytes)) in
      let all : obj_lines bytes ≡ scanned.words ++ words ∷ [] =
      scanned-words bytes start lines scanned
      ∙ ap (λ more. scanned.words ++ more) (rest-words ∙ ap (λ more. words ∷ map line_words (lines_of more)) none) in
      let mesh : mesh_part bytes ≡ scanned.words ++ words ∷ [] =
      ap lines_before_table all
      ∙ scanned.kept (words ∷ [])
      ∙ ap (λ more. scanned.words ++ more) (line-kept words [] (cut-words false plain)) in
      let count : lines + 1 ≡ length (mesh_part bytes) =
      omega (arith, scanned.count, ap length mesh, length-append scanned.words (words ∷ [])) in
      record {
        inside = omega arith;
        few = omega arith;
        lines = count;
        mesh = ap obj_lines (take_all finish bytes (omega arith)) ∙ all ∙ sym mesh;
        table =
            drop_all finish bytes (omega arith)
            ∙ sym (drop_all (line_end_of bytes start + 1) bytes (omega arith))
            ∙ sym (behind-next bytes start lines scanned)
            ∙ ap (λ n. behind_lines n (without_mark bytes)) count;
      }

  -- a line feed closes a line that begins no table
  pub scanned-more : is_table_line (line_words (take (finish - start) (drop start bytes))) ≡ false → finish < length bytes
      → IsScanned bytes (finish + 1) (lines + 1)
  scanned-more plain closed =
      let few = scanned.few in
      let line = line-from bytes start in
      let words = line_words line in
      let cut : position_or_len is_lf (drop start bytes) < length (drop start bytes) = omega (arith, length-drop start bytes) in
      let behind : behind-from bytes start ≡ drop (finish + 1) bytes =
      let n : start + (position_or_len is_lf (drop start bytes) + 1) ≡ finish + 1 = omega arith in
      drop-drop (position_or_len is_lf (drop start bytes) + 1) start bytes ∙ ap (λ k. drop k bytes) n in
      record {
        text = scanned.text ++ (line ++ 10 ∷ []);
        words = scanned.words ++ words ∷ [];
        split =
            scanned.split
            ∙ ap (λ rest. scanned.text ++ rest) (line-cut (drop start bytes) cut ∙ ap (λ more. line ++ 10 ∷ more) behind)
            ∙ sym (closed-line scanned.text line (drop (finish + 1) bytes));
        read = λ more.
            ap (λ text. map line_words (lines_of text)) (closed-line scanned.text line more)
            ∙ scanned.read (line ++ 10 ∷ more)
            ∙ ap (λ found. scanned.words ++ map line_words found) (line-closed (drop start bytes) more cut)
            ∙ sym (append_assoc scanned.words (words ∷ []) (map line_words (lines_of more)));
        kept = kept-more scanned.words words scanned.kept (cut-words false plain);
        count = omega (arith, scanned.count, length-append scanned.words (words ∷ []));
        few = omega arith;
        inside = omega arith;
        behind = behind-next bytes start lines scanned ∙ ap (λ k. drop (k + 1) bytes) (sym ends);
      }
