-- The words of lines, one line more, and the words of their text as a mesh reads it.
use Rattle.std.proofs.Common.{◌≡◌, ℕ, ◌<◌, Bool, true, false, not, ◌||◌, cond, List, [], ◌∷◌, ◌++◌, length, map, take, drop, bytes_eq, arith, refl, ap, sym, ◌∙◌, append-nil, nat_eq}
use Rattle.std.specs.List.{slice_split}
use Rattle.std.proofs.lemmas.Bool.{and_parts, and_right, or_parts, cond_both}
use Rattle.std.proofs.lemmas.Bool.Decides.{nat_tests}
use Rattle.std.proofs.lemmas.List.{map-append, take-append-drop}
use Rattle.std.proofs.lemmas.List.Folds.{list_any-append}
use Rattle.std.proofs.lemmas.List.Splits.{slice_split_none, slice_split_at, length-slice_split}
use Rattle.subdiv_model.specs.ObjLine.{is_lf, closed_lines, lines_of, line_words}
use Rattle.subdiv_model.specs.ReadObj.{byte_order_mark, without_mark, obj_lines}
use Rattle.far_model.specs.Frames.{words_after, words_of_lines}
use Rattle.stream_laws.specs.Handled.{has_lf, are_lines, text_of_lines}
use Rattle.stream_laws.specs.Marked.{bytes_after}
use Rattle.stream_laws.proofs.PartLemmas.{no-lf, not-lf, text-first}

-- the words of a line after others are those of its bytes without the mark
pub words-bytes : (before : List (List ℕ)) (line : List ℕ) → words_after before line ≡ line_words (bytes_after before line)
words-bytes [] line = refl
words-bytes (first ∷ before) line = refl

-- the words of one line more
pub words-more : (before : List (List ℕ)) (line : List ℕ) → words_of_lines (before ++ line ∷ []) ≡ words_of_lines before ++ words_after before line ∷ []
words-more [] line = refl
words-more (first ∷ before) line = ap (λ words. words_after [] first ∷ words) (map-append line_words before (line ∷ []))

-- the words of lines after others, where the first is separate
pub words-append : (first : List ℕ) (before lines : List (List ℕ))
    → words_of_lines ((first ∷ before) ++ lines) ≡ words_of_lines (first ∷ before) ++ map line_words lines
words-append first before lines = ap (λ words. words_after [] first ∷ words) (map-append line_words before lines)

-- the words of a line after others, and of those after it
pub words-next : (before : List (List ℕ)) (line : List ℕ) (lines : List (List ℕ))
    → words_of_lines (before ++ line ∷ lines) ≡ words_of_lines before ++ words_after before line ∷ map line_words lines
words-next [] line lines = refl
words-next (first ∷ before) line lines = words-append first before (line ∷ lines)

cut-append : (test : Bool) (first second rest : List ℕ) → cond test (first ++ rest) (second ++ rest) ≡ cond test first second ++ rest
cut-append true first second rest = refl
cut-append false first second rest = refl

-- the mark is skipped of the first line
marked-first : (line rest : List ℕ) → has_lf line ≡ false → without_mark (line ++ 10 ∷ rest) ≡ without_mark line ++ 10 ∷ rest
marked-first [] rest none = refl
marked-first (a ∷ []) rest none = rw (and_right (nat_eq a 239) false refl) refl
marked-first (a ∷ b ∷ []) rest none = rw (and_right (nat_eq b 187) false refl) rw (and_right (nat_eq a 239) false refl) refl
marked-first (a ∷ b ∷ c ∷ line) rest none = cut-append (bytes_eq (a ∷ b ∷ c ∷ []) byte_order_mark) line (a ∷ b ∷ c ∷ line) (10 ∷ rest)

drop-lf : (n : ℕ) (bytes : List ℕ) → has_lf bytes ≡ false → has_lf (drop n bytes) ≡ false
drop-lf n bytes none =
    let joined : (has_lf (take n bytes) || has_lf (drop n bytes)) ≡ false =
    sym (list_any-append is_lf (take n bytes) (drop n bytes)) ∙ ap has_lf (take-append-drop n bytes) ∙ none in
    (or_parts (has_lf (take n bytes)) (has_lf (drop n bytes)) joined).1

marked-lf : (line : List ℕ) → has_lf line ≡ false → has_lf (without_mark line) ≡ false
marked-lf line none =
    cond_both (bytes_eq (take 3 line) byte_order_mark) (drop 3 line) line (λ bytes. has_lf bytes ≡ false) (λ _. drop-lf 3 line none) (λ _. none)

closed-cons : (line : List ℕ) (parts : List (List ℕ)) → 0 < length parts → closed_lines (line ∷ parts) ≡ line ∷ closed_lines parts
closed-cons line [] some = absurd (omega arith)
closed-cons line (part ∷ parts) some = refl

-- the first line of bytes is one that LF closes
first-of-lines : (line rest : List ℕ) → has_lf line ≡ false → lines_of (line ++ 10 ∷ rest) ≡ line ∷ lines_of rest
first-of-lines line rest none =
    ap closed_lines (slice_split_at is_lf line 10 rest (no-lf line none) refl)
    ∙ closed-cons line (slice_split is_lf rest) (omega (arith, length-slice_split is_lf rest))

-- bytes without LF are the last line, where there are some
last-of-lines : (line : List ℕ) → has_lf line ≡ false → 0 < length line → lines_of line ≡ line ∷ []
last-of-lines line none some =
    let whole : closed_lines (line ∷ []) ≡ line ∷ [] = grind (arith, nat_tests) in
    ap closed_lines (slice_split_none is_lf line (no-lf line none)) ∙ whole

-- bytes that begin with closed lines
lines-of-text : (lines : List (List ℕ)) (rest : List ℕ) → are_lines lines ≡ true → lines_of (text_of_lines lines ++ rest) ≡ lines ++ lines_of rest
lines-of-text [] rest closed = refl
lines-of-text (line ∷ lines) rest closed =
    let parts = and_parts (not (has_lf line)) (are_lines lines) closed in
    ap lines_of (text-first line lines rest)
    ∙ first-of-lines line (text_of_lines lines ++ rest) (not-lf line parts.0)
    ∙ ap (λ more. line ∷ more) (lines-of-text lines rest parts.1)

-- bytes that begin with a closed line, as a mesh reads them
pub first-words : (line : List ℕ) (lines : List (List ℕ)) (rest : List ℕ) → are_lines (line ∷ lines) ≡ true
    → obj_lines (text_of_lines (line ∷ lines) ++ rest) ≡ words_of_lines (line ∷ lines) ++ map line_words (lines_of rest)
first-words line lines rest closed =
    let parts = and_parts (not (has_lf line)) (are_lines lines) closed in
    let none = not-lf line parts.0 in
    let tail = text_of_lines lines ++ rest in
    ap obj_lines (text-first line lines rest)
    ∙ ap (λ text. map line_words (lines_of text)) (marked-first line tail none)
    ∙ ap (map line_words) (first-of-lines (without_mark line) tail (marked-lf line none) ∙ ap (λ more. without_mark line ∷ more) (lines-of-text lines rest parts.1))
    ∙ ap (λ words. words_after [] line ∷ words) (map-append line_words lines (lines_of rest))

-- the words of the text of lines
pub text-words : (lines : List (List ℕ)) → are_lines lines ≡ true → obj_lines (text_of_lines lines) ≡ words_of_lines lines
text-words [] closed = refl
text-words (line ∷ lines) closed =
    ap obj_lines (sym (append-nil (text_of_lines (line ∷ lines)))) ∙ first-words line lines [] closed ∙ append-nil (words_of_lines (line ∷ lines))

-- the words of the text of lines whose last is open
pub last-words : (lines : List (List ℕ)) (line : List ℕ) → are_lines lines ≡ true → has_lf line ≡ false → 0 < length (bytes_after lines line)
    → obj_lines (text_of_lines lines ++ line) ≡ words_of_lines (lines ++ line ∷ [])
last-words [] line closed none some = ap (map line_words) (last-of-lines (without_mark line) (marked-lf line none) some)
last-words (first ∷ lines) line closed none some =
    first-words first lines line closed
    ∙ ap (λ last. words_of_lines (first ∷ lines) ++ map line_words last) (last-of-lines line none some)
    ∙ sym (words-append first lines (line ∷ []))

-- a mesh reads no line where the only one is a byte order mark
pub only-mark : (line : List ℕ) → length (without_mark line) ≡ 0 → (obj_lines line ≡ []) × (words_of_lines (line ∷ []) ≡ [] ∷ [])
only-mark line empty = here (without_mark line) empty
  where
    here : (bytes : List ℕ) → length bytes ≡ 0 → (map line_words (lines_of bytes) ≡ []) × (line_words bytes ∷ [] ≡ [] ∷ [])
    here [] e = (refl, refl)
    here (b ∷ bytes) e = absurd (omega arith)
