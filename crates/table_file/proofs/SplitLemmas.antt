-- The first line of a text, and the first word of a line.
use Rattle.std.proofs.Common.{◌≡◌, ℕ, ◌+◌, ◌-◌, ◌<◌, ◌≤◌, Bool, true, false, not, nat_lt, List, [], ◌∷◌, length, take, drop, get_or, slice_range, arith, refl, ap, sym, ◌∙◌, length-drop}
use Rattle.std.specs.List.{slice_split, position_or_len, list_any}
use Rattle.std.proofs.lemmas.Bool.Decides.{nat_tests}
use Rattle.std.proofs.lemmas.List.{take_all, drop-drop}
use Rattle.std.proofs.lemmas.List.Folds.{list_any_none, list_any_at}
use Rattle.std.proofs.lemmas.List.Splits.{slice_split_none, slice_split_first}
use Rattle.std.proofs.lemmas.List.Sums.{fails_before_first, prefix_len-le-length, prefix_len_stops}
use Rattle.subdiv_model.specs.ObjLine.{is_lf, line_end_of}
use Rattle.subdiv_model.specs.ReadTable.{spaced_words, has_line}
use Rattle.table_file.specs.Words.{is_space}
use Rattle.table_file.specs.Read.{IsLine}

pub position-le : (p : ℕ → Bool) (text : List ℕ) → position_or_len p text ≤ length text
position-le p text = prefix_len-le-length (λ b. not (p b)) text

-- a word that a space follows
pub words-at : (line word others : List ℕ) (n : ℕ) → n ≡ position_or_len is_space line → word ≡ take n line → others ≡ drop n line
    → 0 < length others → spaced_words line ≡ word ∷ spaced_words (drop 1 others)
words-at line word others n e f g some =
    let short : length others ≡ length line - n = ap length g ∙ length-drop n line in
    slice_split_first is_space line 0 (omega arith)
    ∙ ap (λ k. take k line ∷ slice_split is_space (drop (k + 1) line)) (sym e)
    ∙ ap (λ first. first ∷ slice_split is_space (drop (n + 1) line)) (sym f)
    ∙ ap (λ rest. word ∷ slice_split is_space rest) (sym (ap (drop 1) g ∙ drop-drop 1 n line))

-- the last word
pub words-end : (line word others : List ℕ) (n : ℕ) → n ≡ position_or_len is_space line → word ≡ take n line → others ≡ drop n line
    → length others ≡ 0 → spaced_words line ≡ word ∷ []
words-end line word others n e f g none =
    let short : length others ≡ length line - n = ap length g ∙ length-drop n line in
    let whole : length line ≤ n = omega arith in
    slice_split_none is_space line (λ k d l. fails_before_first is_space line k d (omega arith))
    ∙ ap (λ first. first ∷ []) (sym (f ∙ take_all n line whole))

-- bytes without LF before their end have no LF
none-in : (p : ℕ → Bool) (bytes : List ℕ) → length bytes ≤ position_or_len p bytes → list_any p bytes ≡ false
none-in p bytes h = list_any_none p bytes (λ k d l. fails_before_first p bytes k d (omega arith))

not-back : (b : Bool) → not b ≡ false → b ≡ true
not-back true h = refl
not-back false h = sym h

some-in : (p : ℕ → Bool) (bytes : List ℕ) → position_or_len p bytes < length bytes → list_any p bytes ≡ true
some-in p bytes h =
    list_any_at p bytes (position_or_len p bytes) 0 h (not-back (p (get_or bytes (position_or_len p bytes) 0)) (prefix_len_stops (λ b. not (p b)) bytes 0 h))

pub line-end-le : (bytes : List ℕ) (at : ℕ) → at ≤ length bytes → (at ≤ line_end_of bytes at) × (line_end_of bytes at ≤ length bytes)
line-end-le bytes at inside = (omega arith, omega (arith, position-le is_lf (drop at bytes), length-drop at bytes))

below : (a b : ℕ) → nat_lt a b ≡ true → a < b
below a b h = grind (arith, nat_tests)

not-below : (a b : ℕ) → nat_lt a b ≡ false → b ≤ a
not-below a b h = grind (arith, nat_tests)

pub no-line : (bytes : List ℕ) (at end : ℕ) → at ≤ length bytes → end ≡ line_end_of bytes at → nat_lt end (length bytes) ≡ false → has_line (drop at bytes) ≡ false
no-line bytes at end inside e past = none-in is_lf (drop at bytes) (omega (arith, not-below end (length bytes) past, length-drop at bytes))

pub line-found : (bytes line : List ℕ) (at end : ℕ) → at ≤ length bytes → end ≡ line_end_of bytes at → nat_lt end (length bytes) ≡ true →
    line ≡ slice_range bytes at end → IsLine bytes at line (end + 1)
line-found bytes line at end inside e closed is =
    let before : end < length bytes = below end (length bytes) closed in
    let most : position_or_len is_lf (drop at bytes) ≤ length (drop at bytes) = position-le is_lf (drop at bytes) in
    let long : length (drop at bytes) ≡ length bytes - at = length-drop at bytes in
    let within : position_or_len is_lf (drop at bytes) < length (drop at bytes) = omega arith in
    let len : end - at ≡ position_or_len is_lf (drop at bytes) = omega arith in
    record {
      closed = some-in is_lf (drop at bytes) within;
      whole = is ∙ ap (λ n. take n (drop at bytes)) len;
      behind =
          ap (λ n. drop n bytes) (omega arith)
          ∙ sym (drop-drop (position_or_len is_lf (drop at bytes) + 1) at bytes);
      inside = omega arith;
    }
