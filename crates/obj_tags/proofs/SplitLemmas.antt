-- The part of a text before its first separator: a line of the text, or a part of a word.
use Rattle.std.proofs.Common.{◌≡◌, ℕ, ◌+◌, ◌<◌, ◌≤◌, Bool, false, nat_eq, List, [], ◌∷◌, length, arith, refl, ap, sym, ◌∙◌, ◌-◌, not, take, drop, length-drop}
use Rattle.std.specs.List.{slice_split, position_or_len}
use Rattle.std.proofs.lemmas.Bool.Decides.{nat_tests}
use Rattle.std.proofs.lemmas.List.{take_all, drop-drop}
use Rattle.std.proofs.lemmas.List.Splits.{slice_split_none, slice_split_first, length-slice_split}
use Rattle.std.proofs.lemmas.List.Sums.{fails_before_first, prefix_len-le-length, length-filter, count_by-le-length}
use Rattle.std.proofs.lemmas.List.Folds.{length-prefix_len}
use Rattle.subdiv_model.specs.ObjLine.{is_lf, is_blank, runs_of, opens_comment, line_words, lines_of}
use Rattle.subdiv_model.specs.Numeral.{is_slash}
use Rattle.subdiv_model.specs.ReadObj.{is_continued}
use Rattle.obj_tags.specs.Walk.{continued_from}
use Rattle.obj_laws.proofs.ObjLineLemmas.{lines-first}

-- a text with no separator is one piece, and nothing follows it
pub one-part : (p : ℕ → Bool) (text : List ℕ) → length text ≤ position_or_len p text → slice_split p text ≡ text ∷ []
one-part p text h = slice_split_none p text (λ k d l. fails_before_first p text k d (omega arith))

pub some-bytes : (text : List ℕ) (empty : Bool) → empty ≡ nat_eq (length text) 0 → empty ≡ false → 0 < length text
some-bytes text empty e f = grind (arith, nat_tests)

-- the first line of a text that is cut at its first LF
pub lines-at : (text prefix others : List ℕ) (n : ℕ) → n ≡ position_or_len is_lf text → prefix ≡ take n text → others ≡ drop n text
    → 0 < length text → lines_of text ≡ prefix ∷ lines_of (drop 1 others)
lines-at text prefix others n e f g some =
    lines-first text some
    ∙ ap (λ k. take k text ∷ lines_of (drop (k + 1) text)) (sym e)
    ∙ ap (λ line. line ∷ lines_of (drop (n + 1) text)) (sym f)
    ∙ ap (λ rest. prefix ∷ lines_of rest) (sym (ap (drop 1) g ∙ drop-drop 1 n text))

no-more : (others : List ℕ) → length others ≡ 0 → drop 1 others ≡ others
no-more [] h = refl
no-more (b ∷ others) h = absurd (omega arith)

pub lines-end : (text prefix others : List ℕ) (n : ℕ) → n ≡ position_or_len is_lf text → prefix ≡ take n text → others ≡ drop n text
    → 0 < length text → length others ≡ 0 → lines_of text ≡ prefix ∷ lines_of others
lines-end text prefix others n e f g some none =
    lines-at text prefix others n e f g some ∙ ap (λ rest. prefix ∷ lines_of rest) (no-more others none)

-- a word that is cut at its first slash
pub parts-at : (word prefix others : List ℕ) (n : ℕ) → n ≡ position_or_len is_slash word → prefix ≡ take n word → others ≡ drop n word
    → 0 < length others → slice_split is_slash word ≡ prefix ∷ slice_split is_slash (drop 1 others)
parts-at word prefix others n e f g some =
    let short : length others ≡ length word - n = ap length g ∙ length-drop n word in
    slice_split_first is_slash word 0 (omega arith)
    ∙ ap (λ k. take k word ∷ slice_split is_slash (drop (k + 1) word)) (sym e)
    ∙ ap (λ line. line ∷ slice_split is_slash (drop (n + 1) word)) (sym f)
    ∙ ap (λ rest. prefix ∷ slice_split is_slash rest) (sym (ap (drop 1) g ∙ drop-drop 1 n word))

-- a word with no slash
pub parts-end : (word prefix others : List ℕ) (n : ℕ) → n ≡ position_or_len is_slash word → prefix ≡ take n word → others ≡ drop n word
    → length others ≡ 0 → slice_split is_slash word ≡ prefix ∷ []
parts-end word prefix others n e f g none =
    let short : length others ≡ length word - n = ap length g ∙ length-drop n word in
    let whole : length word ≤ n = omega arith in
    one-part is_slash word (omega arith) ∙ ap (λ prefix. prefix ∷ []) (sym (f ∙ take_all n word whole))

-- a line has at most one word more than bytes
pub few-words : (line : List ℕ) → length (line_words line) ≤ length line + 1
few-words line =
    omega (
      arith,
      length-prefix_len (λ run. not (opens_comment run)) (runs_of line),
      prefix_len-le-length (λ run. not (opens_comment run)) (runs_of line),
      length-filter (λ run. not (nat_eq (length run) 0)) (slice_split is_blank line),
      count_by-le-length (λ run. not (nat_eq (length run) 0)) (slice_split is_blank line),
      length-slice_split is_blank line,
      count_by-le-length is_blank line,
    )

-- a place in a text
pub position-le : (p : ℕ → Bool) (text : List ℕ) → position_or_len p text ≤ length text
position-le p text = prefix_len-le-length (λ b. not (p b)) text

-- whether the last of all words ends with a backslash
pub continued-start : (words : List (List ℕ)) → continued_from false words ≡ is_continued words
continued-start [] = refl
continued-start (word ∷ words) = refl
