-- Plain lines are read back from their text.
use Rattle.std.proofs.Common.{◌≡◌, ℕ, ◌+◌, ◌<◌, Bool, true, false, not, ◌||◌, nat_eq, List, [], ◌∷◌, ◌++◌, length, map, take, drop, bytes_eq, arith, refl, ap, sym, ◌∙◌, append-nil, append_assoc, true≢false}
use Rattle.std.specs.List.{list_all, flat_map, filter, slice_split, position_or_len, take_while, All, AllByRecursion}
use Rattle.std.proofs.lemmas.Bool.{and_parts, and_from, and_right, cond-true, cond-false, leb-true}
use Rattle.std.proofs.lemmas.Bool.Decides.{nat_tests}
use Rattle.std.proofs.lemmas.Grind.{flat_map-append}
use Rattle.std.proofs.lemmas.List.{map-append, length-append}
use Rattle.std.proofs.lemmas.List.Folds.{list_all-append}
use Rattle.std.proofs.lemmas.List.Elements.{All-from_recursion}
use Rattle.std.proofs.lemmas.List.Splits.{slice_split_none, slice_split_at}
use Rattle.std.proofs.lemmas.List.Sums.{take_while-cons}
use Rattle.std.proofs.Math.Seq.{take-append_seam}
use Rattle.subdiv_model.specs.ObjLine.{is_lf, is_blank, lines_of, opens_comment, line_words}
use Rattle.subdiv_model.specs.ReadObj.{byte_order_mark, without_mark, obj_lines}
use Rattle.subdiv_model.specs.Text.{line_text}
use Rattle.number_laws.proofs.CountLemmas.{all-weaker}
use Rattle.obj_laws.proofs.ObjLineLemmas.{lines-first}
use Rattle.obj_laws.proofs.PlainNumeralLemmas.{lacks, at-seam, drop-seam}
use Rattle.text_laws.proofs.ListLemmas.{filter-all}
use Rattle.text_laws.specs.Laws.{Line, ends_word, is_plain_word, is_plain_line, text_of, words_of}

-- what a plain word lacks
pub record IsPlain (word : List ℕ) : Type 0 where
  pub some : 0 < length word
  pub blanks : lacks is_blank word ≡ true
  pub lf : lacks is_lf word ≡ true
  pub comment : not (opens_comment word) ≡ true

pub plain-word : (word : List ℕ) → is_plain_word word ≡ true → IsPlain word
plain-word word plain =
    let outer = and_parts _ (not (opens_comment word)) plain in
    let inner = and_parts _ (lacks ends_word word) outer.0 in
    record {
      some = leb-true 1 (length word) inner.0;
      blanks = all-weaker (λ b. not (ends_word b)) (λ b. not (is_blank b)) (λ b h. first (is_blank b) (is_lf b) h) word inner.1;
      lf = all-weaker (λ b. not (ends_word b)) (λ b. not (is_lf b)) (λ b h. second (is_blank b) (is_lf b) h) word inner.1;
      comment = outer.1;
    }
  where
    first : (a b : Bool) → not (a || b) ≡ true → not a ≡ true
    first true b h = h
    first false b h = refl

    second : (a b : Bool) → not (a || b) ≡ true → not b ≡ true
    second true b h = absurd (true≢false (sym h))
    second false b h = h

none-of : {X : Type 0} (p : X → Bool) (xs : List X) → list_all (λ x. not (p x)) xs ≡ true → AllByRecursion (λ x. p x ≡ false) xs
none-of p [] h = tt
none-of p (x ∷ xs) h = let parts = and_parts (not (p x)) (list_all (λ y. not (p y)) xs) h in (turned (p x) parts.0, none-of p xs parts.1)
  where
    turned : (b : Bool) → not b ≡ true → b ≡ false
    turned true h = absurd (true≢false (sym h))
    turned false h = refl

pub lacks-all : (p : ℕ → Bool) (bytes : List ℕ) → lacks p bytes ≡ true → All (λ b. p b ≡ false) bytes
lacks-all p bytes none = All-from_recursion (λ b. p b ≡ false) bytes (none-of p bytes none)

-- what passes everywhere is taken whole
taken-all : {X : Type 0} (test : X → Bool) (xs : List X) → list_all test xs ≡ true → take_while test xs ≡ xs
taken-all test [] all = refl
taken-all test (x ∷ xs) all =
    let parts = and_parts (test x) (list_all test xs) all in
    take_while-cons test x xs ∙ cond-true (test x) _ _ parts.0 ∙ ap (λ ys. x ∷ ys) (taken-all test xs parts.1)

-- words, each after a space
abbrev spaced : List (List ℕ) → List ℕ
spaced words = flat_map (λ word. 32 ∷ word) words

-- a line without the LF that ends it
abbrev body : Line → List ℕ
body line = line.0 ++ spaced line.1

-- plain words are the runs of their line
runs-back : (word : List ℕ) (words : List (List ℕ)) → is_plain_word word ≡ true → list_all is_plain_word words ≡ true
    → slice_split is_blank (word ++ spaced words) ≡ word ∷ words
runs-back word [] plain others =
    ap (slice_split is_blank) (append-nil word) ∙ slice_split_none is_blank word (lacks-all is_blank word (plain-word word plain).blanks)
runs-back word (next ∷ words) plain others =
    let parts = and_parts (is_plain_word next) (list_all is_plain_word words) others in
    slice_split_at is_blank word 32 (next ++ spaced words) (lacks-all is_blank word (plain-word word plain).blanks) refl
    ∙ ap (λ runs. word ∷ runs) (runs-back next words parts.0 parts.1)

-- the words of a line are read back
pub words-back : (words : List (List ℕ)) (line : List ℕ) → list_all is_plain_word words ≡ true → slice_split is_blank line ≡ words → line_words line ≡ words
words-back words line plain runs =
    let some = all-weaker is_plain_word (λ run. not (nat_eq (length run) 0)) (λ run h. long (length run) (plain-word run h).some) words plain in
    let uncommented = all-weaker is_plain_word (λ run. not (opens_comment run)) (λ run h. (plain-word run h).comment) words plain in
    ap (λ parts. take_while (λ run. not (opens_comment run)) (filter (λ run. not (nat_eq (length run) 0)) parts)) runs
    ∙ ap (take_while (λ run. not (opens_comment run))) (filter-all (λ run. not (nat_eq (length run) 0)) words some)
    ∙ taken-all (λ run. not (opens_comment run)) words uncommented
  where
    long : (n : ℕ) → 0 < n → not (nat_eq n 0) ≡ true
    long n h = grind (arith, nat_tests)

-- no word of a line has LF
spaced-lf : (words : List (List ℕ)) → list_all is_plain_word words ≡ true → lacks is_lf (spaced words) ≡ true
spaced-lf [] plain = refl
spaced-lf (word ∷ words) plain =
    let parts = and_parts (is_plain_word word) (list_all is_plain_word words) plain in
    list_all-append (λ b. not (is_lf b)) word (spaced words) ∙ and_from _ _ (plain-word word parts.0).lf (spaced-lf words parts.1)

-- the first line of a text that LF ends
line-first : (line rest : List ℕ) → lacks is_lf line ≡ true → lines_of (line ++ 10 ∷ rest) ≡ line ∷ lines_of rest
line-first line rest none =
    let at : position_or_len is_lf (line ++ 10 ∷ rest) ≡ length line = at-seam is_lf line 10 rest none refl in
    lines-first (line ++ 10 ∷ rest) (omega (arith, length-append line (10 ∷ rest)))
    ∙ ap (λ n. take n (line ++ 10 ∷ rest) ∷ lines_of (drop (n + 1) (line ++ 10 ∷ rest))) at
    ∙ ap (λ first. first ∷ lines_of (drop (length line + 1) (line ++ 10 ∷ rest))) (take-append_seam line (10 ∷ rest))
    ∙ ap (λ others. line ∷ lines_of others) (drop-seam line 10 rest)

-- a plain line
record IsPlainLine (line : Line) : Type 0 where
  keyword : is_plain_word line.0 ≡ true
  mark : not (bytes_eq (take 3 line.0) byte_order_mark) ≡ true
  words : list_all is_plain_word line.1 ≡ true

plain-line : (line : Line) → is_plain_line line ≡ true → IsPlainLine line
plain-line line plain =
    let outer = and_parts _ (list_all is_plain_word line.1) plain in
    let inner = and_parts (is_plain_word line.0) _ outer.0 in
    record { keyword = inner.0; mark = inner.1; words = outer.1 }

-- the text of a line is its body and LF
line-body : (line : Line) (rest : List ℕ) → line_text line.0 line.1 ++ rest ≡ body line ++ 10 ∷ rest
line-body line rest =
    ap (λ text. text ++ rest) (sym (append_assoc line.0 (spaced line.1) (10 ∷ []))) ∙ append_assoc (body line) (10 ∷ []) rest

body-lf : (line : Line) → IsPlainLine line → lacks is_lf (body line) ≡ true
body-lf line is =
    list_all-append (λ b. not (is_lf b)) line.0 (spaced line.1) ∙ and_from _ _ (plain-word line.0 is.keyword).lf (spaced-lf line.1 is.words)

body-words : (line : Line) → IsPlainLine line → line_words (body line) ≡ words_of line
body-words line is = words-back (words_of line) (body line) (and_from _ _ is.keyword is.words) (runs-back line.0 line.1 is.keyword is.words)

-- the words of the lines of a text
text-words : (lines : List Line) → list_all is_plain_line lines ≡ true → map line_words (lines_of (text_of lines)) ≡ map words_of lines
text-words [] plain = refl
text-words (line ∷ lines) plain =
    let parts = and_parts (is_plain_line line) (list_all is_plain_line lines) plain in
    let is = plain-line line parts.0 in
    ap (λ text. map line_words (lines_of text)) (line-body line (text_of lines))
    ∙ ap (map line_words) (line-first (body line) (text_of lines) (body-lf line is))
    ∙ ap (λ words. words ∷ map line_words (lines_of (text_of lines))) (body-words line is)
    ∙ ap (λ words. words_of line ∷ words) (text-words lines parts.1)

-- no byte order mark begins with a keyword that does not, and is no part of a line's beginning
unmarked : (keyword : List ℕ) (b : ℕ) (rest : List ℕ) → 0 < length keyword → not (bytes_eq (take 3 keyword) byte_order_mark) ≡ true
    → nat_eq b 187 ≡ false → nat_eq b 191 ≡ false → bytes_eq (take 3 (keyword ++ b ∷ rest)) byte_order_mark ≡ false
unmarked [] b rest some mark second third = absurd (omega arith)
unmarked (x ∷ []) b rest some mark second third = rw second (and_right (nat_eq x 239) false refl)
unmarked (x ∷ y ∷ []) b rest some mark second third = rw third rw (and_right (nat_eq y 187) false refl) (and_right (nat_eq x 239) false refl)
unmarked (x ∷ y ∷ z ∷ keyword) b rest some mark second third = turned (bytes_eq (x ∷ y ∷ z ∷ []) byte_order_mark) mark
  where
    turned : (b : Bool) → not b ≡ true → b ≡ false
    turned true h = absurd (true≢false (sym h))
    turned false h = refl

first-unmarked : (keyword : List ℕ) (words : List (List ℕ)) (rest : List ℕ) → 0 < length keyword
    → not (bytes_eq (take 3 keyword) byte_order_mark) ≡ true
    → bytes_eq (take 3 (keyword ++ (spaced words ++ 10 ∷ rest))) byte_order_mark ≡ false
first-unmarked keyword [] rest some mark = unmarked keyword 10 rest some mark refl refl
first-unmarked keyword (word ∷ words) rest some mark = unmarked keyword 32 ((word ++ spaced words) ++ 10 ∷ rest) some mark refl refl

text-unmarked : (lines : List Line) → list_all is_plain_line lines ≡ true → without_mark (text_of lines) ≡ text_of lines
text-unmarked [] plain = refl
text-unmarked (line ∷ lines) plain =
    let is = plain-line line (and_parts (is_plain_line line) (list_all is_plain_line lines) plain).0 in
    let text : text_of (line ∷ lines) ≡ line.0 ++ (spaced line.1 ++ 10 ∷ text_of lines) =
    line-body line (text_of lines) ∙ append_assoc line.0 (spaced line.1) (10 ∷ text_of lines) in
    cond-false _ _ _
    (ap (λ bytes. bytes_eq (take 3 bytes) byte_order_mark) text
    ∙ first-unmarked line.0 line.1 (text_of lines) (plain-word line.0 is.keyword).some is.mark)

-- a text of plain lines is read back
pub lines-back : (lines : List Line) → list_all is_plain_line lines ≡ true → obj_lines (text_of lines) ≡ map words_of lines
lines-back lines plain = ap (λ text. map line_words (lines_of text)) (text-unmarked lines plain) ∙ text-words lines plain

-- the text of two lists of lines is the two texts one after another
pub both-texts : (first second : List Line) → text_of (first ++ second) ≡ text_of first ++ text_of second
both-texts first second = flat_map-append (λ line. line_text line.0 line.1) first second

pub both-back : (first second : List Line) → list_all is_plain_line first ≡ true → list_all is_plain_line second ≡ true
    → obj_lines (text_of first ++ text_of second) ≡ map words_of first ++ map words_of second
both-back first second one other =
    ap obj_lines (sym (both-texts first second))
    ∙ lines-back (first ++ second) (list_all-append is_plain_line first second ∙ and_from _ _ one other)
    ∙ map-append words_of first second
