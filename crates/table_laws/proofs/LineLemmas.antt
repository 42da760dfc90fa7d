-- A line of words, each after one space, is read as these words; and a line that is read is the line of its words.
use Rattle.std.proofs.Common.{◌≡◌, ℕ, ◌+◌, ◌<◌, Bool, true, false, not, ◌&&◌, ◌||◌, nat_eq, List, [], ◌∷◌, ◌++◌, length, get_or, take, drop, refl, ap, sym, ◌∙◌, append-nil, append_assoc, true≢false, arith, eqb-true}
use Rattle.std.specs.List.{list_all, list_any, flat_map, join_with_byte, position_or_len, before_first, after_first, All, AllByRecursion}
use Rattle.std.proofs.lemmas.Bool.{and_parts, and_from, or_right}
use Rattle.std.proofs.lemmas.Bool.Decides.{nat_tests}
use Rattle.std.proofs.lemmas.List.Elements.{All-from_recursion}
use Rattle.std.proofs.lemmas.List.Folds.{list_all-append}
use Rattle.std.proofs.lemmas.List.Splits.{slice_split_none, slice_split_at, join_with_byte-slice_split}
use Rattle.std.proofs.lemmas.List.Sums.{split_at_first, passes_at_first}
use Rattle.subdiv_model.specs.Digits.{is_digit}
use Rattle.subdiv_model.specs.ObjLine.{is_lf}
use Rattle.subdiv_model.specs.ReadTable.{spaced_words, has_line, first_words, behind_line}
use Rattle.subdiv_model.specs.Text.{line_text}
use Rattle.obj_laws.proofs.PlainNumeralLemmas.{at-seam, drop-seam}
use Rattle.std.proofs.Math.Seq.{take-append_seam}

-- a byte that ends no word
abbrev pub is_word_byte : ℕ → Bool
is_word_byte b = not (nat_eq b 32) && not (is_lf b)

abbrev pub is_word : List ℕ → Bool
is_word word = list_all is_word_byte word

abbrev pub are_words : List (List ℕ) → Bool
are_words words = list_all is_word words

-- words, each after a space
abbrev pub spaced : List (List ℕ) → List ℕ
spaced words = flat_map (λ word. 32 ∷ word) words

-- digits are a word
pub digits-word : (bytes : List ℕ) → list_all is_digit bytes ≡ true → is_word bytes ≡ true
digits-word [] digits = refl
digits-word (b ∷ bytes) digits =
    let parts = and_parts (is_digit b) (list_all is_digit bytes) digits in
    and_from (is_word_byte b) (is_word bytes) (other b parts.0) (digits-word bytes parts.1)
  where
    other : (b : ℕ) → is_digit b ≡ true → is_word_byte b ≡ true
    other b is = grind (arith, nat_tests)

turned : (b : Bool) → not b ≡ true → b ≡ false
turned true h = absurd (true≢false (sym h))
turned false h = refl

unspaced : (word : List ℕ) → is_word word ≡ true → AllByRecursion (λ b. nat_eq b 32 ≡ false) word
unspaced [] is = tt
unspaced (b ∷ word) is =
    let parts = and_parts (is_word_byte b) (is_word word) is in
    (turned (nat_eq b 32) (and_parts (not (nat_eq b 32)) (not (is_lf b)) parts.0).0, unspaced word parts.1)

no-space : (word : List ℕ) → is_word word ≡ true → All (λ b. nat_eq b 32 ≡ false) word
no-space word is = All-from_recursion (λ b. nat_eq b 32 ≡ false) word (unspaced word is)

-- the words of a line
words-back : (word : List ℕ) (words : List (List ℕ)) → is_word word ≡ true → are_words words ≡ true → spaced_words (word ++ spaced words) ≡ word ∷ words
words-back word [] is others = ap spaced_words (append-nil word) ∙ slice_split_none (λ b. nat_eq b 32) word (no-space word is)
words-back word (next ∷ words) is others =
    let parts = and_parts (is_word next) (are_words words) others in
    slice_split_at (λ b. nat_eq b 32) word 32 (next ++ spaced words) (no-space word is) refl
    ∙ ap (λ runs. word ∷ runs) (words-back next words parts.0 parts.1)

-- no word has LF
abbrev lacks_lf : List ℕ → Bool
lacks_lf bytes = list_all (λ b. not (is_lf b)) bytes

word-lf : (word : List ℕ) → is_word word ≡ true → lacks_lf word ≡ true
word-lf [] is = refl
word-lf (b ∷ word) is =
    let parts = and_parts (is_word_byte b) (is_word word) is in
    and_from (not (is_lf b)) (lacks_lf word) (and_parts (not (nat_eq b 32)) (not (is_lf b)) parts.0).1 (word-lf word parts.1)

spaced-lf : (words : List (List ℕ)) → are_words words ≡ true → lacks_lf (spaced words) ≡ true
spaced-lf [] are = refl
spaced-lf (word ∷ words) are =
    let parts = and_parts (is_word word) (are_words words) are in
    list_all-append (λ b. not (is_lf b)) word (spaced words) ∙ and_from (lacks_lf word) (lacks_lf (spaced words)) (word-lf word parts.0) (spaced-lf words parts.1)

-- the words and the rest of bytes that begin with a line
pub record IsFirstLine (bytes : List ℕ) (words : List (List ℕ)) (rest : List ℕ) : Type 0 where
  pub closed : has_line bytes ≡ true
  pub words_read : first_words bytes ≡ words
  pub behind : behind_line bytes ≡ rest

any-at : (line rest : List ℕ) → list_any is_lf (line ++ 10 ∷ rest) ≡ true
any-at [] rest = refl
any-at (b ∷ line) rest = or_right (is_lf b) (list_any is_lf (line ++ 10 ∷ rest)) (any-at line rest)

cut-line : (line rest : List ℕ) → lacks_lf line ≡ true → IsFirstLine (line ++ 10 ∷ rest) (spaced_words line) rest
cut-line line rest none =
    let at : position_or_len is_lf (line ++ 10 ∷ rest) ≡ length line = at-seam is_lf line 10 rest none refl in
    record {
      closed = any-at line rest;
      words_read = ap spaced_words (ap (λ n. take n (line ++ 10 ∷ rest)) at ∙ take-append_seam line (10 ∷ rest));
      behind = ap (λ n. drop (n + 1) (line ++ 10 ∷ rest)) at ∙ drop-seam line 10 rest;
    }

-- the text of a line is its words with their spaces, and LF
line-body : (word : List ℕ) (words : List (List ℕ)) (rest : List ℕ) → line_text word words ++ rest ≡ (word ++ spaced words) ++ 10 ∷ rest
line-body word words rest =
    ap (λ text. text ++ rest) (sym (append_assoc word (spaced words) (10 ∷ []))) ∙ append_assoc (word ++ spaced words) (10 ∷ []) rest

pub line-read : (word : List ℕ) (words : List (List ℕ)) (rest : List ℕ) → is_word word ≡ true → are_words words ≡ true
    → IsFirstLine (line_text word words ++ rest) (word ∷ words) rest
line-read word words rest is are =
    let none = list_all-append (λ b. not (is_lf b)) word (spaced words) ∙ and_from (lacks_lf word) (lacks_lf (spaced words)) (word-lf word is) (spaced-lf words are) in
    let cut = cut-line (word ++ spaced words) rest none in
    let text = line-body word words rest in
    record {
      closed = ap has_line text ∙ cut.closed;
      words_read = ap first_words text ∙ cut.words_read ∙ words-back word words is are;
      behind = ap behind_line text ∙ cut.behind;
    }

-- bytes with LF are their first line, LF, and the bytes after it
found-at : (bytes : List ℕ) → has_line bytes ≡ true → position_or_len is_lf bytes < length bytes
found-at [] some = absurd (true≢false (sym some))
found-at (b ∷ bytes) some = here (is_lf b) refl some (found-at bytes)
  where
    here : (t : Bool) → is_lf b ≡ t → t || has_line bytes ≡ true → (has_line bytes ≡ true → position_or_len is_lf bytes < length bytes)
        → position_or_len is_lf (b ∷ bytes) < length (b ∷ bytes)
    here true e h more = rw e (omega arith)
    here false e h more = let rest = more h in rw e (omega (arith, rest))

cut-bytes : (bytes : List ℕ) → has_line bytes ≡ true → bytes ≡ before_first is_lf bytes ++ 10 ∷ after_first is_lf bytes
cut-bytes bytes some =
    let inside = found-at bytes some in
    let at = get_or bytes (position_or_len is_lf bytes) 0 in
    split_at_first is_lf bytes 0 inside
    ∙ ap (λ b. before_first is_lf bytes ++ b ∷ after_first is_lf bytes) (eqb-true at 10 (passes_at_first is_lf bytes 0 inside))

-- words that spaces join
joined : (word : List ℕ) (words : List (List ℕ)) → join_with_byte 32 (word ∷ words) ≡ word ++ spaced words
joined word [] = sym (append-nil word)
joined word (next ∷ words) = ap (λ text. word ++ 32 ∷ text) (joined next words)

-- bytes that begin with a line are the text of its words, and the bytes after it
pub line-again : (bytes word : List ℕ) (words : List (List ℕ)) → has_line bytes ≡ true → first_words bytes ≡ word ∷ words
    → bytes ≡ line_text word words ++ behind_line bytes
line-again bytes word words some read =
    let line = before_first is_lf bytes in
    let again : line ≡ word ++ spaced words = sym (join_with_byte-slice_split 32 line) ∙ ap (join_with_byte 32) read ∙ joined word words in
    cut-bytes bytes some ∙ ap (λ first. first ++ 10 ∷ behind_line bytes) again ∙ sym (line-body word words (behind_line bytes))
