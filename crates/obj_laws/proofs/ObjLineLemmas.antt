-- Lines of OBJ text for a reader: the first line of a text, the keyword of a line, and the counts of one more line.
use Rattle.std.proofs.Common.{◌≡◌, ℕ, suc, ◌+◌, ◌<◌, ◌≤◌, Bool, true, cond, List, [], ◌∷◌, ◌++◌, length, take, drop, arith, refl, ap, sym, true≢false, ◌∙◌, ⊎_elim}
use Rattle.std.specs.List.{slice_split, position_or_len, before_first, after_first, count_by}
use Rattle.std.specs.Cmp.Lexicographic.{same_text}
use Rattle.std.proofs.lemmas.Bool.{cases_lt, cond_both, cond-true, cond-false}
use Rattle.std.proofs.lemmas.Bool.Decides.{nat_tests}
use Rattle.std.proofs.lemmas.List.{take_all, drop_all}
use Rattle.std.proofs.lemmas.List.Splits.{slice_split_none, slice_split_first, length-slice_split}
use Rattle.std.proofs.lemmas.List.Sums.{fails_before_first, sum_by-take-le}
use Rattle.subdiv_model.specs.Lists.{places, places_from}
use Rattle.subdiv_model.specs.ObjLine.{closed_lines, lines_of, begins_with, is_lf}
use Rattle.number_laws.proofs.ListLemmas.{places-from-length}

-- a text without line end is one part, and nothing follows it
one-part : (text : List ℕ) → length text ≤ position_or_len is_lf text → slice_split is_lf text ≡ text ∷ []
one-part text h = slice_split_none is_lf text (λ k d l. fails_before_first is_lf text k d (omega arith))

closed-cons : (line : List ℕ) (parts : List (List ℕ)) → 0 < length parts → closed_lines (line ∷ parts) ≡ line ∷ closed_lines parts
closed-cons line [] h = absurd (omega arith)
closed-cons line (part ∷ parts) h = refl

closed-one : (line : List ℕ) → 0 < length line → closed_lines (line ∷ []) ≡ line ∷ []
closed-one line h = grind (arith, nat_tests)

lines-cut : (text : List ℕ) → position_or_len is_lf text < length text
    → lines_of text ≡ before_first is_lf text ∷ lines_of (after_first is_lf text)
lines-cut text h =
    ap closed_lines (slice_split_first is_lf text 0 h)
    ∙ closed-cons (before_first is_lf text) (slice_split is_lf (after_first is_lf text)) (omega (arith, length-slice_split is_lf (after_first is_lf text)))

lines-whole : (text : List ℕ) → 0 < length text → length text ≤ position_or_len is_lf text
    → lines_of text ≡ before_first is_lf text ∷ lines_of (after_first is_lf text)
lines-whole text some h =
    let whole : before_first is_lf text ≡ text = take_all (position_or_len is_lf text) text h in
    let rest : after_first is_lf text ≡ [] = drop_all (position_or_len is_lf text + 1) text (omega arith) in
    ap closed_lines (one-part text h)
    ∙ closed-one text some
    ∙ sym (ap (λ line. line ∷ lines_of (after_first is_lf text)) whole ∙ ap (λ more. text ∷ lines_of more) rest)

-- the first line of a text, and the rest
pub lines-first : (text : List ℕ) → 0 < length text → lines_of text ≡ before_first is_lf text ∷ lines_of (after_first is_lf text)
lines-first text some =
    ⊎_elim (λ h. lines-cut text h) (λ h. lines-whole text some h) (cases_lt (position_or_len is_lf text) (length text))

-- a line that begins with a keyword is the keyword and the words after it
pub keyword-first : (keyword : List ℕ) (words : List (List ℕ)) → begins_with keyword words ≡ true → words ≡ keyword ∷ drop 1 words
keyword-first keyword [] h = absurd (true≢false (sym h))
keyword-first keyword (word ∷ words) h = ap (λ w. w ∷ words) (same_text word keyword (sym h))

-- the lines before have no more of a kind than all lines
pub count-before : {X : Type 0} (kind : X → Bool) (xs : List X) (i : ℕ) → count_by kind (take i xs) ≤ count_by kind xs
count-before kind xs i = sum_by-take-le (λ x. cond (kind x) 1 0) xs i

-- the places of one more, or none
abbrev last-place : Bool → ℕ → List ℕ
last-place passes place = cond passes (place ∷ []) []

places-from-more : {X : Type 0} (test : X → Bool) (place : ℕ) (xs : List X) (x : X)
    → places_from place test (xs ++ x ∷ []) ≡ places_from place test xs ++ last-place (test x) (place + length xs)
places-from-more test place [] x = let e : place ≡ place + 0 = omega arith in ap (last-place (test x)) e
places-from-more test place (y ∷ xs) x =
    let e : place + 1 + length xs ≡ place + suc (length xs) = omega arith in
    let last = last-place (test x) (place + suc (length xs)) in
    let rest : places_from (place + 1) test (xs ++ x ∷ []) ≡ places_from (place + 1) test xs ++ last =
    places-from-more test (place + 1) xs x ∙ ap (λ n. places_from (place + 1) test xs ++ last-place (test x) n) e in
    cond_both (test y) (place ∷ places_from (place + 1) test (xs ++ x ∷ [])) (places_from (place + 1) test (xs ++ x ∷ [])) (λ ps. ps ≡ places_from place test (y ∷ xs) ++ last)
    (λ yes. ap (λ ps. place ∷ ps) rest ∙ sym (ap (λ ps. ps ++ last) (cond-true (test y) (place ∷ places_from (place + 1) test xs) (places_from (place + 1) test xs) yes)))
    (λ no. rest ∙ sym (ap (λ ps. ps ++ last) (cond-false (test y) (place ∷ places_from (place + 1) test xs) (places_from (place + 1) test xs) no)))

-- one more line adds its place, or none
pub places-more : {X : Type 0} (test : X → Bool) (xs : List X) (x : X)
    → places test (xs ++ x ∷ []) ≡ places test xs ++ cond (test x) (length xs ∷ []) []
places-more test xs x =
    let e : 0 + length xs ≡ length xs = omega arith in
    places-from-more test 0 xs x ∙ ap (λ n. places test xs ++ last-place (test x) n) e

pub places-length : {X : Type 0} (test : X → Bool) (xs : List X) → length (places test xs) ≡ count_by test xs
places-length test xs = places-from-length test 0 xs
