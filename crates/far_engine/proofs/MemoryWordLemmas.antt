-- Words that are read one after another.
use Rattle.std.proofs.Common.{◌≡◌, ℕ, ◌+◌, ◌<◌, ◌≤◌, Bool, true, false, cond, nat_eq, List, [], ◌∷◌, ◌++◌, length, take, drop, position, Option, Some, None, option_map, unwrap_or, IsUtf8, arith, refl, ap, sym, ◌∙◌, append_assoc, append-nil, if◌then◌else◌}
use Rattle.std.specs.List.{All, position_or_len, slice_split, onto_first}
use Rattle.std.specs.Str.{IsValidUpTo}
use Rattle.std.specs.Str.Lossy.{utf8_valid_len}
use Rattle.std.proofs.lemmas.Bool.{ltb-false}
use Rattle.std.proofs.lemmas.Bool.Decides.{nat_tests}
use Rattle.std.proofs.lemmas.List.Elements.{All-nil, All-cons}
use Rattle.std.proofs.lemmas.List.Quantifiers.{position-Some}
use Rattle.std.proofs.lemmas.List.Splits.{slice_split_first, slice_split_none}
use Rattle.std.proofs.lemmas.List.Sums.{position_or_len_is}
use Rattle.std.proofs.lemmas.Str.{utf8_valid_len-IsUtf8}
use Rattle.far_engine.specs.MemoryWords.{is_zero, is_utf8, words_of_parts}

-- the first part ends at the first zero byte
first-part : (xs : List ℕ) (k : ℕ) → position is_zero xs ≡ Some k → slice_split is_zero xs ≡ take k xs ∷ slice_split is_zero (drop (k + 1) xs)
first-part xs k is =
    let at = position-Some is_zero xs k 0 is in
    let place = position_or_len_is is_zero xs k 0 (omega (arith, at.0)) at.2 (λ _. at.1) in
    slice_split_first is_zero xs 0 (omega (arith, at.0, place)) ∙ ap (λ n. take n xs ∷ slice_split is_zero (drop (n + 1) xs)) place

none-passes : (xs : List ℕ) → length xs ≤ position_or_len is_zero xs → All (λ x. is_zero x ≡ false) xs
none-passes [] h = All-nil (λ x. is_zero x ≡ false)
none-passes (x ∷ xs) h = by (is_zero x) refl (none-passes xs)
  where
    by : (b : Bool) → is_zero x ≡ b → (length xs ≤ position_or_len is_zero xs → All (λ y. is_zero y ≡ false) xs) → All (λ y. is_zero y ≡ false) (x ∷ xs)
    by true e rest = absurd (grind (arith, nat_tests, e, h))
    by false e rest = All-cons (λ y. is_zero y ≡ false) x xs e (rest (grind (arith, nat_tests, e, h)))

some-or : (test : Bool) (place : ℕ) → cond test (Some place) None ≡ None → test ≡ false
some-or true place e = cc
some-or false place e = refl

-- without a zero byte there is one part
one-part : (xs : List ℕ) → position is_zero xs ≡ None → slice_split is_zero xs ≡ xs ∷ []
one-part xs e = slice_split_none is_zero xs (none-passes xs (ltb-false (position_or_len is_zero xs) (length xs) (some-or _ _ e)))

-- a part comes first
next-part : (part : List ℕ) (parts : List (List ℕ)) (ok : Bool) → is_utf8 part ≡ ok → 0 < length parts →
    words_of_parts (part ∷ parts) ≡ (if ok then option_map (λ words. part ∷ words) (words_of_parts parts) else None)
next-part part [] ok e h = absurd (omega (arith, h))
next-part part (next ∷ parts) ok e h = ap (λ (b : Bool). if b then option_map (λ words. part ∷ words) (words_of_parts (next ∷ parts)) else None) e

onto-some : (x : ℕ) (parts : List (List ℕ)) → 0 < length (onto_first x parts)
onto-some x [] = omega arith
onto-some x (part ∷ parts) = omega arith

some-part : (xs : List ℕ) → 0 < length (slice_split is_zero xs)
some-part [] = omega arith
some-part (x ∷ xs) = by (is_zero x) refl
  where
    by : (b : Bool) → is_zero x ≡ b → 0 < length (slice_split is_zero (x ∷ xs))
    by true e = rw e (omega arith)
    by false e = rw e (onto-some x (slice_split is_zero xs))

-- one more word was read
one-more : (before : List (List ℕ)) (word : List ℕ) (more : Option (List (List ℕ))) →
    option_map (λ words. before ++ words) (option_map (λ words. word ∷ words) more) ≡ option_map (λ words. (before ++ (word ∷ [])) ++ words) more
one-more before word None = refl
one-more before word (Some more) = ap Some (sym (append_assoc before (word ∷ []) more))

pub reads-on : (all : Option (List (List ℕ))) (before now : List (List ℕ)) (rest word behind : List ℕ) (k : ℕ) →
    all ≡ option_map (λ more. before ++ more) (words_of_parts (slice_split is_zero rest)) → position is_zero rest ≡ Some k →
    word ≡ take k rest → behind ≡ drop (k + 1) rest → IsUtf8 word → now ≡ before ++ (word ∷ []) →
    all ≡ option_map (λ more. now ++ more) (words_of_parts (slice_split is_zero behind))
reads-on all before now rest word behind k so_far at is left text grown =
    let parts = ap words_of_parts (first-part rest k at ∙ ap (λ (w : List ℕ). w ∷ slice_split is_zero (drop (k + 1) rest)) (sym is) ∙ ap (λ (b : List ℕ). word ∷ slice_split is_zero b) (sym left)) in
    let good : is_utf8 word ≡ true = grind (arith, nat_tests, utf8_valid_len-IsUtf8 word text) in
    so_far
    ∙ ap (option_map (λ more. before ++ more)) (parts ∙ next-part word (slice_split is_zero behind) true good (some-part behind))
    ∙ one-more before word (words_of_parts (slice_split is_zero behind))
    ∙ ap (λ (ws : List (List ℕ)). option_map (λ more. ws ++ more) (words_of_parts (slice_split is_zero behind))) (sym grown)

no-text : (word : List ℕ) (n : ℕ) → IsValidUpTo word n → n ≡ utf8_valid_len word → is_utf8 word ≡ false
no-text word n valid is = grind (arith, nat_tests, valid.short, is)

-- a word that is not text
pub reads-none : (all : Option (List (List ℕ))) (before : List (List ℕ)) (rest word : List ℕ) (k n : ℕ) →
    all ≡ option_map (λ more. before ++ more) (words_of_parts (slice_split is_zero rest)) → position is_zero rest ≡ Some k →
    word ≡ take k rest → IsValidUpTo word n → n ≡ utf8_valid_len word → unwrap_or all [] ≡ []
reads-none all before rest word k n so_far at is valid len =
    let parts = ap words_of_parts (first-part rest k at ∙ ap (λ (w : List ℕ). w ∷ slice_split is_zero (drop (k + 1) rest)) (sym is)) in
    ap (λ (o : Option (List (List ℕ))). unwrap_or o []) (so_far
    ∙ ap (option_map (λ more. before ++ more)) (parts ∙ next-part word (slice_split is_zero (drop (k + 1) rest)) false (no-text word n valid len) (some-part (drop (k + 1) rest))))

-- no zero byte is left
pub reads-last : (all : Option (List (List ℕ))) (before : List (List ℕ)) (rest : List ℕ) →
    all ≡ option_map (λ more. before ++ more) (words_of_parts (slice_split is_zero rest)) → position is_zero rest ≡ None →
    unwrap_or all [] ≡ (if nat_eq (length rest) 0 then before else [])
reads-last all before rest so_far none =
    ap (λ (o : Option (List (List ℕ))). unwrap_or o []) (so_far ∙ ap (λ (parts : List (List ℕ)). option_map (λ more. before ++ more) (words_of_parts parts)) (one-part rest none)) ∙ by (nat_eq (length rest) 0)
  where
    by : (b : Bool) → unwrap_or (option_map (λ more. before ++ more) (if b then Some [] else None)) [] ≡ (if b then before else [])
    by true = append-nil before
    by false = refl
