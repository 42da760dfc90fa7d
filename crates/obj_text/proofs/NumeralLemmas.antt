-- The normal form of a decimal, from its digits up to the last that is not 0, the zeros after them and its exponent.
use Rattle.std.proofs.Common.{◌≡◌, ◌≢◌, ℕ, ◌+◌, ◌-◌, ◌*◌, ◌%◌, ◌^◌, ◌<◌, ◌≤◌, ◌⊎◌, true, false, ◌&&◌, nat_lt, nat_le, List, ◌++◌, length, Option, Some, None, MatchOption, min, arith, refl, ap, sym, ◌∙◌, inl, inr, ⊎_elim}
use Rattle.std.specs.List.{fold}
use Rattle.std.proofs.lemmas.Bool.{cases_lt}
use Rattle.std.proofs.lemmas.Bool.Decides.{nat_tests}
use Rattle.std.proofs.lemmas.List.Sums.{fold-append}
use Rattle.obj_text.specs.Significant.{IsLong, with_next_digit}
use Rattle.obj_text.proofs.DecimalLemmas.{zeros-far, times-tens}
use Rattle.subdiv_model.specs.Digits.{number_of_digits}
use Rattle.subdiv_model.specs.Numeral.{whole_digits, fraction_digits, all_digits, exponent_part, exponent_amount, exponent_has_minus, tens_above, tens_below, normal_amount, is_decimal_in_range}
use Rattle.obj_laws.proofs.NumeralLemmas.{normal-tens}

abbrev BOUND : ℕ
BOUND = 10 ^ 37

outside : (m d : ℕ) → (BOUND ≤ m) ⊎ (37 < d) → nat_lt m BOUND && nat_le d 37 ≡ false
outside m d h = grind (arith, nat_tests)

inside : (m d : ℕ) → m < BOUND → d ≤ 37 → nat_lt m BOUND && nat_le d 37 ≡ true
inside m d h k = grind (arith, nat_tests)

-- a word whose normal form is known is in range or not
pub word-outside : (word : List ℕ) (m d : ℕ) → normal_amount word ≡ (m, d) → (BOUND ≤ m) ⊎ (37 < d) → is_decimal_in_range word ≡ false
word-outside word m d e h = ap (λ (f : ℕ × ℕ). nat_lt f.0 BOUND && nat_le f.1 37) e ∙ outside m d h

pub word-inside : (word : List ℕ) (m d : ℕ) → normal_amount word ≡ (m, d) → m < BOUND → d ≤ 37 → is_decimal_in_range word ≡ true
word-inside word m d e h k = ap (λ (f : ℕ × ℕ). nat_lt f.0 BOUND && nat_le f.1 37) e ∙ inside m d h k

-- the digits on both sides of the point, read one after another
pub both-sides : (word whole fraction : List ℕ) (n : ℕ) → whole ≡ whole_digits word → fraction ≡ fraction_digits word
    → n ≡ fold with_next_digit 0 whole → fold with_next_digit n fraction ≡ number_of_digits (all_digits word)
both-sides word whole fraction n e f h =
    ap (λ k. fold with_next_digit k fraction) h
    ∙ sym (fold-append with_next_digit 0 whole fraction)
    ∙ ap (λ w. fold with_next_digit 0 (w ++ fraction)) e
    ∙ ap (λ g. fold with_next_digit 0 (whole_digits word ++ g)) f

normal-word : (word : List ℕ) (a z : ℕ) → number_of_digits (all_digits word) ≡ a * 10 ^ z → a ≢ 0 → (a % 10 ≡ 0 → a ≡ 0)
    → normal_amount word ≡ (a * 10 ^ ((z + tens_above word) - tens_below word), tens_below word - (z + tens_above word))
normal-word word a z e some ends = normal-tens _ (tens_above word) (tens_below word) a z e some (λ none. some (ends none))

-- digits that are too long put the word out of range, whatever its exponent
pub long-word : (word : List ℕ) → IsLong (number_of_digits (all_digits word)) → is_decimal_in_range word ≡ false
long-word word is =
    let most : BOUND ≤ is.amount = is.long in
    let grows = times-tens is.amount ((is.zeros + tens_above word) - tens_below word) in
    word-outside word _ _ (normal-word word is.amount is.zeros is.says (λ none. absurd (omega arith)) is.ends) (inl (omega arith))

-- The kept exponent and the real one are equal, or both put the word out of range.
abbrev AreAlike : ℕ → ℕ → ℕ → ℕ → Type 0
AreAlike above below capped_above capped_below =
    ((above ≡ capped_above) × (below ≡ capped_below)) ⊎ (((37 + below ≤ above) × (37 + capped_below ≤ capped_above)) ⊎ ((37 + above < below) × (37 + capped_above < capped_below)))

abbrev pub IsFormOf : Option (ℕ × ℕ) → ℕ → ℕ → ℕ → Type 0
IsFormOf r a above below =
    MatchOption r ((BOUND ≤ a * 10 ^ (above - below)) ⊎ (37 < below - above)) (λ n. (n.0 ≡ a * 10 ^ (above - below)) × (n.1 ≡ below - above) × (n.0 < BOUND) × (n.1 ≤ 37))

abbrev pub IsReadAs : Option (ℕ × ℕ) → List ℕ → Type 0
IsReadAs r word = MatchOption r (is_decimal_in_range word ≡ false) (λ n. (is_decimal_in_range word ≡ true) × ((n.0, n.1) ≡ normal_amount word) × (n.0 < BOUND) × (n.1 ≤ 37))

form-same : (word : List ℕ) (r : Option (ℕ × ℕ)) (a above below : ℕ) → normal_amount word ≡ (a * 10 ^ (above - below), below - above)
    → IsFormOf r a above below → IsReadAs r word
form-same word None a above below e h = word-outside word _ _ e h
form-same word (Some n) a above below e h =
    let same : (n.0, n.1) ≡ normal_amount word = ap (λ k. (k, n.1)) h.0 ∙ ap (λ d. (a * 10 ^ (above - below), d)) h.1 ∙ sym e in
    (word-inside word n.0 n.1 (sym same) h.2 h.3, same, h.2, h.3)

form-far : (word : List ℕ) (r : Option (ℕ × ℕ)) (a above below : ℕ) → is_decimal_in_range word ≡ false
    → (BOUND ≤ a * 10 ^ (above - below)) ⊎ (37 < below - above) → IsFormOf r a above below → IsReadAs r word
form-far word None a above below out far h = out
form-far word (Some n) a above below out far h =
    ⊎_elim (λ (many : BOUND ≤ a * 10 ^ (above - below)). absurd (omega arith)) (λ (fine : 37 < below - above). absurd (omega arith)) far

form-alike : (word : List ℕ) (r : Option (ℕ × ℕ)) (a above below capped_above capped_below : ℕ) → a ≢ 0
    → normal_amount word ≡ (a * 10 ^ (above - below), below - above) → AreAlike above below capped_above capped_below
    → IsFormOf r a capped_above capped_below → IsReadAs r word
form-alike word r a above below capped_above capped_below some e (inl same) h =
    form-same word r a capped_above capped_below (e ∙ ap (λ n. (a * 10 ^ (n - below), below - n)) same.0 ∙ ap (λ n. (a * 10 ^ (capped_above - n), n - capped_above)) same.1) h
form-alike word r a above below capped_above capped_below some e (inr (inl far)) h =
    form-far word r a capped_above capped_below (word-outside word _ _ e (inl (zeros-far a (above - below) some (omega arith)))) (inl (zeros-far a (capped_above - capped_below) some (omega arith))) h
form-alike word r a above below capped_above capped_below some e (inr (inr far)) h =
    form-far word r a capped_above capped_below (word-outside word _ _ e (inr (omega arith))) (inr (omega arith)) h

-- An exponent kept as the greatest that is distinguished.
alike-plus : (z f e capped : ℕ) → f < 2 ^ 64 → capped ≡ min e (10 ^ 20) → AreAlike (z + e) f (z + capped) f
alike-plus z f e capped short t =
    ⊎_elim (λ (h : e < 10 ^ 20). inl (omega arith, refl)) (λ (h : 10 ^ 20 ≤ e). inr (inl (omega arith, omega arith))) (cases_lt e (10 ^ 20))

alike-minus : (z f e capped : ℕ) → z < 2 ^ 66 → capped ≡ min e (10 ^ 20) → AreAlike (z + 0) (f + e) z (f + capped)
alike-minus z f e capped short t =
    ⊎_elim (λ (h : e < 10 ^ 20). inl (omega arith, omega arith)) (λ (h : 10 ^ 20 ≤ e). inr (inr (omega arith, omega arith))) (cases_lt e (10 ^ 20))

-- The parts that were read of a word give its normal form.
pub read-plus : (word : List ℕ) (r : Option (ℕ × ℕ)) (a z f capped : ℕ) → number_of_digits (all_digits word) ≡ a * 10 ^ z → a ≢ 0
    → (a % 10 ≡ 0 → a ≡ 0) → false ≡ exponent_has_minus (exponent_part word) → f ≡ length (fraction_digits word) → f < 2 ^ 64
    → capped ≡ min (exponent_amount (exponent_part word)) (10 ^ 20) → IsFormOf r a (z + capped) f → IsReadAs r word
read-plus word r a z f capped e some ends minus g short t h =
    let above : tens_above word ≡ exponent_amount (exponent_part word) = rw (sym minus) refl in
    let below : tens_below word ≡ f = rw (sym minus) (sym g) in
    form-alike word r a (z + exponent_amount (exponent_part word)) f (z + capped) f some
    (normal-word word a z e some ends ∙ ap (λ n. (a * 10 ^ ((z + n) - tens_below word), tens_below word - (z + n))) above ∙ ap (λ n. (a * 10 ^ ((z + exponent_amount (exponent_part word)) - n), n - (z + exponent_amount (exponent_part word)))) below)
    (alike-plus z f (exponent_amount (exponent_part word)) capped short t) h

pub read-minus : (word : List ℕ) (r : Option (ℕ × ℕ)) (a z f capped : ℕ) → number_of_digits (all_digits word) ≡ a * 10 ^ z → a ≢ 0
    → (a % 10 ≡ 0 → a ≡ 0) → true ≡ exponent_has_minus (exponent_part word) → f ≡ length (fraction_digits word) → z < 2 ^ 66
    → capped ≡ min (exponent_amount (exponent_part word)) (10 ^ 20) → IsFormOf r a z (f + capped) → IsReadAs r word
read-minus word r a z f capped e some ends minus g short t h =
    let above : tens_above word ≡ 0 = rw (sym minus) refl in
    let below : tens_below word ≡ f + exponent_amount (exponent_part word) = rw (sym minus) (ap (λ n. n + exponent_amount (exponent_part word)) (sym g)) in
    form-alike word r a (z + 0) (f + exponent_amount (exponent_part word)) z (f + capped) some
    (normal-word word a z e some ends ∙ ap (λ n. (a * 10 ^ ((z + n) - tens_below word), tens_below word - (z + n))) above ∙ ap (λ n. (a * 10 ^ ((z + 0) - n), n - (z + 0))) below)
    (alike-minus z f (exponent_amount (exponent_part word)) capped short t) h
