-- Words whose form shows that they change no common denominator.
use Rattle.std.proofs.Common.{◌≡◌, ℕ, ◌+◌, ◌*◌, ◌/◌, ◌%◌, ◌^◌, ◌<◌, ◌≤◌, Bool, true, false, nat_eq, List, [], ◌∷◌, ◌++◌, length, take, drop, append-nil, arith, lit<, refl, ap, sym, subst, ◌∙◌, inl, inr, if◌then◌else◌}
use Rattle.std.specs.Prelude.{is_some, is_none}
use Rattle.std.specs.Int.{◌∣◌}
use Rattle.std.specs.List.{list_all}
use Rattle.std.proofs.lemmas.Bool.{eq-eqb}
use Rattle.std.proofs.lemmas.List.{take-append-drop, take_all}
use Rattle.std.proofs.lemmas.Nat.{div-add-mod'}
use Rattle.std.proofs.lemmas.Nat.Gcd.{dvd_of_mod-eq-zero, mod-eq-zero_of_dvd}
use Rattle.std.proofs.Math.Nat.{dvd-add, dvd-mul_left, dvd-mul_right_of_dvd, mod-lt, one-le-pow, mul-le-mul_right}
use Rattle.subdiv_model.specs.Digits.{is_digit, number_of_digits}
use Rattle.subdiv_model.specs.Numeral.{without_sign}
use Rattle.subdiv_model.specs.ObjWord.{numeral_fault}
use Rattle.subdiv_model.specs.ReadObj.{denominator_of}
use Rattle.obj_laws.proofs.NumeralTermsLemmas.{terms-positive}
use Rattle.obj_laws.proofs.RangeLemmas.{grows}
use Rattle.obj_laws.proofs.PlainNumeralLemmas.{whole-over, point-over}
use Rattle.obj_tags.specs.Plain.{HasDecimals, IsWholeOver}
use Rattle.obj_tags.specs.Survey.{with_word}
use Rattle.obj_tags.specs.declared.survey.Common.{Common}
use Rattle.obj_tags.proofs.DenominatorLemmas.{stays-same}

-- The first digits, and the bytes after them.
parted : (word unsigned rest : List ℕ) (n : ℕ) → unsigned ≡ without_sign word → rest ≡ drop n unsigned → without_sign word ≡ take n unsigned ++ rest
parted word unsigned rest n e f = sym e ∙ sym (take-append-drop n unsigned) ∙ ap (λ r. take n unsigned ++ r) (sym f)

-- nothing follows them
pub word-whole : (word unsigned rest : List ℕ) (n : ℕ) → unsigned ≡ without_sign word → rest ≡ drop n unsigned
    → list_all is_digit (take n unsigned) ≡ true → length rest ≡ 0 → HasDecimals word rest
word-whole word unsigned [] n e f digits none =
    (refl, λ common over. whole-over word (take n unsigned) common (parted word unsigned [] n e f ∙ append-nil (take n unsigned)) digits)
word-whole word unsigned (b ∷ rest) n e f digits none = absurd (omega arith)

-- a point and digits follow them
pub word-point : (word unsigned rest fraction : List ℕ) (n k : ℕ) → unsigned ≡ without_sign word → rest ≡ drop n unsigned
    → list_all is_digit (take n unsigned) ≡ true → rest ≡ 46 ∷ fraction → list_all is_digit (take k fraction) ≡ true
    → length fraction ≤ k → HasDecimals word fraction
word-point word unsigned rest fraction n k e f digits point more all =
    let whole : without_sign word ≡ take n unsigned ++ 46 ∷ fraction = parted word unsigned rest n e f ∙ ap (λ r. take n unsigned ++ r) point in
    let are : list_all is_digit fraction ≡ true = ap (list_all is_digit) (sym (take_all k fraction all)) ∙ more in
    (are, λ common over. point-over word (take n unsigned) fraction common whole digits are over)

-- The remainder by the power of ten decides.
pub whole-none : (digits : List ℕ) (common tens rest : ℕ) → tens ≡ 10 ^ length digits → rest ≡ common % tens → rest ≡ 0
    → IsWholeOver digits common
whole-none digits common tens rest e f none =
    let divides : tens ∣ common = dvd_of_mod-eq-zero tens (sym f ∙ none) in
    subst (λ t. t ∣ common * number_of_digits digits) e (dvd-mul_right_of_dvd tens divides (number_of_digits digits))

pub whole-rest : (digits : List ℕ) (common tens rest number : ℕ) → tens ≡ 10 ^ length digits → rest ≡ common % tens
    → number ≡ number_of_digits digits → rest * number % tens ≡ 0 → IsWholeOver digits common
whole-rest digits common tens rest number e f g none =
    let q = common / tens in
    let split : common ≡ q * tens + rest = sym (div-add-mod' common tens) ∙ ap (λ r. q * tens + r) (sym f) in
    let product : common * number ≡ q * number * tens + rest * number = ap (λ c. c * number) split ∙ spread q tens rest number in
    let whole : tens ∣ q * number * tens + rest * number = dvd-add tens (dvd-mul_left tens (q * number)) (dvd_of_mod-eq-zero tens none) in
    subst (λ t. t ∣ common * number_of_digits digits) e (subst (λ n. tens ∣ common * n) g (subst (λ n. tens ∣ n) (sym product) whole))
  where
    spread : (q t r n : ℕ) → (q * t + r) * n ≡ q * n * t + r * n
    spread q t r n = omega arith

-- a word changes nothing where the channel is too wide, and where the word's denominator divides the common one
unchanged : (b : Bool) (common next : Common) → common ≡ next → common ≡ (if b then next else common)
unchanged true common next e = e
unchanged false common next e = refl

pub word-wide : (number : ℕ) (common : Common) (word : List ℕ) → common.value ≤ 10 ^ 37 → is_some common.wide ≡ true
    → common ≡ with_word number common word
word-wide number common word short wide =
    unchanged (is_none (numeral_fault word)) common _ (stays-same number common (denominator_of word) (terms-positive word) short (inl wide))

pub word-over : (number : ℕ) (common : Common) (word : List ℕ) → common.value ≤ 10 ^ 37 → denominator_of word ∣ common.value
    → common ≡ with_word number common word
word-over number common word short divides =
    let none : nat_eq (common.value % denominator_of word) 0 ≡ true = eq-eqb (common.value % denominator_of word) 0 (mod-eq-zero_of_dvd (denominator_of word) divides) in
    unchanged (is_none (numeral_fault word)) common _ (stays-same number common (denominator_of word) (terms-positive word) short (inr none))

-- Powers of ten, and the remainder by a small one times a small number.
pub tens-some : (tens k : ℕ) → tens ≡ 10 ^ k → 0 < tens
tens-some t k e = let one : 1 ≤ 10 ^ k = one-le-pow k 10 (lit< tt) in omega (arith, e)

pub product-fits : (common tens rest number k : ℕ) → tens ≡ 10 ^ k → k ≤ 9 → rest ≡ common % tens → number < 10 ^ 9 → rest * number < 2 ^ 64
product-fits common t rest number k e few f short =
    let most : 10 ^ k ≤ 10 ^ 9 = grows k 9 few in
    let less : common % t < t = mod-lt common (tens-some t k e) in
    let small : rest ≤ 10 ^ 9 = omega (arith, e, f) in
    let times : rest * number ≤ 10 ^ 9 * number = mul-le-mul_right number small in
    omega arith
