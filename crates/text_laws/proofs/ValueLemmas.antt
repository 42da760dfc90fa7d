-- A value is read back from its text in lowest terms, and over each common denominator that these divide.
use Rattle.std.proofs.Common.{◌≡◌, ℕ, ℤ, pos, negsuc, ◌*◌, ◌/◌, ◌<◌, ◌*ℤ◌, unsigned_abs, true, refl, ap, sym, ◌∙◌}
use Rattle.std.specs.Int.{◌∣◌}
use Rattle.std.proofs.Math.IntN.{*ℤ_comm}
use Rattle.std.proofs.Math.Nat.{div-mul_cancel}
use Rattle.subdiv_model.specs.Digits.{has_minus}
use Rattle.subdiv_model.specs.Numeral.{signed, is_numeral, numeral_amount, numeral_form, terms_value}
use Rattle.subdiv_model.specs.NumberText.{value_text}
use Rattle.subdiv_model.specs.Value.{Value, IsSameValue}
use Rattle.number_laws.proofs.CoprimeLemmas.{lowest-stays}
use Rattle.number_laws.proofs.DivisorLemmas.{lowest-fraction, lowest-coprime}
use Rattle.number_laws.proofs.WholeNumberLemmas.{pos-assoc, pos-swap}
use Rattle.obj_laws.proofs.NumeralValueLemmas.{signed-times}
use Rattle.obj_laws.proofs.NumeralTextLemmas.{is_below, signed-back}
use Rattle.obj_laws.proofs.NumeralTermsLemmas.{lowest-den-positive}
use Rattle.text_laws.specs.Laws.{with_sign_of, lowest_amount, lowest_terms, read_over}
use Rattle.text_laws.proofs.RatioLemmas.{IsRatio, ratio-back, sign-back}

signed-of : (z : ℤ) (n : ℕ) → signed (is_below z) n ≡ with_sign_of z n
signed-of (pos m) n = refl
signed-of (negsuc m) n = refl

pub value-ratio : (value : Value) → 0 < value.den → IsRatio (value_text value) (lowest_amount value).0 (lowest_amount value).1
value-ratio value positive =
    let low = lowest_amount value in
    ratio-back (value_text value) low.0 low.1 (lowest-den-positive (unsigned_abs value.num) value.den positive) (sign-back value.num low.0 low.1).0

-- the text of a value is a numeral with its lowest terms
pub value-numeral : (value : Value) → 0 < value.den → is_numeral (value_text value) ≡ true
value-numeral value positive = (value-ratio value positive).numeral

pub value-back : (value : Value) → 0 < value.den → numeral_form (value_text value) ≡ lowest_terms value
value-back value positive =
    let low = lowest_amount value in
    let amount : numeral_amount (value_text value) ≡ low =
    (value-ratio value positive).amount ∙ lowest-stays low.0 low.1 (lowest-coprime (unsigned_abs value.num) value.den positive) in
    ap (λ (terms : ℕ × ℕ). (signed (has_minus (value_text value)) terms.0, terms.1)) amount
    ∙ ap (λ negative. (signed negative low.0, low.1)) (sign-back value.num low.0 low.1).1
    ∙ ap (λ z. (z, low.1)) (signed-of value.num low.0)

-- lowest terms are the value
pub lowest-same_value : (value : Value) → 0 < value.den → IsSameValue (terms_value (lowest_terms value)) value
lowest-same_value value positive =
    let low = lowest_amount value in
    let negative = is_below value.num in
    let n = unsigned_abs value.num in
    ap (λ z. z *ℤ pos value.den) (sym (signed-of value.num low.0))
    ∙ signed-times negative low.0 value.den
    ∙ ap (signed negative) (sym (lowest-fraction n value.den positive))
    ∙ sym (signed-times negative n low.1)
    ∙ ap (λ z. z *ℤ pos low.1) (signed-back value.num)

-- terms times the quotient of a common denominator
over-same : (x z : ℤ) (q d b c : ℕ) → x *ℤ pos d ≡ z *ℤ pos b → q * b ≡ c → (x *ℤ pos q) *ℤ pos d ≡ z *ℤ pos c
over-same x z q d b c same split =
    *ℤ_comm (x *ℤ pos q) (pos d)
    ∙ ap (λ y. pos d *ℤ y) (*ℤ_comm x (pos q))
    ∙ pos-swap d q x
    ∙ ap (λ y. pos q *ℤ y) (*ℤ_comm (pos d) x ∙ same ∙ *ℤ_comm z (pos b))
    ∙ pos-assoc q b z
    ∙ ap (λ n. pos n *ℤ z) split
    ∙ *ℤ_comm (pos c) z

-- the number that is read over a common denominator is the value
pub value-over : (common : ℕ) (value : Value) → 0 < value.den → (lowest_terms value).1 ∣ common → IsSameValue (read_over common value) value
value-over common value positive divides =
    let low = lowest_terms value in
    ap (λ (form : ℤ × ℕ). (form.0 *ℤ pos (common / form.1)) *ℤ pos value.den) (value-back value positive)
    ∙ over-same low.0 value.num (common / low.1) value.den low.1 common (lowest-same_value value positive) (div-mul_cancel low.1 divides)
