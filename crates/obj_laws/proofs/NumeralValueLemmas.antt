-- The normal form of a decimal has its value, with the least number of decimals.
use Rattle.std.proofs.Common.{◌≡◌, ◌≢◌, ℕ, zero, suc, ◌+◌, ◌-◌, ◌*◌, ◌/◌, ◌%◌, ◌^◌, ◌<◌, ◌≤◌, ℤ, pos, neg_ℤ, ◌*ℤ◌, unsigned_abs, Bool, true, false, nat_eq, List, arith, lit<, refl, ap, sym, subst, ◌∙◌, if◌then◌else◌, ⊎_elim}
use Rattle.std.proofs.lemmas.Bool.{cases_eq, cases_lt, ne_eqb, eq-eqb, cond-true, cond-false}
use Rattle.std.proofs.lemmas.Grind.{pow_more}
use Rattle.std.proofs.lemmas.Int.{unsigned_abs-mul}
use Rattle.std.proofs.lemmas.Nat.{div-add-mod', pow-add}
use Rattle.std.proofs.Math.IntN.{*ℤ_comm, pos-*ℤ-pos, negsuc-*ℤ-pos}
use Rattle.std.proofs.Math.Nat.{mul-div_cancel, one-le-pow}
use Rattle.subdiv_model.specs.Numeral.{signed, tens_above, tens_below, all_digits, cancelled, normal_amount, normal_form, decimal_value, form_value}
use Rattle.subdiv_model.specs.Digits.{number_of_digits, has_minus}
use Rattle.subdiv_model.specs.Value.{Value, IsSameValue}
use Rattle.obj_laws.proofs.NumeralLemmas.{ten-times, cancelled-step, cancelled-stays}
use Rattle.number_laws.proofs.WholeNumberLemmas.{pos-swap, pos-cancel}

pub tens : (k : ℕ) → 0 < 10 ^ k
tens k = let one : 1 ≤ 10 ^ k = one-le-pow k 10 (lit< tt) in omega arith

times-same : (a b c : ℕ) → 0 < c → a * c ≡ b * c → a ≡ b
times-same a b c some e = sym (mul-div_cancel a {n = c} some) ∙ ap (λ x. x / c) e ∙ mul-div_cancel b {n = c} some

-- the form is n / 10^k, and its last digit is not 0 unless it has no decimals
pub record IsReduced (n k : ℕ) (form : ℕ × ℕ) : Type 0 where
  pub ends : form.0 % 10 ≡ 0 → form.1 ≡ 0
  pub value : form.0 * 10 ^ k ≡ n * 10 ^ form.1

reduced-step : (n k x : ℕ) (form : ℕ × ℕ) → n ≡ x * 10 → IsReduced x k form → IsReduced n (suc k) form
reduced-step n k x form e is = record {
  ends = is.ends;
  value =
      let more : form.0 * 10 ^ suc k ≡ form.0 * (10 ^ k * 10) = ap (λ i. form.0 * 10 ^ i) (omega arith) ∙ ap (λ p. form.0 * p) (pow_more 10 k) in
      let all : n * 10 ^ form.1 ≡ x * 10 * 10 ^ form.1 = ap (λ y. y * 10 ^ form.1) e in
      omega (arith, is.value);
}

pub reduced : (n k : ℕ) → IsReduced n k (cancelled n k)
reduced n zero = record { ends = λ _. refl; value = refl }
reduced n (suc k) =
    ⊎_elim
    (λ (none : n % 10 ≡ 0).
    let e : n ≡ n / 10 * 10 = omega (arith, div-add-mod' n 10) in
    let same : cancelled n (suc k) ≡ cancelled (n / 10) k = ap (λ y. cancelled y (suc k)) e ∙ cancelled-step (n / 10) k in
    subst (IsReduced n (suc k)) (sym same) (reduced-step n k (n / 10) (cancelled (n / 10) k) e (reduced (n / 10) k)))
    (λ (some : n % 10 ≢ 0).
    subst (IsReduced n (suc k)) (sym (cancelled-stays n k some)) (record { ends = λ none. absurd (some none); value = refl }))
    (cases_eq (n % 10) 0)

-- no other form of the same value has fewer decimals
pub least : (n k m d p e : ℕ) → IsReduced n k (m, d) → m * 10 ^ e ≡ p * 10 ^ d → d ≤ e
least n k m d p e is same =
    ⊎_elim
    (λ (less : e < d).
    let j : ℕ = d - e - 1 in
    let split : 10 ^ d ≡ 10 ^ (j + 1) * 10 ^ e = ap (λ i. 10 ^ i) (omega arith) ∙ pow-add 10 (j + 1) e in
    let more : 10 ^ (j + 1) ≡ 10 ^ j * 10 = pow_more 10 j in
    let moved : m * 10 ^ e ≡ p * 10 ^ j * 10 * 10 ^ e =
    same ∙ ap (λ q. p * q) (split ∙ ap (λ q. q * 10 ^ e) more) ∙ omega arith in
    let whole : m ≡ p * 10 ^ j * 10 = times-same m (p * 10 ^ j * 10) (10 ^ e) (tens e) moved in
    let none : d ≡ 0 = is.ends (ap (λ x. x % 10) whole ∙ ten-times (p * 10 ^ j)) in
    absurd (omega arith))
    (λ (h : d ≤ e). h) (cases_lt e d)

-- the chosen form of a word is reduced
chosen : (n up down : ℕ) → IsReduced (n * 10 ^ up) down (if nat_eq n 0 then (0, 0) else cancelled (n * 10 ^ up) down)
chosen n up down =
    ⊎_elim
    (λ (none : n ≡ 0).
    let zero_amount : 0 ≡ n * 10 ^ up = omega (arith, ap (λ x. x * 10 ^ up) none) in
    subst (IsReduced (n * 10 ^ up) down) (sym (cond-true _ _ _ (eq-eqb n 0 none))) (record { ends = λ _. refl; value = omega arith }))
    (λ (some : n ≢ 0). subst (IsReduced (n * 10 ^ up) down) (sym (cond-false _ _ _ (ne_eqb n 0 some))) (reduced (n * 10 ^ up) down))
    (cases_eq n 0)

pub word-reduced : (word : List ℕ)
    → IsReduced (number_of_digits (all_digits word) * 10 ^ tens_above word) (tens_below word) (normal_amount word)
word-reduced word = chosen (number_of_digits (all_digits word)) (tens_above word) (tens_below word)

pub signed-times : (negative : Bool) (a b : ℕ) → signed negative a *ℤ pos b ≡ signed negative (a * b)
signed-times false a b = pos-*ℤ-pos a b
signed-times true zero b = let none : 0 * b ≡ 0 = omega arith in pos-*ℤ-pos 0 b ∙ ap pos none ∙ sym (ap (λ n. neg_ℤ (pos n)) none)
signed-times true (suc a) b = negsuc-*ℤ-pos a b

pub signed-amount : (negative : Bool) (a : ℕ) → unsigned_abs (signed negative a) ≡ a
signed-amount false a = refl
signed-amount true zero = refl
signed-amount true (suc a) = refl

-- the normal form has the value
pub form-value : (word : List ℕ) → IsSameValue (form_value (normal_form word)) (decimal_value word)
form-value word =
    let form = normal_amount word in
    let amount = number_of_digits (all_digits word) * 10 ^ tens_above word in
    signed-times (has_minus word) form.0 (10 ^ tens_below word)
    ∙ ap (signed (has_minus word)) (word-reduced word).value
    ∙ sym (signed-times (has_minus word) amount (10 ^ form.1))

-- amounts that cross-multiply with one fraction do so with each other
crossed : (m a n b p q : ℕ) → 0 < q → m * q ≡ p * a → n * q ≡ p * b → m * b ≡ n * a
crossed m a n b p q some e f =
    times-same (m * b) (n * a) q some (omega (arith, ap (λ x. x * b) e, ap (λ x. x * a) f))

pub form-least : (word : List ℕ) (mantissa : ℤ) (decimals : ℕ) → IsSameValue (form_value (mantissa, decimals)) (decimal_value word)
    → (normal_form word).1 ≤ decimals
form-least word mantissa decimals same =
    let form = normal_amount word in
    let amount = number_of_digits (all_digits word) * 10 ^ tens_above word in
    let given : unsigned_abs mantissa * 10 ^ tens_below word ≡ amount * 10 ^ decimals =
    sym (unsigned_abs-mul mantissa (pos (10 ^ tens_below word))) ∙ ap unsigned_abs same ∙ unsigned_abs-mul (signed (has_minus word) amount) (pos (10 ^ decimals)) ∙ ap (λ n. n * 10 ^ decimals) (signed-amount (has_minus word) amount) in
    least amount (tens_below word) form.0 form.1 (unsigned_abs mantissa) decimals (word-reduced word)
    (crossed form.0 (10 ^ form.1) (unsigned_abs mantissa) (10 ^ decimals) amount (10 ^ tens_below word) (tens (tens_below word)) (word-reduced word).value given)

pub same-turned : (x y : Value) → IsSameValue x y → IsSameValue y x
same-turned x y e = sym e

pub same-through : (x y z : Value) → 0 < y.den → IsSameValue x y → IsSameValue y z → IsSameValue x z
same-through x y z some e f =
    let left : pos y.den *ℤ x.num ≡ pos x.den *ℤ y.num = *ℤ_comm (pos y.den) x.num ∙ e ∙ *ℤ_comm y.num (pos x.den) in
    let right : pos z.den *ℤ y.num ≡ pos y.den *ℤ z.num = *ℤ_comm (pos z.den) y.num ∙ f ∙ *ℤ_comm z.num (pos y.den) in
    let both : pos y.den *ℤ (pos z.den *ℤ x.num) ≡ pos y.den *ℤ (pos x.den *ℤ z.num) =
    pos-swap y.den z.den x.num
    ∙ ap (λ t. pos z.den *ℤ t) left
    ∙ pos-swap z.den x.den y.num
    ∙ ap (λ t. pos x.den *ℤ t) right
    ∙ pos-swap x.den y.den z.num in
    *ℤ_comm x.num (pos z.den) ∙ pos-cancel y.den _ _ some both ∙ *ℤ_comm (pos x.den) z.num

pub one-form-one-value : (v w : List ℕ) → normal_form v ≡ normal_form w → IsSameValue (decimal_value v) (decimal_value w)
one-form-one-value v w e =
    same-through (decimal_value v) (form_value (normal_form v)) (decimal_value w) (tens (normal_form v).1)
    (same-turned (form_value (normal_form v)) (decimal_value v) (form-value v))
    (subst (λ form. IsSameValue (form_value form) (decimal_value w)) (sym e) (form-value w))

same-decimals : (m n : ℤ) (d e : ℕ) → d ≤ e → e ≤ d → IsSameValue (form_value (m, d)) (form_value (n, e)) → ◌≡◌ {A = ℤ × ℕ} (m, d) (n, e)
same-decimals m n d e h k same =
    let one : d ≡ e = omega arith in
    let level : m *ℤ pos (10 ^ e) ≡ n *ℤ pos (10 ^ e) = same ∙ ap (λ i. n *ℤ pos (10 ^ i)) one in
    let equal : m ≡ n = pos-cancel (10 ^ e) m n (tens e) (*ℤ_comm (pos (10 ^ e)) m ∙ level ∙ *ℤ_comm n (pos (10 ^ e))) in
    ap (λ x. (x, d)) equal ∙ ap (λ i. (n, i)) one

pub one-value-one-form : (v w : List ℕ) → IsSameValue (decimal_value v) (decimal_value w) → normal_form v ≡ normal_form w
one-value-one-form v w same =
    let across : IsSameValue (form_value (normal_form v)) (decimal_value w) =
    same-through (form_value (normal_form v)) (decimal_value v) (decimal_value w) (tens (tens_below v)) (form-value v) same in
    let back : IsSameValue (form_value (normal_form w)) (decimal_value v) =
    same-through (form_value (normal_form w)) (decimal_value w) (decimal_value v) (tens (tens_below w)) (form-value w) (same-turned (decimal_value v) (decimal_value w) same) in
    let forms : IsSameValue (form_value (normal_form v)) (form_value (normal_form w)) =
    same-through (form_value (normal_form v)) (decimal_value w) (form_value (normal_form w)) (tens (tens_below w)) across (same-turned (form_value (normal_form w)) (decimal_value w) (form-value w)) in
    same-decimals (normal_form v).0 (normal_form w).0 (normal_form v).1 (normal_form w).1 (form-least v (normal_form w).0 (normal_form w).1 back) (form-least w (normal_form v).0 (normal_form v).1 across) forms
