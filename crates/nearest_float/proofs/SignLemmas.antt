-- Lowest terms with a sign.
use Rattle.std.proofs.Common.{◌≡◌, Option, Some, ℕ, zero, suc, ◌^◌, ◌<◌, ℤ, pos, neg_ℤ, unsigned_abs, refl, ap, sym, ◌∙◌, subst}
use Rattle.std.specs.Int.{IsGcd}
use Rattle.nearest_float.specs.Binary.{signed_by}
use Rattle.nearest_float.specs.Exact.{AreLowestTerms}
use Rattle.nearest_float.specs.Terms.{AreLowest, AreTermsOf}
use Rattle.nearest_float.proofs.DistanceLemmas.{neg-times, signed-below}

pub amount-below : (n : ℕ) → unsigned_abs (neg_ℤ (pos n)) ≡ n
amount-below zero = refl
amount-below (suc n) = refl

-- the terms of the amount, with the sign in the numerator
pub signed-terms : (sign amount one num den : ℕ) → AreLowest amount one num den →
    AreLowestTerms (signed_by sign amount) one (signed_by sign num) den
signed-terms zero amount one num den terms = record {
  positive = terms.positive;
  same = ap pos terms.same;
  lowest = terms.lowest;
  num_fits = terms.num_fits;
  den_fits = terms.den_fits;
}
signed-terms (suc sign) amount one num den terms =
    subst₂' (sym (signed-below sign amount)) (sym (signed-below sign num)) (record {
      positive = terms.positive;
      same = neg-times num one ∙ ap (λ n. neg_ℤ (pos n)) terms.same ∙ sym (neg-times amount den);
      lowest = let P : ℕ → Type 0 = λ n. IsGcd n den 1 in subst P (sym (amount-below num)) terms.lowest;
      num_fits = let P : ℕ → Type 0 = λ n. n < 2 ^ 127 in subst P (sym (amount-below num)) terms.num_fits;
      den_fits = terms.den_fits;
    })
  where
    subst₂' : {v w x y : ℤ} → v ≡ w → x ≡ y → AreLowestTerms v one x den → AreLowestTerms w one y den
    subst₂' {v} {w} {x} {y} e f t = subst (λ z. AreLowestTerms w one z den) f (subst (λ z. AreLowestTerms z one x den) e t)

pub signed-result : (sign a b one num den : ℕ) (z : ℤ) (r : Option (ℕ × ℕ)) → a ≡ b → AreTermsOf a one r → r ≡ Some (num, den) → z ≡ signed_by sign num →
    AreLowestTerms (signed_by sign b) one z den
signed-result sign a b one num den z r same terms is e =
    let there : AreLowest a one num den = subst (λ o. AreTermsOf a one o) is terms in
    let here : AreLowest b one num den = subst (λ n. AreLowest n one num den) same there in
    subst (λ y. AreLowestTerms (signed_by sign b) one y den) (sym e) (signed-terms sign b one num den here)
