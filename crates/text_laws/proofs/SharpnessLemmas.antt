-- A sharpness is read back from its text.
use Rattle.std.proofs.Common.{◌≡◌, ℕ, zero, suc, ◌*◌, ◌^◌, ◌<◌, ◌≤◌, true, false, ◌&&◌, nat_eq, nat_lt, nat_le, arith, refl, ap, subst, ◌∙◌}
use Rattle.std.specs.Int.{IsGcd}
use Rattle.std.proofs.lemmas.Bool.{and_parts, cond-false, ltb-true, lt-ltb, leb-true, eqb-true}
use Rattle.std.proofs.lemmas.Bool.Decides.{nat_tests}
use Rattle.subdiv_model.specs.Digits.{has_minus}
use Rattle.subdiv_model.specs.Fractions.{gcd_of}
use Rattle.subdiv_model.specs.Numeral.{is_numeral, is_in_range, numeral_amount}
use Rattle.subdiv_model.specs.NumberText.{ratio_text}
use Rattle.subdiv_model.specs.Sharpness.{Sharpness, Smooth, Semi, Infinite, semi_of, sharpness_of, sharpness_of_fraction, is_proper_sharpness}
use Rattle.subdiv_model.specs.Text.{sharpness_text}
use Rattle.number_laws.proofs.CoprimeLemmas.{lowest-stays}
use Rattle.number_laws.proofs.FractionLemmas.{gcd_of-is}
use Rattle.subdiv_model.specs.ObjTag.{is_too_fine_numeral}
use Rattle.text_laws.specs.Readable.{is_readable_sharpness}
use Rattle.text_laws.proofs.RatioLemmas.{IsRatio, ratio-back, ratio-unsigned}

-- what a proper semi-sharp value is
record IsProper (num den : ℕ) : Type 0 where
  above : 0 < num
  below : num < 10 * den
  over : 0 < den
  coprime : IsGcd num den 1

proper-of : (num den : ℕ) → is_proper_sharpness (Semi num den) ≡ true → IsProper num den
proper-of num den proper =
    let outer = and_parts (nat_lt 0 num) (nat_lt num (10 * den) && nat_eq (gcd_of num den) 1) proper in
    let inner = and_parts (nat_lt num (10 * den)) (nat_eq (gcd_of num den) 1) outer.1 in
    let below : num < 10 * den = ltb-true num (10 * den) inner.0 in
    record {
      above = ltb-true 0 num outer.0;
      below = below;
      over = omega (arith, below);
      coprime = subst (λ g. IsGcd num den g) (eqb-true (gcd_of num den) 1 inner.1) (gcd_of-is num den);
    }

semi-above : (num den : ℕ) → IsProper num den → sharpness_of num den ≡ Semi num den
semi-above zero den is = absurd (omega (arith, is.above))
semi-above (suc num) den is =
    cond-false _ _ _ (low (10 * den) (suc num) is.below) ∙ ap semi_of (lowest-stays (suc num) den is.coprime)
  where
    low : (m n : ℕ) → n < m → nat_le m n ≡ false
    low m n h = grind (arith, nat_tests)

semi-back : (num den : ℕ) → IsProper num den → sharpness_of_fraction (numeral_amount (ratio_text (num, den))) ≡ Semi num den
semi-back num den is =
    ap sharpness_of_fraction ((ratio-back (ratio_text (num, den)) num den is.over (ratio-unsigned num den).0).amount ∙ lowest-stays num den is.coprime)
    ∙ semi-above num den is

pub sharpness-back : (s : Sharpness) → is_proper_sharpness s ≡ true → sharpness_of_fraction (numeral_amount (sharpness_text s)) ≡ s
sharpness-back Smooth proper = refl
sharpness-back (Semi num den) proper = semi-back num den (proper-of num den proper)
sharpness-back Infinite proper = refl

-- the text of a sharpness is a numeral without a sign
pub sharpness-numeral : (s : Sharpness) → is_proper_sharpness s ≡ true → is_numeral (sharpness_text s) ≡ true
sharpness-numeral Smooth proper = refl
sharpness-numeral (Semi num den) proper =
    (ratio-back (ratio_text (num, den)) num den (proper-of num den proper).over (ratio-unsigned num den).0).numeral
sharpness-numeral Infinite proper = refl

pub sharpness-unsigned : (s : Sharpness) → has_minus (sharpness_text s) ≡ false
sharpness-unsigned Smooth = refl
sharpness-unsigned (Semi num den) = (ratio-unsigned num den).1
sharpness-unsigned Infinite = refl

-- the numeral is in range, and in range as a sharpness if its denominator is at most 10^6
semi-ratio : (num den : ℕ) → is_proper_sharpness (Semi num den) ≡ true → IsRatio (ratio_text (num, den)) num den
semi-ratio num den proper = ratio-back (ratio_text (num, den)) num den (proper-of num den proper).over (ratio-unsigned num den).0

pub sharpness-range : (s : Sharpness) → is_proper_sharpness s ≡ true → is_readable_sharpness s ≡ true → is_in_range (sharpness_text s) ≡ true
sharpness-range Smooth proper readable = refl
sharpness-range (Semi num den) proper readable =
    let is = proper-of num den proper in
    let most : den ≤ 10 ^ 6 = leb-true den (10 ^ 6) readable in
    (semi-ratio num den proper).range (lt-ltb num (10 ^ 37) (omega (arith, is.below, most))) (lt-ltb den (10 ^ 37) (omega (arith, most)))
sharpness-range Infinite proper readable = refl

pub sharpness-fine : (s : Sharpness) → is_proper_sharpness s ≡ true → is_readable_sharpness s ≡ true → is_too_fine_numeral (sharpness_text s) ≡ false
sharpness-fine Smooth proper readable = refl
sharpness-fine (Semi num den) proper readable =
    (semi-ratio num den proper).fine
    (ap (λ (terms : ℕ × ℕ). nat_lt (10 ^ 6) terms.1) (lowest-stays num den (proper-of num den proper).coprime) ∙ most (10 ^ 6) den readable)
  where
    most : (limit n : ℕ) → nat_le n limit ≡ true → nat_lt limit n ≡ false
    most limit n h = grind (arith, nat_tests)
sharpness-fine Infinite proper readable = refl
