-- Rounded amounts with a sign.
use Rattle.std.proofs.Common.{◌≡◌, ℕ, zero, suc, ◌*◌, ◌%◌, ◌^◌, ◌<◌, pos, neg_ℤ, ◌-ℤ◌, unsigned_abs, not, nat_eq, arith, refl, ap, ap₂, sym, ◌∙◌, subst}
use Rattle.std.specs.Int.{abs_diff}
use Rattle.std.proofs.lemmas.Int.{ints}
use Rattle.nearest_float.specs.Binary.{signed_by}
use Rattle.nearest_float.proofs.DistanceLemmas.{neg-times, signed-below}
use Rattle.nearest_float.proofs.SignLemmas.{amount-below}
use Rattle.row_arrays.specs.declared.amount.Rounded.{Rounded}
use Rattle.row_arrays.specs.declared.amount.GridNumber.{GridNumber}
use Rattle.row_arrays.specs.Nearest.{IsNearestMultiple, off_by, is_off}
use Rattle.row_arrays.specs.Amounts.{IsNearestAmount, IsRounding, IsFarAmount, IsGridNumber, IsFarValue}

apart : (x y : ℕ) → unsigned_abs (pos x -ℤ pos y) ≡ abs_diff x y
apart x y = grind (arith, ints)

apart-below : (x y : ℕ) → unsigned_abs (neg_ℤ (pos x) -ℤ neg_ℤ (pos y)) ≡ abs_diff x y
apart-below x y = grind (arith, ints)

signed-off : (t a one many n : ℕ) → off_by (signed_by t a) one many (signed_by t n) ≡ abs_diff (n * one) (a * many)
signed-off zero a one many n = apart (n * one) (a * many)
signed-off (suc t) a one many n =
    ap₂ (λ v z. off_by v one many z) (signed-below t a) (signed-below t n)
    ∙ ap₂ (λ y z. unsigned_abs (y -ℤ z)) (neg-times n one) (neg-times a many) ∙ apart-below (n * one) (a * many)

signed-amount : (t n : ℕ) → unsigned_abs (signed_by t n) ≡ n
signed-amount zero n = refl
signed-amount (suc t) n = ap unsigned_abs (signed-below t n) ∙ amount-below n

signed-nearest : (t a one many n : ℕ) → IsNearestAmount a one many n → IsNearestMultiple (signed_by t a) one many (signed_by t n)
signed-nearest t a one many n is =
    let off = signed-off t a one many n in record {
      near = let near = is.near in omega (arith, off, near);
      even = λ tie. ap (λ m. m % 2) (signed-amount t n) ∙ is.even (ap (λ m. 2 * m) (sym off) ∙ tie);
    }

pub signed-far : (t a b one many : ℕ) → a ≡ b → IsFarAmount a one many → IsFarValue (signed_by t b) one many
signed-far t a b one many same far =
    subst (λ c. IsFarValue (signed_by t c) one many) same (record {
      numerator = signed_by t far.n;
      nearest = signed-nearest t a one many far.n far.nearest;
      large = let is = signed-amount t far.n in let large = far.large in omega (arith, is, large);
    })

signed-rounding : (t a one many : ℕ) (r : Rounded) (x : GridNumber) → IsRounding a one many r → signed_by t r.amount ≡ x.numerator → x.changed ≡ r.changed →
    IsGridNumber (signed_by t a) one many x
signed-rounding t a one many r x is numerator changed = record {
  nearest = subst (IsNearestMultiple (signed_by t a) one many) numerator (signed-nearest t a one many r.amount is.nearest);
  fits = subst (λ z. unsigned_abs z < 2 ^ 127) numerator (let amount = signed-amount t r.amount in let fits = is.fits in omega (arith, amount, fits));
  changed = changed ∙ is.changed ∙ ap (λ d. not (nat_eq d 0)) (sym (signed-off t a one many r.amount)) ∙ ap (λ z. is_off (signed_by t a) one many z) numerator;
}

pub signed-grid : (t a b one many : ℕ) (r : Rounded) (x : GridNumber) → a ≡ b → IsRounding a one many r → signed_by t r.amount ≡ x.numerator → x.changed ≡ r.changed →
    IsGridNumber (signed_by t b) one many x
signed-grid t a b one many r x same is numerator changed =
    subst (λ c. IsGridNumber (signed_by t c) one many x) same (signed-rounding t a one many r x is numerator changed)
