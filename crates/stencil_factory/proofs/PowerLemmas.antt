-- Powers of two: of two of them one divides the other, so the greater is their least common multiple.
use Rattle.std.proofs.Common.{◌≡◌, ℕ, zero, suc, ◌+◌, ◌-◌, ◌*◌, ◌/◌, ◌^◌, ◌<◌, ◌≤◌, ◌⊎◌, inl, inr, max, List, length, map, get_or, take, arith, refl, ap, sym, ◌∙◌, subst}
use Rattle.std.specs.Int.{◌∣◌, trailing_zeros, w64}
use Rattle.std.specs.List.{All, fold}
use Rattle.std.proofs.lemmas.Nat.{pow_pos, pow-add}
use Rattle.std.proofs.lemmas.Nat.Gcd.{le_of_dvd}
use Rattle.std.proofs.Math.Nat.{dvd-mul_left, max-eq_left, max-eq_right}
use Rattle.ratio128.proofs.OddLemmas.{power-quotient}
use Rattle.subdiv_model.specs.Multiples.{lcm_of}
use Rattle.subdiv_model.specs.Channel.{number_bound}
use Rattle.child_masks.specs.Survey.{within_bound}
use Rattle.child_masks.proofs.WithinLemmas.{joined-absorbs, joined-taken_in}
use Rattle.stencil_apply.specs.Table.{Share}
use Rattle.stencil_factory.specs.Rows.{support_of}
use Rattle.stencil_factory.specs.Joined.{weighing}
use Rattle.stencil_factory.specs.Powers.{IsPower, IsWordPower, IsGreaterPower, IsPowerWithin}
use Rattle.stencil_factory.proofs.FoundLemmas.{weights-more}

positive-power : (n : ℕ) → IsPower n → 0 < n
positive-power n p = subst (λ m. 0 < m) (sym p.is) (pow_pos p.exponent)

divides : (i j : ℕ) → i ≤ j → 2 ^ i ∣ 2 ^ j
divides i j le =
    let e : j ≡ j - i + i = omega arith in
    let split : 2 ^ j ≡ 2 ^ (j - i) * 2 ^ i = ap (λ n. 2 ^ n) e ∙ pow-add 2 (j - i) i in
    let P : ℕ → Type 0 = λ n. 2 ^ i ∣ n in
    subst P (sym split) (dvd-mul_left (2 ^ i) (2 ^ (j - i)))

power-divides : (m c : ℕ) (p : IsPower m) (q : IsPower c) → p.exponent ≤ q.exponent → m ∣ c
power-divides m c p q le =
    let P : ℕ → Type 0 = λ n. n ∣ c in
    let Q : ℕ → Type 0 = λ n. 2 ^ p.exponent ∣ n in
    subst P (sym p.is) (subst Q (sym q.is) (divides p.exponent q.exponent le))

either-order : (i j : ℕ) → (i ≤ j) ⊎ (j ≤ i)
either-order zero j = inl (omega arith)
either-order (suc i) zero = inr (omega arith)
either-order (suc i) (suc j) = one-more (either-order i j)
  where
    one-more : (i ≤ j) ⊎ (j ≤ i) → (suc i ≤ suc j) ⊎ (suc j ≤ suc i)
    one-more (inl h) = inl (omega (arith, h))
    one-more (inr h) = inr (omega (arith, h))

-- the greater of two powers of two is one, and their least common multiple within the bound
greater-power : (m c r : ℕ) (p : IsPower m) (q : IsPower c) → r ≡ max m c
    → IsPower r × ((a b : ℕ) → m ≡ within_bound a → c ≡ within_bound b → r ≡ within_bound (lcm_of a b))
greater-power m c r p q is = by-order (either-order p.exponent q.exponent)
  where
    by-order : (p.exponent ≤ q.exponent) ⊎ (q.exponent ≤ p.exponent)
        → IsPower r × ((a b : ℕ) → m ≡ within_bound a → c ≡ within_bound b → r ≡ within_bound (lcm_of a b))
    by-order (inl h) =
        let within : m ∣ c = power-divides m c p q h in
        let least : m ≤ c = le_of_dvd (positive-power c q) within in
        let same : r ≡ c = is ∙ max-eq_right least in
        (subst IsPower (sym same) q, λ a b x y. same ∙ joined-taken_in m c a b (positive-power m p) (positive-power c q) within x y)
    by-order (inr h) =
        let within : c ∣ m = power-divides c m q p h in
        let least : c ≤ m = le_of_dvd (positive-power m p) within in
        let same : r ≡ m = is ∙ max-eq_left least in
        (subst IsPower (sym same) p, λ a b x y. same ∙ joined-absorbs m c a b (positive-power m p) (positive-power c q) within x y)

-- The greatest of the denominators before a weight, and the greatest with that of the weight.
module _ (dens : List ℕ) (positive : All (λ den. 0 < den) dens) (weights : List Share) (inside : All (λ share. share.0 < length dens) weights) (short : All (λ den. den ≤ number_bound) dens) where
  abbrev multiple : List Share → ℕ
  multiple ws = fold lcm_of 1 (map (λ v. get_or dens v 1) (support_of (weighing ws)))

  module _ (i m r : ℕ) (below : i < length weights) (before : 0 < m → IsPowerWithin m (multiple (take i weights)))
      (none : (get_or weights i (0, 0)).1 ≡ 0 → r ≡ m)
      (some : 0 < (get_or weights i (0, 0)).1 → 0 < r → IsGreaterPower m (get_or dens (get_or weights i (0, 0)).0 0) r) where
    abbrev own : Share
    own = get_or weights i (0, 0)

    pub powers-more : 0 < r → IsPowerWithin r (multiple (take (i + 1) weights))
    powers-more above = by-weight own.1 refl
      where
        by-weight : (n : ℕ) → own.1 ≡ n → IsPowerWithin r (multiple (take (i + 1) weights))
        by-weight zero e =
            let same = none e in
            let old = before (omega (arith, above, same)) in
            record {
              power = subst IsPower (sym same) old.power;
              is = weights-more dens positive weights inside short i m r below old.is none (λ h a b x y k l. absurd (omega (arith, h, e)));
            }
        by-weight (suc n) e =
            let greater = some (omega (arith, e)) above in
            let old = before greater.some in
            let both = greater-power m (get_or dens own.0 0) r old.power greater.power greater.is in
            record {
              power = both.0;
              is = weights-more dens positive weights inside short i m r below old.is (λ z. absurd (omega (arith, z, e))) (λ h a b x y k l. both.1 a b k l);
            }

  -- Where all denominators are powers of two, the greatest with that of the weight.
  module _ (powers : All IsWordPower dens) (i m r : ℕ) (below : i < length weights) (before : IsPowerWithin m (multiple (take i weights)))
      (none : (get_or weights i (0, 0)).1 ≡ 0 → r ≡ m)
      (some : 0 < (get_or weights i (0, 0)).1 → r ≡ max m (get_or dens (get_or weights i (0, 0)).0 0)) where
    first-some : 0 < m
    first-some = positive-power m before.power

    still-some : (n : ℕ) → (get_or weights i (0, 0)).1 ≡ n → 0 < r
    still-some zero e = omega (arith, first-some, none e)
    still-some (suc n) e = omega (arith, first-some, some (omega (arith, e)))

    pub greatest-more : IsPowerWithin r (multiple (take (i + 1) weights))
    greatest-more =
        powers-more i m r below (λ _. before) none (λ h _. record {
          some = first-some;
          power = (powers (get_or weights i (0, 0)).0 0 (inside i (0, 0) below)).power;
          is = some h;
        }) (still-some (get_or weights i (0, 0)).1 refl)

-- Where all denominators are powers of two, a shift divides by that of a point.
pub shift-divides : (list dens : List ℕ) → list ≡ dens → All IsWordPower list → (v weight multiple : ℕ) → v < length dens → 0 < get_or dens v 0
    → weight * (multiple / 2 ^ trailing_zeros w64 (get_or list v 0)) ≡ weight * (multiple / get_or dens v 0)
shift-divides list dens view powers v weight multiple inside positive =
    let same = ap (λ (l : List ℕ). get_or l v 0) view in
    let is = powers v 0 (omega (arith, inside, ap length view)) in
    ap (λ q. weight * q) (power-quotient multiple (get_or list v 0) (omega (arith, positive, same)) (omega (arith, is.fits)) is.shifted)
    ∙ ap (λ den. weight * (multiple / den)) same
