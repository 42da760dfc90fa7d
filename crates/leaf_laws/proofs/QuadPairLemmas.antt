-- A child of a quad has the pairs of the quad at which pairs of the child lie.
use Rattle.std.proofs.Common.{◌≡◌, ℕ, zero, suc, ◌-◌, ◌*◌, ◌≤◌, true, ◌&&◌, nat_le, arith, refl, ap, ◌∙◌}
use Rattle.std.proofs.lemmas.Bool.{and_from, le-leb}
use Rattle.subdiv_model.specs.Leaf.{in_quad, in_child, has_pair}

pair-same : (a b c d : ℕ) → a ≡ c → b ≡ d → (let pair : ℕ × ℕ = (a, b) in pair) ≡ (c, d)
pair-same a b c d e f = ap (λ (n : ℕ). (let pair : ℕ × ℕ = (n, b) in pair)) e ∙ ap (λ (n : ℕ). (let pair : ℕ × ℕ = (c, n) in pair)) f

pub quad-there : (grid c s t : ℕ) → s ≤ grid → t ≤ grid → has_pair grid (s, t) c ≡ true → in_quad grid c (in_child grid (s, t) c) ≡ (2 * s, 2 * t)
quad-there grid zero s t h k is = refl
quad-there grid (suc zero) s t h k is = pair-same (2 * grid - 2 * (grid - s)) (2 * t) (2 * s) (2 * t) (omega (arith, h)) refl
quad-there grid (suc (suc zero)) s t h k is = pair-same (2 * grid - 2 * (grid - s)) (2 * grid - 2 * (grid - t)) (2 * s) (2 * t) (omega (arith, h)) (omega (arith, k))
quad-there grid (suc (suc (suc c))) s t h k is = pair-same (2 * s) (2 * grid - 2 * (grid - t)) (2 * s) (2 * t) refl (omega (arith, k))

both : (a b c d : ℕ) → a ≤ b → c ≤ d → (nat_le a b && nat_le c d) ≡ true
both a b c d h k = and_from (nat_le a b) (nat_le c d) (le-leb a b h) (le-leb c d k)

pub quad-here : (grid c s t : ℕ) (pair : ℕ × ℕ) → s ≤ grid → t ≤ grid → pair.0 ≤ grid → pair.1 ≤ grid → in_quad grid c pair ≡ (2 * s, 2 * t)
    → (has_pair grid (s, t) c ≡ true) × (in_child grid (s, t) c ≡ (pair.0, pair.1))
quad-here grid zero s t pair h k low high e =
    let first : pair.0 ≡ 2 * s = ap (λ (p : ℕ × ℕ). p.0) e in
    let second : pair.1 ≡ 2 * t = ap (λ (p : ℕ × ℕ). p.1) e in
    (both (2 * s) grid (2 * t) grid (omega (arith, first, low)) (omega (arith, second, high)), pair-same (2 * s) (2 * t) pair.0 pair.1 (omega (arith, first)) (omega (arith, second)))
quad-here grid (suc zero) s t pair h k low high e =
    let first : 2 * grid - pair.1 ≡ 2 * s = ap (λ (p : ℕ × ℕ). p.0) e in
    let second : pair.0 ≡ 2 * t = ap (λ (p : ℕ × ℕ). p.1) e in
    (both grid (2 * s) (2 * t) grid (omega (arith, first, high)) (omega (arith, second, low)), pair-same (2 * t) (2 * (grid - s)) pair.0 pair.1 (omega (arith, second)) (omega (arith, first, h, high)))
quad-here grid (suc (suc zero)) s t pair h k low high e =
    let first : 2 * grid - pair.0 ≡ 2 * s = ap (λ (p : ℕ × ℕ). p.0) e in
    let second : 2 * grid - pair.1 ≡ 2 * t = ap (λ (p : ℕ × ℕ). p.1) e in
    (both grid (2 * s) grid (2 * t) (omega (arith, first, low)) (omega (arith, second, high)), pair-same (2 * (grid - s)) (2 * (grid - t)) pair.0 pair.1 (omega (arith, first, h, low)) (omega (arith, second, k, high)))
quad-here grid (suc (suc (suc c))) s t pair h k low high e =
    let first : pair.1 ≡ 2 * s = ap (λ (p : ℕ × ℕ). p.0) e in
    let second : 2 * grid - pair.0 ≡ 2 * t = ap (λ (p : ℕ × ℕ). p.1) e in
    (both (2 * s) grid grid (2 * t) (omega (arith, first, high)) (omega (arith, second, low)), pair-same (2 * (grid - t)) (2 * s) pair.0 pair.1 (omega (arith, second, k, low)) (omega (arith, first)))
