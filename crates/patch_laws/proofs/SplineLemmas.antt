-- The weights of the uniform cubic B-spline: from the other side, in all, at the ends, and over twice as many steps.
use Rattle.std.proofs.Common.{◌≡◌, ℕ, ◌+◌, ◌-◌, ◌*◌, ◌^◌, ◌≤◌, List, [], ◌∷◌, reverse, get_or, arith, ap, sym, ◌∙◌}
use Rattle.std.proofs.Math.Nat.{pow-zero}
use Rattle.std.proofs.lemmas.Grind.{pow_more}
use Rattle.subdiv_model.specs.Patch.{spline_weights}
use Rattle.grid_laws.proofs.QuadLemmas.{four-alike}
use Rattle.patch_laws.specs.Tensors.{subdivision_weights}

-- Powers as products.

first-power : (x : ℕ) → x ^ 1 ≡ x
first-power x = pow_more x 0 ∙ ap (λ y. y * x) (pow-zero x) ∙ omega arith

square : (x : ℕ) → x ^ 2 ≡ x * x
square x = pow_more x 1 ∙ ap (λ y. y * x) (first-power x)

pub cube : (x : ℕ) → x ^ 3 ≡ x * x * x
cube x = pow_more x 2 ∙ ap (λ y. y * x) (square x)

-- The weights in the steps that are gone and those that are left.

-- the weight of the inner point that the place has left
abbrev pub inner_weight : ℕ → ℕ → ℕ
inner_weight p q = p * p * p + 6 * (p * p * q) + 12 * (p * q * q) + 4 * (q * q * q)

abbrev pub weights_from_ends : ℕ → ℕ → List ℕ
weights_from_ends p q = q * q * q ∷ inner_weight p q ∷ inner_weight q p ∷ p * p * p ∷ []

second-weight : (p q : ℕ) → 3 * p ^ 3 + 4 * (p + q) ^ 3 - 6 * p ^ 2 * (p + q) ≡ inner_weight p q
second-weight p q = simp (cube, square) (omega arith)

third-weight : (p q : ℕ) → 3 * p ^ 2 * (p + q) + 3 * p * (p + q) ^ 2 + (p + q) ^ 3 - 3 * p ^ 3 ≡ inner_weight q p
third-weight p q = simp (cube, square) (omega arith)

weights-of_sum : (p q : ℕ) → spline_weights (p + q) p ≡ weights_from_ends p q
weights-of_sum p q =
    let left : p + q - p ≡ q = omega arith in
    four-alike (ap (λ n. n ^ 3) left ∙ cube q) (second-weight p q) (third-weight p q) (cube p)

pub weights-open : (m p q : ℕ) → m ≡ p + q → spline_weights m p ≡ weights_from_ends p q
weights-open m p q e = ap (λ n. spline_weights n p) e ∙ weights-of_sum p q

-- The remaining steps.
rest : (m p : ℕ) → p ≤ m → m ≡ p + (m - p)
rest m p h = omega arith

-- seen from the other side the weights are reversed
pub weights-reversed : (m p : ℕ) → p ≤ m → spline_weights m (m - p) ≡ reverse (spline_weights m p)
weights-reversed m p h =
    let q = m - p in
    weights-open m q p (omega arith) ∙ ap reverse (sym (weights-open m p q (rest m p h)))

-- at the first corner
pub first-weights : (m : ℕ) → spline_weights m 0 ≡ m ^ 3 ∷ 4 * m ^ 3 ∷ m ^ 3 ∷ 0 ∷ []
first-weights m =
    let whole = cube m in
    weights-open m 0 m (omega arith) ∙ four-alike (omega (arith, whole)) (omega (arith, whole)) (omega (arith, whole)) (omega arith)

-- Over twice as many steps.

-- a list of weights for each of four points, summed by weights of these
abbrev pub refined_weight : List ℕ → ℕ → ℕ
refined_weight weights k =
    get_or weights 0 0 * get_or (subdivision_weights 0) k 0
    + (get_or weights 1 0 * get_or (subdivision_weights 1) k 0
    + (get_or weights 2 0 * get_or (subdivision_weights 2) k 0
    + get_or weights 3 0 * get_or (subdivision_weights 3) k 0))

abbrev pub refined_weights : List ℕ → List ℕ
refined_weights weights = refined_weight weights 0 ∷ refined_weight weights 1 ∷ refined_weight weights 2 ∷ refined_weight weights 3 ∷ []

ends-refined : (p q : ℕ) → weights_from_ends p (p + 2 * q) ≡ refined_weights (weights_from_ends p q)
ends-refined p q = four-alike (omega arith) (omega arith) (omega arith) (omega arith)

-- the weights are those of the same place in the points of the next level
pub weights-refined : (m p : ℕ) → p ≤ m → spline_weights (2 * m) p ≡ refined_weights (spline_weights m p)
weights-refined m p h =
    let q = m - p in
    weights-open (2 * m) p (p + 2 * q) (omega arith) ∙ ends-refined p q ∙ ap refined_weights (sym (weights-open m p q (rest m p h)))
