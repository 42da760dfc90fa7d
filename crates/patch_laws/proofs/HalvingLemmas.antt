-- The grid of a child gives the values of the grid of its parent.
use Rattle.std.proofs.Common.{◌≡◌, ℕ, ◌*◌, ◌^◌, ◌<◌, ◌≤◌, ℤ, pos, ◌*ℤ◌, List, arith, refl, ap, sym, ◌∙◌}
use Rattle.std.proofs.Math.IntN.{*ℤ_comm}
use Rattle.std.proofs.Math.Nat.{one-le-pow}
use Rattle.std.proofs.lemmas.Nat.{mul-pow}
use Rattle.subdiv_model.specs.Mask.{SourcePoint, OfPoint, Mask}
use Rattle.subdiv_model.specs.Value.{Value, IsSameValue}
use Rattle.subdiv_model.specs.Refined.{mask_value}
use Rattle.subdiv_model.specs.Patch.{spline_weights}
use Rattle.number_laws.proofs.WholeNumberLemmas.{pos-swap, pos-cancel}
use Rattle.number_laws.proofs.MultipleLemmas.{product-positive}
use Rattle.mask_laws.proofs.SumLemmas.{IsOver}
use Rattle.limit_laws.proofs.CommonOverLemmas.{over-both, whole}
use Rattle.limit_laws.proofs.SameOverLemmas.{IsSameOver, same-from_over}
use Rattle.limit_laws.proofs.SameValueLemmas.{same-trans, mask-positive}
use Rattle.grid_laws.specs.Grids.{grid_at, listed_grid, grid_from}
use Rattle.patch_laws.specs.Tensors.{tensor_mask, subdivision_weights}
use Rattle.subdiv_model.specs.Leaf.{in_quad}
use Rattle.patch_laws.proofs.SplineLemmas.{weights-refined}
use Rattle.patch_laws.proofs.CombinationLemmas.{combined, listed_weights, weights-listed, combined-same, combined-exchange, combined-refined, combined-over}
use Rattle.patch_laws.proofs.TensorLemmas.{place_terms, number_at, tensor_sum, tensor-over, each-place, IsGridOver, grid-over, same-sums, from-corner, from-listed}

-- a value is whole where one that is the same is
over-of_same : (c : ℕ) (x y : Value) (n : ℤ) → 0 < y.den → IsSameValue x y → IsOver c y n → IsOver c x n
over-of_same c x y n positive same h =
    pos-cancel y.den (pos c *ℤ x.num) (pos x.den *ℤ n) positive
    (pos-swap y.den c x.num
    ∙ ap (λ z. pos c *ℤ z) (*ℤ_comm (pos y.den) x.num ∙ same ∙ *ℤ_comm y.num (pos x.den))
    ∙ pos-swap c x.den y.num
    ∙ ap (λ z. pos x.den *ℤ z) h
    ∙ pos-swap x.den y.den n)

-- the number of a point of the next level, in those of a grid
abbrev next_number : (ℕ → ℕ → ℤ) → ℕ → ℕ → ℤ
next_number x i j = tensor_sum (subdivision_weights i) (subdivision_weights j) x

-- sums over points of the next level are sums over those of the grid
refined-sum : (m p q : ℕ) (x : ℕ → ℕ → ℤ) → p ≤ m → q ≤ m
    → tensor_sum (spline_weights m p) (spline_weights m q) (next_number x) ≡ tensor_sum (spline_weights (2 * m) p) (spline_weights (2 * m) q) x
refined-sum m p q x below_p below_q =
    let along = spline_weights m p in
    let across = spline_weights m q in
    let rows : ℕ → ℤ = λ b. combined (spline_weights (2 * m) p) (λ a. x a b) in
    combined-same across (λ j. combined along (λ i. next_number x i j)) (λ j. combined (subdivision_weights j) rows)
    (λ j.
    sym (combined-exchange along (subdivision_weights j) (λ i b. combined (subdivision_weights i) (λ a. x a b)))
    ∙ combined-same (subdivision_weights j) (λ b. combined along (λ i. combined (subdivision_weights i) (λ a. x a b))) rows
    (λ b. combined-refined along (λ a. x a b) refl ∙ ap (λ w. combined w (λ a. x a b)) (sym (weights-refined m p below_p))))
    ∙ combined-refined across rows refl
    ∙ ap (λ w. combined w rows) (sym (weights-refined m q below_q))

-- Denominators.

abbrev pub patch_denominator : ℕ → ℕ
patch_denominator m = 36 * m ^ 6

halved-denominator : (m : ℕ) → patch_denominator (2 * m) ≡ patch_denominator m * 64
halved-denominator m = ap (λ n. 36 * n) (mul-pow 2 m 6) ∙ omega arith

pub patch-denominator_positive : (m : ℕ) → 0 < m → 0 < patch_denominator m
patch-denominator_positive m some = product-positive 36 (m ^ 6) (omega arith) (one-le-pow 6 m some)

-- the mask at a place over a grid
abbrev pub place_mask : ℕ → ℕ → ℕ → List (List ℕ) → Mask
place_mask m p q grid = tensor_mask (spline_weights m p) (spline_weights m q) grid (patch_denominator m)

-- Values.

module _
    (value next : SourcePoint → Value)
    (positive : (s : SourcePoint) → 0 < (value s).den)
    (next_positive : (s : SourcePoint) → 0 < (next s).den)
    (grid fine : List (List ℕ))
    (listed : grid ≡ listed_grid grid)
    (fine_listed : fine ≡ listed_grid fine)
    (same : (i j : ℕ) → i < 4 → j < 4
    → IsSameValue (next (OfPoint (grid_at fine i j))) (mask_value value (tensor_mask (subdivision_weights i) (subdivision_weights j) grid 64)))
  where
    over : IsGridOver value grid
    over = grid-over value positive grid

    fine_over : IsGridOver next fine
    fine_over = grid-over next next_positive fine

    abbrev number : ℕ → ℕ → ℤ
    number = number_at (whole value over.m) grid

    abbrev fine_number : ℕ → ℕ → ℤ
    fine_number = number_at (whole next fine_over.m) fine

    -- the value of a mask over either grid
    mask_over : (along across : List ℕ) (q : ℕ) → along ≡ listed_weights along → across ≡ listed_weights across
        → IsOver (q * over.m) (mask_value value (tensor_mask along across grid q)) (tensor_sum along across number)
    mask_over along across q first second = tensor-over q over.m value (whole value over.m) along across grid first second listed over.each

    fine_mask_over : (along across : List ℕ) (q : ℕ) → along ≡ listed_weights along → across ≡ listed_weights across
        → IsOver (q * fine_over.m) (mask_value next (tensor_mask along across fine q)) (tensor_sum along across fine_number)
    fine_mask_over along across q first second =
        tensor-over q fine_over.m next (whole next fine_over.m) along across fine first second fine_listed fine_over.each

    -- a point of the next level by its own number, and by those of the grid
    each-number : (i j : ℕ) → i < 4 → j < 4 → IsSameOver (64 * over.m) fine_over.m (next_number number i j) (fine_number i j)
    each-number i j below_i below_j =
        let x = next (OfPoint (grid_at fine i j)) in
        let mask = tensor_mask (subdivision_weights i) (subdivision_weights j) grid 64 in
        over-both (64 * over.m) fine_over.m x (next_number number i j) (fine_number i j) (next_positive (OfPoint (grid_at fine i j)))
        (over-of_same (64 * over.m) x (mask_value value mask) (next_number number i j) (mask-positive value mask positive (omega arith)) (same i j below_i below_j)
        (mask_over (subdivision_weights i) (subdivision_weights j) 64 (weights-listed i) (weights-listed j)))
        (each-place (λ s. IsOver fine_over.m (next s) (whole next fine_over.m s)) fine fine_listed fine_over.each i j below_i below_j)

    -- at a place of m steps the points of the next level have the value of 2 m steps in those of the grid
    pub halved-place : (m p q : ℕ) → p ≤ m → q ≤ m → 0 < m → IsSameValue (mask_value value (place_mask (2 * m) p q grid)) (mask_value next (place_mask m p q fine))
    halved-place m p q below_p below_q some =
        let along = spline_weights m p in
        let across = spline_weights m q in
        let coarse = 64 * over.m in
        let x = mask_value value (place_mask (2 * m) p q grid) in
        let y = mask_value next (place_mask m p q fine) in
        let e : patch_denominator (2 * m) * over.m ≡ patch_denominator m * coarse =
        ap (λ n. n * over.m) (halved-denominator m) ∙ regroup (patch_denominator m) 64 over.m in
        same-from_over fine_over.m coarse (patch_denominator m) x y (tensor_sum along across fine_number) (tensor_sum (spline_weights (2 * m) p) (spline_weights (2 * m) q) number)
        (patch-denominator_positive m some) fine_over.some (product-positive 64 over.m (omega arith) over.some)
        (ap (λ n. pos n *ℤ x.num) (sym e) ∙ mask_over (spline_weights (2 * m) p) (spline_weights (2 * m) q) (patch_denominator (2 * m)) refl refl)
        (fine_mask_over along across (patch_denominator m) refl refl)
        (sym
        (ap (λ n. pos fine_over.m *ℤ n) (sym (refined-sum m p q number below_p below_q))
        ∙ combined-over coarse fine_over.m across (λ j. combined along (λ i. next_number number i j)) (λ j. combined along (λ i. fine_number i j))
        (λ j below_j. combined-over coarse fine_over.m along (λ i. next_number number i j) (λ i. fine_number i j) (λ i below_i. each-number i j below_i below_j))))
      where
        regroup : (a b c : ℕ) → a * b * c ≡ a * (b * c)
        regroup a b c = omega arith

-- the value at a place is over a denominator above 0
pub place-positive : (value : SourcePoint → Value) (m p q : ℕ) (grid : List (List ℕ)) → ((s : SourcePoint) → 0 < (value s).den) → 0 < m
    → 0 < (mask_value value (place_mask m p q grid)).den
place-positive value m p q grid positive some = mask-positive value (place_mask m p q grid) positive (patch-denominator_positive m some)

-- the value at a place of the child of a corner is that at the place of its parent
pub halved-value : (value next : SourcePoint → Value) → ((s : SourcePoint) → 0 < (value s).den) → ((s : SourcePoint) → 0 < (next s).den)
    → (grid fine : List (List ℕ)) (c m p q : ℕ) → grid ≡ listed_grid grid → fine ≡ listed_grid fine → c < 4 → p ≤ m → q ≤ m → 0 < m
    → ((i j : ℕ) → i < 4 → j < 4
    → IsSameValue (next (OfPoint (grid_at fine i j)))
    (mask_value value (tensor_mask (subdivision_weights i) (subdivision_weights j) (grid_from c grid) 64)))
    → IsSameValue (mask_value value (place_mask (2 * m) (in_quad m c (p, q)).0 (in_quad m c (p, q)).1 grid)) (mask_value next (place_mask m p q fine))
halved-value value next positive next_positive grid fine c m p q listed fine_listed below below_p below_q some same =
    let turned = grid_from c grid in
    let place = in_quad m c (p, q) in
    let double : 0 < 2 * m = omega arith in
    same-trans (mask_value value (place_mask (2 * m) place.0 place.1 grid)) (mask_value value (place_mask (2 * m) p q turned)) (mask_value next (place_mask m p q fine))
    (place-positive value (2 * m) p q turned positive double)
    (same-sums value positive (place_terms (2 * m) place.0 place.1 grid) (place_terms (2 * m) p q turned) (patch_denominator (2 * m))
    (patch-denominator_positive (2 * m) double) (λ f. sym (from-corner f m c p q grid below below_p below_q listed)))
    (halved-place value next positive next_positive turned fine (from-listed c grid listed) fine_listed same m p q below_p below_q some)
