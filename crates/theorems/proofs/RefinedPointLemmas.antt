-- Refined values are as many as the points of their level, and refined points and texture points have denominators above 0.
use Rattle.std.proofs.Common.{◌≡◌, ℕ, zero, suc, ◌<◌, ℤ, List, [], ◌∷◌, length, map, zip, arith, ap, ◌∙◌}
use Rattle.std.specs.List.{All, AllByRecursion, AllZip}
use Rattle.std.proofs.lemmas.List.{length-map}
use Rattle.std.proofs.lemmas.List.Elements.{All-from_recursion, recursion_from_All}
use Rattle.subdiv_model.specs.Level.{Level}
use Rattle.subdiv_model.specs.Child.{refined_level}
use Rattle.subdiv_model.specs.Mask.{Scheme, child_masks}
use Rattle.subdiv_model.specs.Value.{Value, whole_value}
use Rattle.subdiv_model.specs.Refined.{Point, mask_value, source_value, points_of_coordinates, refined_values, refined_coordinates, refined_points, refined_texture, control_values, over_common}
use Rattle.mask_laws.specs.Laws.{IsManifoldWithSharpBoundary}
use Rattle.stencil_laws.proofs.SupportLemmas.{length-child_masks}
use Rattle.continued_laws.specs.Laws.{HasDenominator, IsPointOver}
use Rattle.continued_laws.proofs.PositiveLemmas.{coordinates-positive}
use Rattle.text_laws.specs.ReadMesh.{HasDenominators, HasTextureDenominators}
use Rattle.text_laws.specs.ReadMesh.{IsPointOver as IsPointRead}

-- How many.

values-count : (level : Level) (scheme : Scheme) (values : List Value) (k : ℕ) → length values ≡ level.point_count
    → length (refined_values level scheme values k) ≡ (refined_level level k).point_count
values-count level scheme values zero h = h
values-count level scheme values (suc k) h =
    let here = refined_level level k in
    length-map (child_masks here scheme) (mask_value (source_value here (refined_values level scheme values k))) ∙ length-child_masks here scheme

coordinates-count : (level : Level) (scheme : Scheme) (common : ℕ) (numbers : List ℤ) (k : ℕ) → length numbers ≡ level.point_count
    → length (refined_coordinates level scheme common numbers k) ≡ (refined_level level k).point_count
coordinates-count level scheme common numbers k h =
    length-map (refined_values level scheme (control_values numbers) k) (over_common common)
    ∙ values-count level scheme (control_values numbers) k (length-map numbers whole_value ∙ h)

pairs-count : {X Y : Type 0} (n : ℕ) (xs : List X) (ys : List Y) → length xs ≡ n → length ys ≡ n → length (zip xs ys) ≡ n
pairs-count n [] ys hx hy = hx
pairs-count n (x ∷ xs) [] hx hy = hy
pairs-count zero (x ∷ xs) (y ∷ ys) hx hy = absurd (omega arith)
pairs-count (suc n) (x ∷ xs) (y ∷ ys) hx hy = ap suc (pairs-count n xs ys (omega arith) (omega arith))

pub points-count : (level : Level) (scheme : Scheme) (common : ℕ) (points : List (ℤ × ℤ × ℤ)) (k : ℕ) → length points ≡ level.point_count
    → length (refined_points level scheme common points k) ≡ (refined_level level k).point_count
points-count level scheme common points k h =
    let count = λ (axis : ℤ × ℤ × ℤ → ℤ). coordinates-count level scheme common (map axis points) k (length-map points axis ∙ h) in
    let xs = refined_coordinates level scheme common (map (λ p. p.0) points) k in
    let ys = refined_coordinates level scheme common (map (λ p. p.1) points) k in
    let zs = refined_coordinates level scheme common (map (λ p. p.2) points) k in
    let n = (refined_level level k).point_count in
    length-map (zip (zip xs ys) zs) (λ p. (p.0.0, p.0.1, p.1))
    ∙ pairs-count n (zip xs ys) zs (pairs-count n xs ys (count (λ p. p.0)) (count (λ p. p.1))) (count (λ p. p.2))

pub texture-count : (level : Level) (scheme : Scheme) (common : ℕ) (values : List (ℤ × ℤ)) (k : ℕ) → length values ≡ level.point_count
    → length (refined_texture level scheme common values k) ≡ (refined_level level k).point_count
texture-count level scheme common values k h =
    let count = λ (axis : ℤ × ℤ → ℤ). coordinates-count level scheme common (map axis values) k (length-map values axis ∙ h) in
    pairs-count (refined_level level k).point_count (refined_coordinates level scheme common (map (λ p. p.0) values) k)
    (refined_coordinates level scheme common (map (λ p. p.1) values) k) (count (λ p. p.0)) (count (λ p. p.1))

-- Denominators.

all-points : (xs ys zs : List Value) → AllByRecursion HasDenominator xs → AllByRecursion HasDenominator ys → AllByRecursion HasDenominator zs
    → AllByRecursion HasDenominators (points_of_coordinates xs ys zs)
all-points [] ys zs hx hy hz = tt
all-points (x ∷ xs) [] zs hx hy hz = tt
all-points (x ∷ xs) (y ∷ ys) [] hx hy hz = tt
all-points (x ∷ xs) (y ∷ ys) (z ∷ zs) hx hy hz = (record { x = hx.0; y = hy.0; z = hz.0 }, all-points xs ys zs hx.1 hy.1 hz.1)

all-texture : (us vs : List Value) → AllByRecursion HasDenominator us → AllByRecursion HasDenominator vs
    → AllByRecursion HasTextureDenominators (zip us vs)
all-texture [] vs hu hv = tt
all-texture (u ∷ us) [] hu hv = tt
all-texture (u ∷ us) (v ∷ vs) hu hv = (record { u = hu.0; v = hv.0 }, all-texture us vs hu.1 hv.1)

module _ (level : Level) (scheme : Scheme) (common : ℕ) (is : IsManifoldWithSharpBoundary level) (some : 0 < common) where
  positive : (numbers : List ℤ) (k : ℕ) → AllByRecursion HasDenominator (refined_coordinates level scheme common numbers k)
  positive numbers k =
      recursion_from_All HasDenominator (refined_coordinates level scheme common numbers k) (coordinates-positive level scheme common numbers k is some)

  pub points-positive : (points : List (ℤ × ℤ × ℤ)) (k : ℕ) → All HasDenominators (refined_points level scheme common points k)
  points-positive points k =
      All-from_recursion HasDenominators (refined_points level scheme common points k)
      (all-points _ _ _ (positive (map (λ p. p.0) points) k) (positive (map (λ p. p.1) points) k) (positive (map (λ p. p.2) points) k))

  pub texture-positive : (values : List (ℤ × ℤ)) (k : ℕ) → All HasTextureDenominators (refined_texture level scheme common values k)
  texture-positive values k =
      All-from_recursion HasTextureDenominators (refined_texture level scheme common values k)
      (all-texture _ _ (positive (map (λ p. p.0) values) k) (positive (map (λ p. p.1) values) k))

-- Points that are read back are the points over the common denominator.
pub points-over : (common : ℕ) (points : List Point) (numbers : List (ℤ × ℤ × ℤ)) → AllZip (IsPointRead common) points numbers
    → AllZip (IsPointOver common) points numbers
points-over common [] [] h = tt
points-over common [] (n ∷ numbers) h = absurd h
points-over common (p ∷ points) [] h = absurd h
points-over common (p ∷ points) (n ∷ numbers) h =
    (record { x = h.0.x; y = h.0.y; z = h.0.z }, points-over common points numbers h.1)
