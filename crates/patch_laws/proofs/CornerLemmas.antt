-- At a corner of its face a patch has the limit of the vertex there.
use Rattle.std.proofs.Common.{◌≡◌, ℕ, zero, suc, ◌-◌, ◌*◌, ◌^◌, ◌<◌, true, ℤ, pos, ◌+ℤ◌, ◌*ℤ◌, List, [], ◌∷◌, length, get_or, Ok, arith, refl, ap, sym, ◌∙◌, subst}
use Rattle.std.proofs.lemmas.Bool.{and_parts}
use Rattle.std.proofs.lemmas.Int.{ints}
use Rattle.std.proofs.lemmas.Nat.{pow-add}
use Rattle.std.proofs.Math.IntN.{zero-*ℤ}
use Rattle.subdiv_model.specs.Level.{Level}
use Rattle.subdiv_model.specs.Child.{refined_level}
use Rattle.subdiv_model.specs.Mask.{SourcePoint, OfPoint, Mask, ends_at}
use Rattle.subdiv_model.specs.Value.{Value, IsSameValue}
use Rattle.subdiv_model.specs.Refined.{control_values, source_value}
use Rattle.subdiv_model.specs.Limit.{limit_of, smooth_limit_mask, opposites_at}
use Rattle.subdiv_model.specs.Patch.{is_regular_in_quads, spline_weights, has_patch, patch_points}
use Rattle.number_laws.proofs.WholeNumberLemmas.{pos-distrib, pos-assoc, pos-swap}
use Rattle.number_laws.proofs.MultipleLemmas.{product-positive}
use Rattle.mask_laws.specs.Laws.{IsManifoldWithSharpBoundary}
use Rattle.mask_laws.proofs.SumLemmas.{sum_ℤ, weighted_sum, IsOver}
use Rattle.limit_laws.specs.Laws.{HasLimit, value_in, values_after}
use Rattle.limit_laws.proofs.NumberLemmas.{same-number, of_points}
use Rattle.limit_laws.proofs.CommonOverLemmas.{over-times, mask-over}
use Rattle.limit_laws.proofs.SameValueLemmas.{same-trans}
use Rattle.limit_laws.proofs.SmoothSumLemmas.{limit-over}
use Rattle.limit_laws.proofs.StepLemmas.{ArePositive, source-positive}
use Rattle.limit_laws.proofs.LevelLemmas.{well-levels, refined-positive, limit-positive, controls-positive}
use Rattle.grid_laws.specs.Grids.{grid_at, listed_grid, inner_corners, IsGrid, IsStar, grid_from}
use Rattle.grid_laws.proofs.GridLemmas.{patch-grid, patch-middle, grid-star, grid-from}
use Rattle.patch_laws.specs.Laws.{PatchFace, RefinedPatchFace, corner_of, corner_place, patch_at}
use Rattle.patch_laws.proofs.SplineLemmas.{first-weights}
use Rattle.patch_laws.proofs.CombinationLemmas.{combined, combined-same}
use Rattle.patch_laws.proofs.TensorLemmas.{place_terms, number_at, tensor_sum, tensor-sum, tensor-all, same-sums, next-corner, second-corner, third-corner}
use Rattle.patch_laws.proofs.HalvingLemmas.{patch_denominator, patch-denominator_positive, place_mask, place-positive}
use Rattle.patch_laws.proofs.WholeValueLemmas.{AreWhole, have-numbers, each-all}
use Rattle.patch_laws.proofs.StarLemmas.{four-ends, sum-ends, sum-opposites, star-limit}

-- The sum at the first corner.

gathered : (k : ℕ) (a b c : ℤ) → pos k *ℤ a +ℤ (pos 4 *ℤ (pos k *ℤ b) +ℤ pos k *ℤ c) ≡ pos k *ℤ (a +ℤ (pos 4 *ℤ b +ℤ c))
gathered k a b c =
    ap (λ n. pos k *ℤ a +ℤ (n +ℤ pos k *ℤ c)) (pos-swap 4 k b)
    ∙ ap (λ n. pos k *ℤ a +ℤ n) (sym (pos-distrib k (pos 4 *ℤ b) c))
    ∙ sym (pos-distrib k a (pos 4 *ℤ b +ℤ c))

-- four numbers with the weights 1, 4, 1 and 0, times k
row-sum : (k : ℕ) (y : ℕ → ℤ) → combined (k ∷ 4 * k ∷ k ∷ 0 ∷ []) y ≡ pos k *ℤ (y 0 +ℤ (pos 4 *ℤ y 1 +ℤ y 2))
row-sum k y =
    parts (pos k *ℤ y 0) (pos k *ℤ y 1) (pos k *ℤ y 2) (pos (4 * k) *ℤ y 1) (pos 0 *ℤ y 3) (sym (pos-assoc 4 k (y 1))) (zero-*ℤ (y 3))
    ∙ gathered k (y 0) (y 1) (y 2)
  where
    parts : (a b c d e : ℤ) → d ≡ pos 4 *ℤ b → e ≡ pos 0 → a +ℤ (d +ℤ (c +ℤ (e +ℤ pos 0))) ≡ a +ℤ (pos 4 *ℤ b +ℤ c)
    parts a b c d e h k = omega (arith, ints, h, k)

-- the weights of the point, of the other ends of its edges, and of the opposite corners of its quads
abbrev corner_number : (ℕ → ℕ → ℤ) → ℤ
corner_number x =
    pos 16 *ℤ x 1 1 +ℤ (pos 4 *ℤ ((x 2 1 +ℤ x 1 2) +ℤ (x 0 1 +ℤ x 1 0)) +ℤ pos 1 *ℤ ((x 2 2 +ℤ x 0 2) +ℤ (x 0 0 +ℤ x 2 0)))

corner-sum : (k : ℕ) (x : ℕ → ℕ → ℤ) → tensor_sum (k ∷ 4 * k ∷ k ∷ 0 ∷ []) (k ∷ 4 * k ∷ k ∷ 0 ∷ []) x ≡ pos (k * k) *ℤ corner_number x
corner-sum k x =
    combined-same weights (λ j. combined weights (λ i. x i j)) (λ j. pos k *ℤ row j) (λ j. row-sum k (λ i. x i j))
    ∙ row-sum k (λ j. pos k *ℤ row j)
    ∙ ap (λ n. pos k *ℤ n) (gathered k (row 0) (row 1) (row 2))
    ∙ pos-assoc k k (row 0 +ℤ (pos 4 *ℤ row 1 +ℤ row 2))
    ∙ ap (λ n. pos (k * k) *ℤ n) (nine (x 0 0) (x 1 0) (x 2 0) (x 0 1) (x 1 1) (x 2 1) (x 0 2) (x 1 2) (x 2 2))
  where
    weights : List ℕ
    weights = k ∷ 4 * k ∷ k ∷ 0 ∷ []

    row : ℕ → ℤ
    row j = x 0 j +ℤ (pos 4 *ℤ x 1 j +ℤ x 2 j)

    nine : (a b c d e f g h i : ℤ)
        → (a +ℤ (pos 4 *ℤ b +ℤ c)) +ℤ (pos 4 *ℤ (d +ℤ (pos 4 *ℤ e +ℤ f)) +ℤ (g +ℤ (pos 4 *ℤ h +ℤ i)))
        ≡ pos 16 *ℤ e +ℤ (pos 4 *ℤ ((f +ℤ h) +ℤ (d +ℤ b)) +ℤ pos 1 *ℤ ((i +ℤ g) +ℤ (a +ℤ c)))
    nine a b c d e f g h i = omega (arith, ints)

-- The corners.

all-left : (m : ℕ) → m - 0 ≡ m
all-left m = omega arith

-- the first corner of the grid from a corner is that corner
corner-terms : (f : SourcePoint → ℤ) (m c : ℕ) (grid : List (List ℕ)) → c < 4 → grid ≡ listed_grid grid
    → weighted_sum f (place_terms m (corner_place m c).0 (corner_place m c).1 grid) ≡ weighted_sum f (place_terms m 0 0 (grid_from c grid))
corner-terms f m zero grid below listed = refl
corner-terms f m (suc zero) grid below listed =
    sym (next-corner f m 0 0 grid (omega arith) listed ∙ ap (λ n. weighted_sum f (place_terms m n 0 grid)) (all-left m))
corner-terms f m (suc (suc zero)) grid below listed =
    sym (second-corner f m 0 0 grid (omega arith) (omega arith) listed ∙ ap (λ n. weighted_sum f (place_terms m n n grid)) (all-left m))
corner-terms f m (suc (suc (suc zero))) grid below listed =
    sym (third-corner f m 0 0 grid (omega arith) (omega arith) listed ∙ ap (λ n. weighted_sum f (place_terms m 0 n grid)) (all-left m))
corner-terms f m (suc (suc (suc (suc c)))) grid below listed = absurd (omega arith)

-- the point at the corner is the corner of the quad in the middle
corner-at : (c : ℕ) (grid : List (List ℕ)) → c < 4 → get_or (inner_corners grid) c 0 ≡ grid_at (grid_from c grid) 1 1
corner-at zero grid below = refl
corner-at (suc zero) grid below = refl
corner-at (suc (suc zero)) grid below = refl
corner-at (suc (suc (suc zero))) grid below = refl
corner-at (suc (suc (suc (suc c)))) grid below = absurd (omega arith)

-- the four quads about the first corner of the middle
corner-star : (level : Level) (grid : List (List ℕ)) → IsGrid level grid
    → IsStar level (grid_at grid 1 1) (grid_at grid 2 1) (grid_at grid 1 2) (grid_at grid 0 1) (grid_at grid 1 0) (grid_at grid 2 2) (grid_at grid 0 2) (grid_at grid 0 0) (grid_at grid 2 0)
corner-star level grid is =
    grid-star level grid is 0 0 (omega arith) (omega arith) (and_parts (is_regular_in_quads level (grid_at grid 1 1)) _ is.regular).0

-- Values.

module _ (level : Level) (well : IsManifoldWithSharpBoundary level) (values : List Value) (positive : ArePositive values) where
  abbrev value : SourcePoint → Value
  value = source_value level values

  value-positive : (s : SourcePoint) → 0 < (value s).den
  value-positive s = source-positive level values s positive

  module _ (grid : List (List ℕ)) (is : IsGrid level grid) where
    abbrev v : ℕ
    v = grid_at grid 1 1

    abbrev limit : Mask
    limit = smooth_limit_mask v (ends_at level v) (opposites_at level v)

    v-limit : limit_of level v ≡ Ok limit
    v-limit = star-limit level well _ _ _ _ _ _ _ _ _ (corner-star level grid is)

    v-ends : length (ends_at level v) ≡ 4
    v-ends = four-ends level well _ _ _ _ _ _ _ _ _ (corner-star level grid is)

    module _ (m : ℕ) (g : ℕ → ℤ) (are : AreWhole values m g) where
      abbrev f : SourcePoint → ℤ
      f = of_points g

      abbrev number : ℕ → ℕ → ℤ
      number = number_at f grid

      limit-number : IsOver (36 * m) (value_in level values limit) (corner_number number)
      limit-number =
          let at : (p : ℕ) → IsOver m (value (OfPoint p)) (g p) = are.each in
          let star = corner-star level grid is in
          let x = value_in level values limit in
          limit-over m value f v (ends_at level v) (opposites_at level v) 4 v-ends (at v)
          (each-all (λ p. IsOver m (value (OfPoint p)) (g p)) at (ends_at level v)) (each-all (λ p. IsOver m (value (OfPoint p)) (g p)) at (opposites_at level v))
          ∙ ap (λ n. pos x.den *ℤ (pos 16 *ℤ g v +ℤ (pos 4 *ℤ n +ℤ pos 1 *ℤ sum_ℤ g (opposites_at level v)))) (sum-ends level well _ _ _ _ _ _ _ _ _ star g)
          ∙ ap (λ n. pos x.den *ℤ (pos 16 *ℤ g v +ℤ (pos 4 *ℤ ((number 2 1 +ℤ number 1 2) +ℤ (number 0 1 +ℤ number 1 0)) +ℤ pos 1 *ℤ n)))
          (sum-opposites level well _ _ _ _ _ _ _ _ _ star g)

      place-number : (steps : ℕ) → IsOver (patch_denominator steps * m) (value_in level values (place_mask steps 0 0 grid)) (pos (steps ^ 6) *ℤ corner_number number)
      place-number steps =
          let weights = spline_weights steps 0 in
          let x = value_in level values (place_mask steps 0 0 grid) in
          let cubes : steps ^ 3 * steps ^ 3 ≡ steps ^ 6 = sym (pow-add steps 3 3) in
          mask-over (patch_denominator steps) m value f (place_terms steps 0 0 grid)
          (tensor-all (λ s. IsOver m (value s) (f s)) weights weights grid (each-all _ (each-all _ are.each) grid))
          ∙ ap (λ n. pos x.den *ℤ n)
          (tensor-sum f weights weights grid refl refl is.listed
          ∙ (λ i. tensor_sum (first-weights steps i) (first-weights steps i) number)
          ∙ corner-sum (steps ^ 3) number
          ∙ ap (λ n. pos n *ℤ corner_number number) cubes)

      same-corner : (steps : ℕ) → 0 < steps → IsSameValue (value_in level values (place_mask steps 0 0 grid)) (value_in level values limit)
      same-corner steps some =
          let power = steps ^ 6 in
          let own = patch_denominator steps * m in
          let y = value_in level values limit in
          let order : power * (36 * m) ≡ own = omega arith in
          same-number own (value_in level values (place_mask steps 0 0 grid)) y (pos power *ℤ corner_number number)
          (product-positive (patch_denominator steps) m (patch-denominator_positive steps some) are.some)
          (place-number steps)
          (subst (λ n. IsOver n y (pos power *ℤ corner_number number)) order (over-times power (36 * m) y (corner_number number) limit-number))

    -- the value of the patch at the first corner is the limit
    first-corner : (steps : ℕ) → 0 < steps → IsSameValue (value_in level values (place_mask steps 0 0 grid)) (value_in level values limit)
    first-corner steps some = let have = have-numbers values positive in same-corner have.m have.number have.are steps some

  -- each corner gives the limit point
  pub corner-limit : (grid : List (List ℕ)) (c m : ℕ) → grid ≡ listed_grid grid → IsGrid level (grid_from c grid) → c < 4 → 0 < m
      → HasLimit level values (grid_at (grid_from c grid) 1 1) (value_in level values (place_mask m (corner_place m c).0 (corner_place m c).1 grid))
  corner-limit grid c m listed is below some =
      let turned = grid_from c grid in
      let place = corner_place m c in
      let x = value_in level values (place_mask m place.0 place.1 grid) in
      record {
        mask = limit turned is;
        is = v-limit turned is;
        same = same-trans x (value_in level values (place_mask m 0 0 turned)) (value_in level values (limit turned is))
            (place-positive value m 0 0 turned value-positive some)
            (same-sums value value-positive (place_terms m place.0 place.1 grid) (place_terms m 0 0 turned) (patch_denominator m) (patch-denominator_positive m some)
            (λ f. corner-terms f m c grid below listed))
            (first-corner turned is m some);
        above_zero = (place-positive value m place.0 place.1 grid value-positive some, limit-positive level values (v turned is) (limit turned is) positive (v-limit turned is));
      }

-- The laws.

corner-of_face : (level : Level) → IsManifoldWithSharpBoundary level → (values : List Value) → ArePositive values → (face : ℕ) → face < length level.polygons
    → has_patch level face ≡ true → (c m : ℕ) → c < 4 → 0 < m
    → HasLimit level values (corner_of level face c) (patch_at level values face m (corner_place m c))
corner-of_face level well values positive face inside is c m below some =
    let grid = patch_points level face in
    let grid_is = patch-grid level face well inside is in
    let point : corner_of level face c ≡ grid_at (grid_from c grid) 1 1 = ap (λ (l : List ℕ). get_or l c 0) (patch-middle level face is) ∙ corner-at c grid below in
    subst (λ n. HasLimit level values n (patch_at level values face m (corner_place m c))) (sym point)
    (corner-limit level well values positive grid c m grid_is.listed (grid-from level grid c grid_is) below some)

pub corner-step : (face : PatchFace) (c m : ℕ) → c < 4 → 0 < m
    → HasLimit face.level face.values (corner_of face.level face.face c) (patch_at face.level face.values face.face m (corner_place m c))
corner-step face c m below some = corner-of_face face.level face.well face.values face.above_zero face.face face.inside face.is c m below some

pub corner-controls : (face : RefinedPatchFace) (c m : ℕ) → c < 4 → 0 < m
    → HasLimit (refined_level face.base face.k) (values_after face.base face.controls face.k) (corner_of (refined_level face.base face.k) face.face c)
    (patch_at (refined_level face.base face.k) (values_after face.base face.controls face.k) face.face m (corner_place m c))
corner-controls face c m below some =
    corner-of_face (refined_level face.base face.k) (well-levels face.base face.well face.k) (values_after face.base face.controls face.k)
    (refined-positive face.base face.well (control_values face.controls) face.k (controls-positive face.controls)) face.face face.inside face.is c m below some
