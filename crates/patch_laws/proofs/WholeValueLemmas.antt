-- The values of all points of a level as whole numbers over one multiple of their denominators, and those of the masks of new points.
use Rattle.std.proofs.Common.{◌≡◌, ℕ, zero, suc, ◌-◌, ◌*◌, ◌/◌, ◌<◌, true, ℤ, pos, ◌+ℤ◌, ◌*ℤ◌, List, [], ◌∷◌, ◌++◌, length, map, arith, refl, ap, ◌∙◌, subst}
use Rattle.std.specs.List.{AllByRecursion, list_all}
use Rattle.std.specs.Int.{◌∣◌}
use Rattle.std.proofs.lemmas.Bool.{eqb-true}
use Rattle.std.proofs.lemmas.Int.{ints}
use Rattle.std.proofs.Math.Nat.{one-dvd}
use Rattle.subdiv_model.specs.Polygons.{polygon_at}
use Rattle.subdiv_model.specs.Level.{Level}
use Rattle.subdiv_model.specs.Mask.{SourcePoint, OfPoint, OfFace, weigh, weigh_points, weigh_faces, mask_of_corners, smooth_edge_mask, smooth_vertex_mask}
use Rattle.subdiv_model.specs.Value.{Value}
use Rattle.subdiv_model.specs.Multiples.{lcm_of_all}
use Rattle.subdiv_model.specs.Refined.{mask_value, point_value, corner_value, source_value}
use Rattle.subdiv_model.specs.Patch.{is_quad}
use Rattle.number_laws.proofs.MultipleLemmas.{all-divide_lcm, lcm_of_all-positive}
use Rattle.mask_laws.proofs.SumLemmas.{sum_ℤ, weighted_sum, IsOver, over-multiple}
use Rattle.limit_laws.proofs.NumberLemmas.{one-times, of_points}
use Rattle.limit_laws.proofs.SumExchangeLemmas.{sum-times}
use Rattle.limit_laws.proofs.CommonOverLemmas.{all-joined, over-times, mask-over, all-points, all-faces, points-sum, faces-sum, weighted-append}
use Rattle.limit_laws.proofs.SmoothStarLemmas.{all-by}
use Rattle.limit_laws.proofs.StepLemmas.{ArePositive}

-- over m the value of each point is its number
pub record AreWhole (values : List Value) (m : ℕ) (number : ℕ → ℤ) : Type 0 where
  pub some : 0 < m
  pub each : (p : ℕ) → IsOver m (point_value values p) (number p)

-- a denominator above 0 over which all points are whole, and their numbers
pub record HaveNumbers (values : List Value) : Type 0 where
  pub m : ℕ
  pub number : ℕ → ℤ
  pub are : AreWhole values m number

-- A property of all denominators of values.

all-positive : (values : List Value) → ArePositive values → AllByRecursion (λ a. 0 < a) (map (λ x. x.den) values)
all-positive [] each = tt
all-positive (x ∷ values) each = (each 0 x (omega arith), all-positive values (λ k d below. each (suc k) d (omega arith)))

divides-at : (m : ℕ) (values : List Value) → AllByRecursion (λ a. a ∣ m) (map (λ x. x.den) values) → (p : ℕ) → (point_value values p).den ∣ m
divides-at m [] each p = one-dvd m
divides-at m (x ∷ values) each zero = each.0
divides-at m (x ∷ values) each (suc p) = divides-at m values each.1 p

-- over the least common multiple of all denominators all points are whole
pub have-numbers : (values : List Value) → ArePositive values → HaveNumbers values
have-numbers values each =
    let m = lcm_of_all (map (λ x. x.den) values) in
    record {
      m = m;
      number = λ p. pos (m / (point_value values p).den) *ℤ (point_value values p).num;
      are = record {
        some = lcm_of_all-positive (map (λ x. x.den) values) (all-positive values each);
        each = λ p.
            over-multiple (point_value values p).den m (point_value values p) (point_value values p).num
            (divides-at m values (all-divide_lcm (map (λ x. x.den) values)) p) refl;
      };
    }

-- a property of all items is one of the items of a list
pub each-all : {X : Type 0} (P : X → Type 0) → ((x : X) → P x) → (xs : List X) → AllByRecursion P xs
each-all P h [] = tt
each-all P h (x ∷ xs) = (h x, each-all P h xs)

-- The number of a source over four times the denominator of the points: that of a face is the sum of its corners.
abbrev pub source_number : Level → (ℕ → ℤ) → SourcePoint → ℤ
source_number level g (OfPoint p) = pos 4 *ℤ g p
source_number level g (OfFace f) = sum_ℤ g (polygon_at level.polygons f)

-- the mean of four corners
corners-whole : (value : SourcePoint → Value) (m : ℕ) (g : ℕ → ℤ) → ((p : ℕ) → IsOver m (value (OfPoint p)) (g p)) → (corners : List ℕ) → length corners ≡ 4
    → IsOver (4 * m) (mask_value value (mask_of_corners corners)) (sum_ℤ g corners)
corners-whole value m g each corners four =
    let x : Value = mask_value value (mask_of_corners corners) in
    let f : SourcePoint → ℤ = of_points g in
    let over = mask-over (length corners) m value f (weigh_points 1 corners)
    (all-points (λ s. IsOver m (value s) (f s)) 1 corners (each-all (λ p. IsOver m (value (OfPoint p)) (f (OfPoint p))) each corners)) in
    subst (λ (k : ℕ). IsOver (k * m) x (sum_ℤ g corners)) four
    (over ∙ ap (λ z. pos x.den *ℤ z) (points-sum f 1 corners ∙ one-times (sum_ℤ g corners)))

module _ (level : Level) (values : List Value) (m : ℕ) (g : ℕ → ℤ) (are : AreWhole values m g) where
  abbrev value : SourcePoint → Value
  value = source_value level values

  abbrev N : SourcePoint → ℤ
  N = source_number level g

  abbrev IsWhole : SourcePoint → Type 0
  IsWhole s = IsOver (4 * m) (value s) (N s)

  point-whole : (p : ℕ) → IsWhole (OfPoint p)
  point-whole p = over-times 4 m (point_value values p) (g p) (are.each p)

  face-whole : (f : ℕ) → length (polygon_at level.polygons f) ≡ 4 → IsWhole (OfFace f)
  face-whole f four = corners-whole (corner_value values) m g are.each (polygon_at level.polygons f) four

  -- the new point of a face
  pub face-number : (f : ℕ) → length (polygon_at level.polygons f) ≡ 4
      → IsOver (64 * m) (mask_value value (mask_of_corners (polygon_at level.polygons f))) (pos 16 *ℤ sum_ℤ g (polygon_at level.polygons f))
  face-number f four =
      let x : Value = mask_value value (mask_of_corners (polygon_at level.polygons f)) in
      let n = sum_ℤ g (polygon_at level.polygons f) in
      let order : 16 * (4 * m) ≡ 64 * m = omega arith in
      subst (λ (k : ℕ). IsOver k x (pos 16 *ℤ n)) order
      (over-times 16 (4 * m) x n (corners-whole value m g are.each (polygon_at level.polygons f) four))

  -- the new point of a smooth edge of two quads
  pub edge-number : (e : ℕ × ℕ) (first second : ℕ) → length (polygon_at level.polygons first) ≡ 4 → length (polygon_at level.polygons second) ≡ 4
      → IsOver (64 * m) (mask_value value (smooth_edge_mask e (first ∷ second ∷ [])))
      (pos 4 *ℤ ((pos 4 *ℤ g e.0 +ℤ pos 4 *ℤ g e.1) +ℤ (sum_ℤ g (polygon_at level.polygons first) +ℤ sum_ℤ g (polygon_at level.polygons second))))
  edge-number e first second four_first four_second =
      let x : Value = mask_value value (smooth_edge_mask e (first ∷ second ∷ [])) in
      let terms = weigh_points 1 (e.0 ∷ e.1 ∷ []) ++ weigh_faces 1 (first ∷ second ∷ []) in
      let over = mask-over 4 (4 * m) value N terms (point-whole e.0, (point-whole e.1, (face-whole first four_first, (face-whole second four_second, tt)))) in
      let n = (pos 4 *ℤ g e.0 +ℤ pos 4 *ℤ g e.1) +ℤ (sum_ℤ g (polygon_at level.polygons first) +ℤ sum_ℤ g (polygon_at level.polygons second)) in
      let same = joined (pos 4 *ℤ g e.0) (pos 4 *ℤ g e.1) (sum_ℤ g (polygon_at level.polygons first)) (sum_ℤ g (polygon_at level.polygons second)) in
      let order : 4 * (4 * (4 * m)) ≡ 64 * m = omega arith in
      subst (λ (k : ℕ). IsOver k x (pos 4 *ℤ n)) order (over-times 4 (4 * (4 * m)) x n (over ∙ ap (λ z. pos x.den *ℤ z) same))
    where
      joined : (a b c d : ℤ) → pos 1 *ℤ a +ℤ (pos 1 *ℤ b +ℤ (pos 1 *ℤ c +ℤ (pos 1 *ℤ d +ℤ pos 0))) ≡ (a +ℤ b) +ℤ (c +ℤ d)
      joined a b c d = omega (arith, ints)

  -- the new point of a smooth vertex with four edges, whose faces are quads
  pub vertex-number : (v : ℕ) (ends faces : List ℕ) → length ends ≡ 4 → list_all (is_quad level) faces ≡ true
      → IsOver (64 * m) (mask_value value (smooth_vertex_mask v ends faces))
      (pos 32 *ℤ g v +ℤ (pos 4 *ℤ sum_ℤ g ends +ℤ sum_ℤ (λ f. sum_ℤ g (polygon_at level.polygons f)) faces))
  vertex-number v ends faces four quads =
      let x : Value = mask_value value (smooth_vertex_mask v ends faces) in
      let own = length ends in
      let rest = weigh_points 1 ends ++ weigh_faces 1 faces in
      let all_faces = all-by (is_quad level) (λ f. IsWhole (OfFace f)) (λ f h. face-whole f (eqb-true (length (polygon_at level.polygons f)) 4 h)) faces quads in
      let over = mask-over (own * own) (4 * m) value N (weigh (own * (own - 2)) (OfPoint v) ∷ rest) (
        point-whole v,
        all-joined (λ t. IsWhole t.source) (weigh_points 1 ends) (weigh_faces 1 faces)
            (all-points IsWhole 1 ends (each-all (λ p. IsWhole (OfPoint p)) point-whole ends)) (all-faces IsWhole 1 faces all_faces),
      ) in
      let sums =
      weighted-append N (weigh_points 1 ends) (weigh_faces 1 faces)
      ∙ ap (λ z. z +ℤ weighted_sum N (weigh_faces 1 faces)) (points-sum N 1 ends ∙ one-times (sum_ℤ (λ p. pos 4 *ℤ g p) ends) ∙ sum-times 4 g ends)
      ∙ ap (λ z. pos 4 *ℤ sum_ℤ g ends +ℤ z) (faces-sum N 1 faces ∙ one-times (sum_ℤ (λ f. sum_ℤ g (polygon_at level.polygons f)) faces)) in
      let n = pos 4 *ℤ sum_ℤ g ends +ℤ sum_ℤ (λ f. sum_ℤ g (polygon_at level.polygons f)) faces in
      let Q : ℕ → Type 0 = λ (k : ℕ). IsOver (k * k * (4 * m)) x (pos (k * (k - 2)) *ℤ (pos 4 *ℤ g v) +ℤ n) in
      let at_four : Q 4 = subst Q four (over ∙ ap (λ z. pos x.den *ℤ (pos (own * (own - 2)) *ℤ (pos 4 *ℤ g v) +ℤ z)) sums) in
      let order : 4 * 4 * (4 * m) ≡ 64 * m = omega arith in
      subst (λ (k : ℕ). IsOver k x (pos 32 *ℤ g v +ℤ n)) order (at_four ∙ ap (λ z. pos x.den *ℤ (z +ℤ n)) (eight (g v)))
    where
      eight : (a : ℤ) → pos 8 *ℤ (pos 4 *ℤ a) ≡ pos 32 *ℤ a
      eight a = omega (arith, ints)
