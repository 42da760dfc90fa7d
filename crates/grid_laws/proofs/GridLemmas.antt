-- The grid about a face: its points follow from its nine quads, and a regular face inside has one.
use Rattle.std.proofs.Common.{◌≡◌, ℕ, zero, suc, ◌+◌, ◌<◌, Bool, true, false, not, ◌&&◌, nat_eq, List, [], ◌∷◌, length, get_or, arith, refl, ap, sym, ◌∙◌, subst}
use Rattle.std.specs.List.{list_all, list_any}
use Rattle.std.proofs.lemmas.Bool.Decides.{nat_tests}
use Rattle.std.proofs.lemmas.Bool.{and_parts, and_from, eqb-true, eq-eqb, not-true}
use Rattle.subdiv_model.specs.Polygons.{Polygon, polygon_at, has_distinct_sides}
use Rattle.subdiv_model.specs.Edges.{all_sides}
use Rattle.subdiv_model.specs.Manifold.{HasOneFan, is_simple}
use Rattle.subdiv_model.specs.Sharpness.{is_sharp}
use Rattle.subdiv_model.specs.Level.{Level, vertex_sharpness_of, edges_at, faces_at}
use Rattle.subdiv_model.specs.Feature.{is_at_boundary, is_sharp_inside, is_smooth_at}
use Rattle.subdiv_model.specs.Patch.{is_quad, is_regular_in_quads, has_patch, corner_from, beside_start, beside_end, across_start, grid_of_quad, patch_points}
use Rattle.mesh_laws.proofs.Laws.{all-simple}
use Rattle.mask_laws.specs.Laws.{IsManifoldWithSharpBoundary}
use Rattle.limit_laws.proofs.LevelLemmas.{level-over}
use Rattle.grid_laws.specs.Grids.{from_first, HasQuad, HasGridQuad, IsGrid, IsStar, grid_at, listed_grid, inner_corners, turned_grid, grid_from}
use Rattle.grid_laws.proofs.QuadLemmas.{turned-quad, four-alike, four-listed, quad-below, quad-third, quad-fourth}
use Rattle.grid_laws.proofs.AroundLemmas.{HasStarFrom, star-of}

-- a quad under other names of its corners
pub quad-alike : {polygons : List Polygon} {a b c d p q r s : ℕ} → a ≡ p → b ≡ q → c ≡ r → d ≡ s → HasQuad polygons a b c d → HasQuad polygons p q r s
quad-alike {polygons} {a} {b} {c} {d} {p} {q} {r} {s} e f g h quad =
    subst (λ n. HasQuad polygons n q r s) e
    (subst (λ n. HasQuad polygons a n r s) f (subst (λ n. HasQuad polygons a b n s) g (subst (λ n. HasQuad polygons a b c n) h quad)))

-- A quad beyond a side, and one at a corner.

module _ (polygons : List Polygon) (simple : list_all is_simple polygons ≡ true) (distinct : has_distinct_sides (all_sides polygons) ≡ true) where
  beyond-start : {a b x y : ℕ} → HasQuad polygons a x y b → beside_start polygons (a, b) ≡ x
  beyond-start quad = quad-third polygons simple distinct (turned-quad (turned-quad (turned-quad quad)))

  beyond-end : {a b x y : ℕ} → HasQuad polygons a x y b → beside_end polygons (a, b) ≡ y
  beyond-end quad = quad-fourth polygons simple distinct (turned-quad (turned-quad (turned-quad quad)))

  beyond-corner : {a b x y z w : ℕ} → HasQuad polygons a x y b → HasQuad polygons z x a w → across_start polygons (a, b) ≡ z
  beyond-corner {a} {b} {x} {y} {z} {w} quad corner =
      ap (λ (n : ℕ). corner_from polygons (n, a) 3) (beyond-start quad) ∙ quad-fourth polygons simple distinct (turned-quad corner)

  -- the points of the patch of the quad in the middle of nine are theirs
  same-points : (grid : List (List ℕ)) → ((i j : ℕ) → i < 3 → j < 3 → HasGridQuad polygons grid i j)
      → grid_of_quad polygons (grid_at grid 1 1) (grid_at grid 2 1) (grid_at grid 2 2) (grid_at grid 1 2) ≡ listed_grid grid
  same-points grid quads =
      let ab : HasQuad polygons (grid_at grid 1 1) (grid_at grid 1 0) (grid_at grid 2 0) (grid_at grid 2 1) =
      turned-quad (turned-quad (turned-quad (quads 1 0 (omega arith) (omega arith)))) in
      let bc : HasQuad polygons (grid_at grid 2 1) (grid_at grid 3 1) (grid_at grid 3 2) (grid_at grid 2 2) = quads 2 1 (omega arith) (omega arith) in
      let cd : HasQuad polygons (grid_at grid 2 2) (grid_at grid 2 3) (grid_at grid 1 3) (grid_at grid 1 2) = turned-quad (quads 1 2 (omega arith) (omega arith)) in
      let da : HasQuad polygons (grid_at grid 1 2) (grid_at grid 0 2) (grid_at grid 0 1) (grid_at grid 1 1) =
      turned-quad (turned-quad (quads 0 1 (omega arith) (omega arith))) in
      let a : HasQuad polygons (grid_at grid 0 0) (grid_at grid 1 0) (grid_at grid 1 1) (grid_at grid 0 1) = quads 0 0 (omega arith) (omega arith) in
      let b : HasQuad polygons (grid_at grid 3 0) (grid_at grid 3 1) (grid_at grid 2 1) (grid_at grid 2 0) = turned-quad (quads 2 0 (omega arith) (omega arith)) in
      let c : HasQuad polygons (grid_at grid 3 3) (grid_at grid 2 3) (grid_at grid 2 2) (grid_at grid 3 2) =
      turned-quad (turned-quad (quads 2 2 (omega arith) (omega arith))) in
      let d : HasQuad polygons (grid_at grid 0 3) (grid_at grid 0 2) (grid_at grid 1 2) (grid_at grid 1 3) =
      turned-quad (turned-quad (turned-quad (quads 0 2 (omega arith) (omega arith)))) in
      four-alike
      (four-alike (beyond-corner ab a) (beyond-start ab) (beyond-end ab) (beyond-corner bc b))
      (four-alike (beyond-end da) refl refl (beyond-start bc))
      (four-alike (beyond-start da) refl refl (beyond-end bc))
      (four-alike (beyond-corner da d) (beyond-end cd) (beyond-start cd) (beyond-corner cd c))

-- Regular points.

-- what a regular point is, condition by condition
pub record IsRegular (level : Level) (v : ℕ) : Type 0 where
  pub inside : is_at_boundary level v ≡ false
  pub four : length (faces_at level v) ≡ 4
  pub quads : list_all (is_quad level) (faces_at level v) ≡ true
  pub smooth_point : is_sharp (vertex_sharpness_of level v) ≡ false
  pub smooth_edges : list_any (is_sharp_inside level) (edges_at level v) ≡ false

pub regular-parts : (level : Level) (v : ℕ) → is_regular_in_quads level v ≡ true → IsRegular level v
regular-parts level v h =
    let one = and_parts (not (is_at_boundary level v) && nat_eq (length (faces_at level v)) 4 && list_all (is_quad level) (faces_at level v)) (is_smooth_at level v) h in
    let two = and_parts (not (is_at_boundary level v) && nat_eq (length (faces_at level v)) 4) (list_all (is_quad level) (faces_at level v)) one.0 in
    let three = and_parts (not (is_at_boundary level v)) (nat_eq (length (faces_at level v)) 4) two.0 in
    let smooth = and_parts (not (is_sharp (vertex_sharpness_of level v))) (not (list_any (is_sharp_inside level) (edges_at level v))) one.1 in
    record {
      inside = not-true _ three.0;
      four = eqb-true _ 4 three.1;
      quads = two.1;
      smooth_point = not-true _ smooth.0;
      smooth_edges = not-true _ smooth.1;
    }

pub regular-from : (level : Level) (v : ℕ) → IsRegular level v → is_regular_in_quads level v ≡ true
regular-from level v is =
    and_from _ _ (and_from _ _ (and_from _ _ (ap not is.inside) (eq-eqb _ 4 is.four)) is.quads)
    (and_from _ _ (ap not is.smooth_point) (ap not is.smooth_edges))

-- Levels.

module _ (level : Level) (well : IsManifoldWithSharpBoundary level) where
  pub level-simple : list_all is_simple level.polygons ≡ true
  level-simple = all-simple level.point_count level.polygons well.manifold

  pub level-distinct : has_distinct_sides (all_sides level.polygons) ≡ true
  level-distinct = well.manifold.sides_once

  pub quad-fan : {p q r s : ℕ} → HasQuad level.polygons p q r s → HasOneFan level.polygons p
  quad-fan {p} {q} {r} {s} quad =
      let below = quad-below level.polygons level.point_count (level-over level well) quad in
      well.manifold.fans p (grind (arith, nat_tests))

  -- from each quad at a regular point on, there are four
  pub regular-star : {p q r s : ℕ} → is_regular_in_quads level p ≡ true → HasQuad level.polygons p q r s → HasStarFrom level.polygons level-simple level-distinct p q r s
  regular-star {p} {q} {r} {s} regular quad =
      let is = regular-parts level p regular in
      star-of level.polygons level-simple level-distinct p (quad-fan quad) is.inside is.four is.quads quad

  -- the quad beyond a side from a regular point, and the quad across that point
  beyond : {a b c d : ℕ} → is_regular_in_quads level a ≡ true → HasQuad level.polygons a b c d
      → HasQuad level.polygons a (beside_start level.polygons (a, b)) (beside_end level.polygons (a, b)) b
  beyond regular quad =
      let star = regular-star regular quad in
      quad-alike refl (sym (beyond-start level.polygons level-simple level-distinct star.is.fourth))
      (sym (beyond-end level.polygons level-simple level-distinct star.is.fourth)) refl star.is.fourth

  across : {a b c d : ℕ} → is_regular_in_quads level a ≡ true → HasQuad level.polygons a b c d
      → HasQuad level.polygons (across_start level.polygons (a, b)) (beside_start level.polygons (a, b)) a (beside_end level.polygons (d, a))
  across regular quad =
      let star = regular-star regular quad in
      let third = turned-quad (turned-quad star.is.third) in
      quad-alike (sym (beyond-corner level.polygons level-simple level-distinct star.is.fourth third))
      (sym (beyond-start level.polygons level-simple level-distinct star.is.fourth)) refl
      (sym (quad-fourth level.polygons level-simple level-distinct star.is.second)) third

  -- a quad of four regular points is the middle one of nine quads
  regular-quads : {a b c d : ℕ} → is_regular_in_quads level a ≡ true → is_regular_in_quads level b ≡ true → is_regular_in_quads level c ≡ true
      → is_regular_in_quads level d ≡ true → HasQuad level.polygons a b c d
      → (i j : ℕ) → i < 3 → j < 3 → HasGridQuad level.polygons (grid_of_quad level.polygons a b c d) i j
  regular-quads ra rb rc rd quad zero zero h k = across ra quad
  regular-quads ra rb rc rd quad (suc zero) zero h k = turned-quad (beyond ra quad)
  regular-quads ra rb rc rd quad (suc (suc zero)) zero h k = turned-quad (turned-quad (turned-quad (across rb (turned-quad quad))))
  regular-quads ra rb rc rd quad zero (suc zero) h k = turned-quad (turned-quad (beyond rd (turned-quad (turned-quad (turned-quad quad)))))
  regular-quads ra rb rc rd quad (suc zero) (suc zero) h k = quad
  regular-quads ra rb rc rd quad (suc (suc zero)) (suc zero) h k = beyond rb (turned-quad quad)
  regular-quads ra rb rc rd quad zero (suc (suc zero)) h k = turned-quad (across rd (turned-quad (turned-quad (turned-quad quad))))
  regular-quads ra rb rc rd quad (suc zero) (suc (suc zero)) h k = turned-quad (turned-quad (turned-quad (beyond rc (turned-quad (turned-quad quad)))))
  regular-quads ra rb rc rd quad (suc (suc zero)) (suc (suc zero)) h k = turned-quad (turned-quad (across rc (turned-quad (turned-quad quad))))
  regular-quads ra rb rc rd quad (suc (suc (suc i))) j h k = absurd (omega arith)
  regular-quads ra rb rc rd quad i (suc (suc (suc j))) h k = absurd (omega arith)

-- The patch of a face.

-- the face of a patch has four corners, which are regular
pub patch-parts : (level : Level) (face : ℕ) → has_patch level face ≡ true
    → (length (polygon_at level.polygons face) ≡ 4) × (list_all (is_regular_in_quads level) (polygon_at level.polygons face) ≡ true)
patch-parts level face h =
    let parts = and_parts (is_quad level face) (list_all (is_regular_in_quads level) (polygon_at level.polygons face)) h in
    (eqb-true _ 4 parts.0, parts.1)

-- the face is the middle of the points of its patch
pub patch-middle : (level : Level) (face : ℕ) → has_patch level face ≡ true → polygon_at level.polygons face ≡ inner_corners (patch_points level face)
patch-middle level face h = four-listed (polygon_at level.polygons face) (patch-parts level face h).0

patch-regular : (level : Level) (face : ℕ) → has_patch level face ≡ true
    → list_all (is_regular_in_quads level) (inner_corners (patch_points level face)) ≡ true
patch-regular level face h =
    ap (list_all (is_regular_in_quads level)) (sym (patch-middle level face h)) ∙ (patch-parts level face h).1

-- each of four numbers that pass does
pub four-pass : (test : ℕ → Bool) (a b c d : ℕ) → list_all test (a ∷ b ∷ c ∷ d ∷ []) ≡ true → (test a ≡ true) × (test b ≡ true) × (test c ≡ true) × (test d ≡ true)
four-pass test a b c d h =
    let one = and_parts (test a) (list_all test (b ∷ c ∷ d ∷ [])) h in
    let two = and_parts (test b) (list_all test (c ∷ d ∷ [])) one.1 in
    let three = and_parts (test c) (list_all test (d ∷ [])) two.1 in
    let four = and_parts (test d) (list_all test []) three.1 in
    (one.0, two.0, three.0, four.0)

-- the points of the patch of a face are a grid
pub patch-grid : (level : Level) (face : ℕ) → IsManifoldWithSharpBoundary level → face < length level.polygons → has_patch level face ≡ true
    → IsGrid level (patch_points level face)
patch-grid level face well inside h =
    let polygon = polygon_at level.polygons face in
    let all = patch-regular level face h in
    let each = four-pass (is_regular_in_quads level) (get_or polygon 0 0) (get_or polygon 1 0) (get_or polygon 2 0) (get_or polygon 3 0) all in
    let quad : HasQuad level.polygons (get_or polygon 0 0) (get_or polygon 1 0) (get_or polygon 2 0) (get_or polygon 3 0) =
    record { face = face; inside = inside; is = from_first (patch-middle level face h) } in
    record {
      listed = refl;
      quads = regular-quads level well each.0 each.1 each.2 each.3 quad;
      regular = all;
    }

-- the face in the middle of a grid has a patch
pub grid-patch : (level : Level) (face : ℕ) (grid : List (List ℕ)) → IsGrid level grid → polygon_at level.polygons face ≡ inner_corners grid → has_patch level face ≡ true
grid-patch level face grid is e =
    and_from _ _ (ap (λ (p : Polygon). nat_eq (length p) 4) e) (ap (list_all (is_regular_in_quads level)) e ∙ is.regular)

-- the points of the patch of the face in the middle of a grid are the grid
pub grid-points : (level : Level) (face : ℕ) (grid : List (List ℕ)) → IsManifoldWithSharpBoundary level → IsGrid level grid
    → polygon_at level.polygons face ≡ inner_corners grid → patch_points level face ≡ grid
grid-points level face grid well is e =
    ap (λ (p : Polygon). grid_of_quad level.polygons (get_or p 0 0) (get_or p 1 0) (get_or p 2 0) (get_or p 3 0)) e
    ∙ same-points level.polygons (level-simple level well) (level-distinct level well) grid is.quads ∙ sym is.listed

-- the four quads about a corner of the middle
pub grid-star : (level : Level) (grid : List (List ℕ)) → IsGrid level grid → (i j : ℕ) → i < 2 → j < 2 → is_regular_in_quads level (grid_at grid (i + 1) (j + 1)) ≡ true
    → IsStar level (grid_at grid (i + 1) (j + 1))
    (grid_at grid (i + 1 + 1) (j + 1)) (grid_at grid (i + 1) (j + 1 + 1)) (grid_at grid i (j + 1)) (grid_at grid (i + 1) j)
    (grid_at grid (i + 1 + 1) (j + 1 + 1)) (grid_at grid i (j + 1 + 1)) (grid_at grid i j) (grid_at grid (i + 1 + 1) j)
grid-star level grid is i j below_i below_j regular = record {
  regular = regular;
  first = is.quads (i + 1) (j + 1) (omega arith) (omega arith);
  second = turned-quad (is.quads i (j + 1) (omega arith) (omega arith));
  third = turned-quad (turned-quad (is.quads i j (omega arith) (omega arith)));
  fourth = turned-quad (turned-quad (turned-quad (is.quads (i + 1) j (omega arith) (omega arith))));
}

-- Grids from each corner.

pub turned-grid : (level : Level) (grid : List (List ℕ)) → IsGrid level grid → IsGrid level (turned_grid grid)
turned-grid level grid is = record { listed = refl; quads = turned; regular = corners }
  where
    turned : (i j : ℕ) → i < 3 → j < 3 → HasGridQuad level.polygons (turned_grid grid) i j
    turned zero zero h k = turned-quad (is.quads 2 0 (omega arith) (omega arith))
    turned (suc zero) zero h k = turned-quad (is.quads 2 1 (omega arith) (omega arith))
    turned (suc (suc zero)) zero h k = turned-quad (is.quads 2 2 (omega arith) (omega arith))
    turned zero (suc zero) h k = turned-quad (is.quads 1 0 (omega arith) (omega arith))
    turned (suc zero) (suc zero) h k = turned-quad (is.quads 1 1 (omega arith) (omega arith))
    turned (suc (suc zero)) (suc zero) h k = turned-quad (is.quads 1 2 (omega arith) (omega arith))
    turned zero (suc (suc zero)) h k = turned-quad (is.quads 0 0 (omega arith) (omega arith))
    turned (suc zero) (suc (suc zero)) h k = turned-quad (is.quads 0 1 (omega arith) (omega arith))
    turned (suc (suc zero)) (suc (suc zero)) h k = turned-quad (is.quads 0 2 (omega arith) (omega arith))
    turned (suc (suc (suc i))) j h k = absurd (omega arith)
    turned i (suc (suc (suc j))) h k = absurd (omega arith)

    corners : list_all (is_regular_in_quads level) (inner_corners (turned_grid grid)) ≡ true
    corners =
        let each = four-pass (is_regular_in_quads level) (grid_at grid 1 1) (grid_at grid 2 1) (grid_at grid 2 2) (grid_at grid 1 2) is.regular in
        and_from _ _ each.1 (and_from _ _ each.2 (and_from _ _ each.3 (and_from _ _ each.0 refl)))

pub grid-from : (level : Level) (grid : List (List ℕ)) (c : ℕ) → IsGrid level grid → IsGrid level (grid_from c grid)
grid-from level grid zero is = is
grid-from level grid (suc c) is = turned-grid level (grid_from c grid) (grid-from level grid c is)
