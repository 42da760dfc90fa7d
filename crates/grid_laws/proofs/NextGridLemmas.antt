-- In the next level points are regular where the points around their sources are, and grids have grids.
use Rattle.std.proofs.Common.{◌≡◌, ℕ, ◌<◌, true, false, nat_eq, List, length, arith, refl, ap, sym, ◌∙◌}
use Rattle.std.specs.List.{list_any}
use Rattle.std.proofs.lemmas.Bool.Decides.{nat_tests}
use Rattle.std.proofs.lemmas.Bool.{and_from}
use Rattle.subdiv_model.specs.Polygons.{same_edge}
use Rattle.subdiv_model.specs.Edges.{edges_of}
use Rattle.subdiv_model.specs.Sharpness.{Smooth, uniform_child, half_child}
use Rattle.subdiv_model.specs.Level.{Level, edge_sharpness_of, ring_at}
use Rattle.subdiv_model.specs.Child.{edge_point, face_point, child_level}
use Rattle.subdiv_model.specs.Patch.{is_regular_in_quads}
use Rattle.mesh_laws.proofs.ChildCountLemmas.{same-edge-point, face-face}
use Rattle.mesh_laws.proofs.ChildCornerLemmas.{side-named}
use Rattle.texture_laws.proofs.JoinLemmas.{turned-edge}
use Rattle.level_laws.proofs.HalfLemmas.{half-sharp, inside-smooth}
use Rattle.level_laws.proofs.NewPointLemmas.{new-smooth, old-uniform}
use Rattle.limit_laws.proofs.CreaseLemmas.{smooth-half, first-end, second-end}
use Rattle.limit_laws.proofs.EdgeStarLemmas.{from-one}
use Rattle.limit_laws.proofs.LevelLemmas.{level-over, well-levels}
use Rattle.mask_laws.specs.Laws.{IsManifoldWithSharpBoundary}
use Rattle.grid_laws.specs.Grids.{HasQuad, IsGrid, grid_at, child_grid}
use Rattle.grid_laws.proofs.QuadLemmas.{turned-quad, apart-swapped, quad-below, faces-apart, quad-apart}
use Rattle.grid_laws.proofs.StarLemmas.{HasStar, out-side}
use Rattle.grid_laws.proofs.GridLemmas.{quad-alike, four-pass, level-simple, regular-star}
use Rattle.grid_laws.proofs.RegularLemmas.{regular-edge, regular-vertex, sharpness-alike, star-regular}
use Rattle.grid_laws.proofs.ChildQuadLemmas.{child-quad, edge-back, quad-middle, child-quads-of}

-- two edges without a common end
sides-apart : (p q r s : ℕ) → nat_eq p r ≡ false → nat_eq p s ≡ false → same_edge (p, q) (r, s) ≡ false
sides-apart p q r s h k = grind (arith, nat_tests)

module _ (level : Level) (well : IsManifoldWithSharpBoundary level) where
  abbrev next : Level
  next = child_level level

  pub next-well : IsManifoldWithSharpBoundary (child_level level)
  next-well = well-levels level well 1

  abbrev new_edge : ℕ → ℕ → ℕ
  new_edge a b = edge_point level.point_count level.polygons (a, b)

  abbrev new_face : ℕ → ℕ
  new_face face = face_point level.point_count face

  -- a quad has an edge at its first corner
  quad-edge : {p q r s : ℕ} → (quad : HasQuad level.polygons p q r s) → list_any (same_edge (p, q)) (edges_of level.polygons) ≡ true
  quad-edge {p} {q} quad = side-named level.polygons quad.face (p, q) (out-side quad)

  -- the points of two edges are two
  new-apart : {p q r s : ℕ} → (quad : HasQuad level.polygons p q r s) → (a b : ℕ) → same_edge (p, q) (a, b) ≡ false → nat_eq (new_edge p q) (new_edge a b) ≡ false
  new-apart {p} {q} quad a b h = same-edge-point level.point_count level.polygons (p, q) (a, b) (quad-edge quad) ∙ h

  -- the half of a smooth edge at its first end
  half : {p q r s : ℕ} → (quad : HasQuad level.polygons p q r s) → edge_sharpness_of level (p, q) ≡ Smooth → edge_sharpness_of next (p, new_edge p q) ≡ Smooth
  half {p} {q} quad smooth =
      half-sharp level (level-over level well) (p, q) p (quad-edge quad) (first-end (p, q))
      ∙ ap (half_child level.method (ring_at level p)) smooth
      ∙ smooth-half level.method (ring_at level p)

  half-second : {p q r s : ℕ} → (quad : HasQuad level.polygons p q r s) → edge_sharpness_of level (p, q) ≡ Smooth → edge_sharpness_of next (q, new_edge p q) ≡ Smooth
  half-second {p} {q} quad smooth =
      half-sharp level (level-over level well) (p, q) q (quad-edge quad) (second-end (p, q))
      ∙ ap (half_child level.method (ring_at level q)) smooth
      ∙ smooth-half level.method (ring_at level q)

  turned-smooth : (a b : ℕ) → edge_sharpness_of next (a, b) ≡ Smooth → edge_sharpness_of next (b, a) ≡ Smooth
  turned-smooth a b h = sharpness-alike next (b, a) (a, b) (turned-edge b a) ∙ h

  -- the first side of a quad at a regular point is smooth
  smooth-side : {p q r s : ℕ} → is_regular_in_quads level p ≡ true → (quad : HasQuad level.polygons p q r s) → edge_sharpness_of level (p, q) ≡ Smooth
  smooth-side {p} {q} regular quad =
      regular-edge level well p quad.face q regular (out-side quad)

  -- a regular point of the level is regular in the next level
  pub next-vertex : {p q r s : ℕ} → is_regular_in_quads level p ≡ true → HasQuad level.polygons p q r s → is_regular_in_quads next p ≡ true
  next-vertex {p} {q} {r} {s} regular quad =
      let from = regular-star level well regular quad in
      let a = from.is.first in
      let b = from.is.second in
      let c = from.is.third in
      let d = from.is.fourth in
      let star : HasStar next.polygons p (new_edge p q) (new_edge p s) (new_edge p from.c) (new_edge p from.d) (new_face a.face) (new_face b.face) (new_face c.face) (new_face d.face) = record {
        first = quad-alike refl refl refl (edge-back level well s p) (child-quad level well a);
        second = quad-alike refl refl refl (edge-back level well from.c p) (child-quad level well b);
        third = quad-alike refl refl refl (edge-back level well from.d p) (child-quad level well c);
        fourth = quad-alike refl refl refl (edge-back level well q p) (child-quad level well d);
        ac = new-apart a p from.c (from-one p q from.c ∙ from.is.ac);
        bd = new-apart b p from.d (from-one p s from.d ∙ from.is.bd);
      } in
      let below : p < level.point_count = let h = quad-below level.polygons level.point_count (level-over level well) quad in grind (arith, nat_tests) in
      star-regular next next-well star (old-uniform level p below ∙ ap uniform_child (regular-vertex level well p regular))
      (half a (smooth-side regular a)) (half b (smooth-side regular b)) (half c (smooth-side regular c)) (half d (smooth-side regular d))

  -- the new point of a face is regular
  pub next-face : {p q r s : ℕ} → (quad : HasQuad level.polygons p q r s) → is_regular_in_quads next (new_face quad.face) ≡ true
  next-face {p} {q} {r} {s} quad =
      let x = new_face quad.face in
      let second = turned-quad quad in
      let third = turned-quad second in
      let fourth = turned-quad third in
      let apart = quad-apart level.polygons (level-simple level well) quad in
      let star : HasStar next.polygons x (new_edge s p) (new_edge p q) (new_edge q r) (new_edge r s) p q r s = record {
        first = turned-quad (turned-quad (child-quad level well quad));
        second = turned-quad (turned-quad (child-quad level well second));
        third = turned-quad (turned-quad (child-quad level well third));
        fourth = turned-quad (turned-quad (child-quad level well fourth));
        ac = new-apart fourth q r (sides-apart s p q r (apart-swapped q s apart.qs) (apart-swapped r s apart.rs));
        bd = new-apart quad r s (sides-apart p q r s apart.pr apart.ps);
      } in
      star-regular next next-well star (new-smooth level x (omega arith)) (inner (s, p)) (inner (p, q)) (inner (q, r)) (inner (r, s))
    where
      inner : (e : ℕ × ℕ) → edge_sharpness_of next (new_face quad.face, edge_point level.point_count level.polygons e) ≡ Smooth
      inner e = (inside-smooth level (level-over level well) quad.face e quad.inside).0

  -- the new point of a smooth edge of two faces is regular
  pub next-edge : {p q r s t u : ℕ} → (quad : HasQuad level.polygons p q r s) → (other : HasQuad level.polygons q p t u) → edge_sharpness_of level (p, q) ≡ Smooth
      → is_regular_in_quads next (new_edge p q) ≡ true
  next-edge {p} {q} {r} {s} {t} {u} quad other smooth =
      let x = new_edge p q in
      let f = quad.face in
      let g = other.face in
      let star : HasStar next.polygons x q (new_face f) p (new_face g) (new_edge q r) (new_edge s p) (new_edge p t) (new_edge u q) = record {
        first = turned-quad (turned-quad (turned-quad (child-quad level well (turned-quad quad))));
        second = turned-quad (child-quad level well quad);
        third = quad-alike (edge-back level well q p) refl refl refl (turned-quad (turned-quad (turned-quad (child-quad level well (turned-quad other)))));
        fourth = quad-alike (edge-back level well q p) refl refl refl (turned-quad (child-quad level well other));
        ac = apart-swapped p q (quad-apart level.polygons (level-simple level well) quad).pq;
        bd = face-face level.point_count level.polygons f g ∙ two-faces;
      } in
      star-regular next next-well star (new-smooth level x (omega arith)) (turned-smooth q x (half-second quad smooth)) (inner f quad.inside)
      (turned-smooth p x (half quad smooth)) (inner g other.inside)
    where
      inner : (face : ℕ) → face < length level.polygons → edge_sharpness_of next (new_edge p q, new_face face) ≡ Smooth
      inner face inside = (inside-smooth level (level-over level well) face (p, q) inside).1

      two-faces : nat_eq quad.face other.face ≡ false
      two-faces =
          faces-apart level.polygons (level-simple level well) quad.face other.face p q
          (out-side quad)
          (out-side other)

  -- the grid of the child of the first corner
  pub next-grid : (grid : List (List ℕ)) → IsGrid level grid → IsGrid next (child_grid level grid)
  next-grid grid is =
      let regular = four-pass (is_regular_in_quads level) (grid_at grid 1 1) (grid_at grid 2 1) (grid_at grid 2 2) (grid_at grid 1 2) is.regular in
      let quad : HasQuad level.polygons (grid_at grid 1 1) (grid_at grid 2 1) (grid_at grid 2 2) (grid_at grid 1 2) = is.quads 1 1 (omega arith) (omega arith) in
      let below : HasQuad level.polygons (grid_at grid 2 1) (grid_at grid 1 1) (grid_at grid 1 0) (grid_at grid 2 0) =
      turned-quad (turned-quad (is.quads 1 0 (omega arith) (omega arith))) in
      let beside : HasQuad level.polygons (grid_at grid 1 1) (grid_at grid 1 2) (grid_at grid 0 2) (grid_at grid 0 1) =
      turned-quad (is.quads 0 1 (omega arith) (omega arith)) in
      record {
        listed = refl;
        quads = child-quads-of level well grid is;
        regular =
            and_from _ _ (next-vertex regular.0 quad)
            (and_from _ _ (next-edge quad below (smooth-side regular.0 quad))
            (and_from _ _ (ap (is_regular_in_quads next) (sym (quad-middle level well grid is 1 1 (omega arith) (omega arith))) ∙ next-face quad)
            (and_from _ _ (next-edge beside (turned-quad (turned-quad (turned-quad quad))) (smooth-side regular.0 beside)) refl)));
      }
