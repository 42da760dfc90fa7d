-- A point with four quads about it is regular where nothing is sharp there, and nothing is sharp at a regular point.
use Rattle.std.proofs.Common.{◌≡◌, ℕ, ◌<◌, Bool, true, false, not, ◌&&◌, nat_eq, List, [], ◌∷◌, length, get_or, arith, refl, ap, sym, ◌∙◌, ◌⊎◌, inl, inr}
use Rattle.std.specs.List.{filter, list_all, list_any}
use Rattle.std.proofs.lemmas.Bool.Decides.{nat_tests}
use Rattle.std.proofs.lemmas.Bool.{and_parts, and_from, and_right, eqb-true, eq-eqb, false_from_ne_true, false≢true}
use Rattle.subdiv_model.specs.Polygons.{Polygon, same_side, same_edge, has_side, has_corner, is_among, polygon_at}
use Rattle.subdiv_model.specs.Edges.{all_sides, edges_of, has_end, is_boundary}
use Rattle.subdiv_model.specs.Manifold.{HasOneFan}
use Rattle.subdiv_model.specs.Sharpness.{Sharpness, Smooth, Semi, Infinite, is_sharp}
use Rattle.subdiv_model.specs.Level.{Level, edge_sharpness_of, vertex_sharpness_of, faces_at}
use Rattle.subdiv_model.specs.Feature.{is_at_boundary, is_sharp_inside}
use Rattle.subdiv_model.specs.Patch.{is_quad, is_regular_in_quads}
use Rattle.number_laws.proofs.CountLemmas.{one-yes, count-some}
use Rattle.mesh_laws.proofs.EdgeLemmas.{any-first_named, position-alike}
use Rattle.mesh_laws.proofs.ClosedLemmas.{any-all, any-here, any-place, any-side-edge}
use Rattle.mesh_laws.proofs.PointLemmas.{boundary-alike, boundary-back}
use Rattle.mesh_laws.proofs.FanLemmas.{faces-among, follower-unique, leader-unique, distinct-at, side-start, side-end}
use Rattle.limit_laws.proofs.CreaseLemmas.{first-end}
use Rattle.limit_laws.proofs.EdgeStarLemmas.{kept-both, end-alike, sides-listed}
use Rattle.mask_laws.specs.Laws.{IsManifoldWithSharpBoundary}
use Rattle.grid_laws.specs.Grids.{HasQuad}
use Rattle.grid_laws.proofs.QuadLemmas.{quad-length}
use Rattle.grid_laws.proofs.StarLemmas.{HasStar, in-side, out-side, four-ways, star-all, star-four}
use Rattle.grid_laws.proofs.AroundLemmas.{kept-any, boundary-at_point}
use Rattle.grid_laws.proofs.GridLemmas.{regular-parts, regular-from, level-simple, level-distinct, quad-fan}

-- Lists.

-- if no kept item that is listed passes, no kept item passes
none-kept : {X : Type 0} (keep listed test : X → Bool) → ((x : X) → keep x ≡ true → listed x ≡ true → test x ≡ false) → (xs : List X) → list_all listed xs ≡ true
    → list_any test (filter keep xs) ≡ false
none-kept keep listed test none xs h = false_from_ne_true _ (λ some.
    let found = any-all test (λ x. keep x && listed x) (filter keep xs) some (kept-both keep listed xs h) in
    let parts = and_parts (keep found.0) (listed found.0) found.2 in
    false≢true (sym (none found.0 parts.0 parts.1) ∙ found.1))

-- what passes at each that is among a list passes in all of it
pub all-from-among : (test : ℕ → Bool) (numbers : List ℕ) → ((n : ℕ) → is_among numbers n ≡ true → test n ≡ true) → list_all test numbers ≡ true
all-from-among test [] h = refl
all-from-among test (m ∷ numbers) h =
    and_from _ _ (h m (grind (arith, nat_tests))) (all-from-among test numbers (λ n among. h n (grind (arith, nat_tests))))

-- Sharpness.

not-sharp : (s : Sharpness) → is_sharp s ≡ false → s ≡ Smooth
not-sharp Smooth h = refl
not-sharp (Semi num den) h = absurd (false≢true (sym h))
not-sharp Infinite h = absurd (false≢true (sym h))

-- the sharpness of an edge, named in either direction
pub sharpness-alike : (level : Level) (s t : ℕ × ℕ) → same_edge s t ≡ true → edge_sharpness_of level s ≡ edge_sharpness_of level t
sharpness-alike level s t h = ap (λ n. get_or level.edge_sharpness n Smooth) (position-alike s t (edges_of level.polygons) h)

-- Edges at a point.

module _ (level : Level) (well : IsManifoldWithSharpBoundary level) where
  abbrev polygons : List Polygon
  polygons = level.polygons

  -- the edges at a regular point are smooth
  pub regular-edge : (v face a : ℕ) → is_regular_in_quads level v ≡ true → has_side (v, a) (polygon_at polygons face) ≡ true
      → edge_sharpness_of level (v, a) ≡ Smooth
  regular-edge v face a regular side =
      let is = regular-parts level v regular in
      let there = any-here (same_side (v, a)) polygons face side in
      let end = first-end (v, a) in
      let two : is_boundary polygons (v, a) ≡ false =
      false_from_ne_true _ (λ boundary. false≢true (sym is.inside ∙ boundary-at_point polygons (level-simple level well) (level-distinct level well) v (v, a) there end boundary)) in
      not-sharp (edge_sharpness_of level (v, a)) (false_from_ne_true _ (λ sharp.
      false≢true (sym is.smooth_edges
      ∙ kept-any (has_end v) (is_sharp_inside level) (same_edge (v, a)) (λ e h. (
        end-alike v (v, a) e end h,
        and_from _ _ (ap not (sym (boundary-alike polygons (level-simple level well) (v, a) e h) ∙ two))
            (ap is_sharp (sym (sharpness-alike level (v, a) e h)) ∙ sharp),
      )) (edges_of polygons) (any-first_named (v, a) (all_sides polygons) ∙ any-side-edge (v, a) (all_sides polygons) there))))

  -- the point is smooth
  pub regular-vertex : (v : ℕ) → is_regular_in_quads level v ≡ true → vertex_sharpness_of level v ≡ Smooth
  regular-vertex v regular = not-sharp (vertex_sharpness_of level v) (regular-parts level v regular).smooth_point

  -- A point with four quads about it.

  module _ {v a b c d w x y z : ℕ} (star : HasStar polygons v a b c d w x y z) where
    abbrev fan : HasOneFan polygons v
    fan = quad-fan level well star.first

    -- the side is on an edge from the point to the other end
    abbrev pub IsEdgeTo : ℕ → ℕ × ℕ → Type 0
    IsEdgeTo n e = same_edge e (v, n) ≡ true

    abbrev pub IsSpoke : ℕ × ℕ → Type 0
    IsSpoke e = IsEdgeTo a e ⊎ (IsEdgeTo b e ⊎ (IsEdgeTo c e ⊎ IsEdgeTo d e))

    out-to : (e : ℕ × ℕ) (n : ℕ) → nat_eq v e.0 ≡ true → n ≡ e.1 → IsEdgeTo n e
    out-to e n h same = let k = eq-eqb n e.1 same in grind (arith, nat_tests)

    in-to : (e : ℕ × ℕ) (n : ℕ) → nat_eq v e.1 ≡ true → n ≡ e.0 → IsEdgeTo n e
    in-to e n h same = let k = eq-eqb n e.0 same in grind (arith, nat_tests)

    out-from : {p q r : ℕ} → (quad : HasQuad polygons v p q r) → (e : ℕ × ℕ) (face : ℕ)
        → has_side e (polygon_at polygons face) ≡ true → v ≡ e.0 → face ≡ quad.face → p ≡ e.1
    out-from {p} {q} {r} quad e face side same at =
        follower-unique (polygon_at polygons quad.face) v p e.1 (distinct-at polygons quad.face (level-simple level well))
        (out-side quad)
        (ap (λ (n : ℕ). has_side (n, e.1) (polygon_at polygons quad.face)) same ∙ ap (λ f. has_side e (polygon_at polygons f)) (sym at) ∙ side)

    in-from : {p q r : ℕ} → (quad : HasQuad polygons v p q r) → (e : ℕ × ℕ) (face : ℕ)
        → has_side e (polygon_at polygons face) ≡ true → v ≡ e.1 → face ≡ quad.face → r ≡ e.0
    in-from {p} {q} {r} quad e face side same at =
        leader-unique (polygon_at polygons quad.face) v r e.0 (distinct-at polygons quad.face (level-simple level well))
        (in-side quad)
        (ap (λ (n : ℕ). has_side (e.0, n) (polygon_at polygons quad.face)) same ∙ ap (λ f. has_side e (polygon_at polygons f)) (sym at) ∙ side)

    abbrev OneOf : ℕ → Type 0
    OneOf face = (face ≡ star.first.face) ⊎ ((face ≡ star.second.face) ⊎ ((face ≡ star.third.face) ⊎ (face ≡ star.fourth.face)))

    one-of : (face : ℕ) → has_corner v (polygon_at polygons face) ≡ true → OneOf face
    one-of face h =
        four-ways star.first.face star.second.face star.third.face star.fourth.face face
        (star-all polygons (level-simple level well) (level-distinct level well) star fan face h)

    -- each edge that ends there goes to one of the four ends
    pub spoke : (e : ℕ × ℕ) → has_end v e ≡ true → list_any (same_side e) (all_sides polygons) ≡ true → IsSpoke e
    spoke e end there = go found.0 found.2 (nat_eq v e.0) refl
      where
        found : (k : ℕ) × (k < length polygons) × (has_side e (polygon_at polygons k) ≡ true)
        found = any-place (same_side e) polygons there

        out : (face : ℕ) → has_side e (polygon_at polygons face) ≡ true → nat_eq v e.0 ≡ true → OneOf face → IsSpoke e
        out face side h (inl at) = inl (out-to e a h (out-from star.first e face side (eqb-true v e.0 h) at))
        out face side h (inr (inl at)) = inr (inl (out-to e b h (out-from star.second e face side (eqb-true v e.0 h) at)))
        out face side h (inr (inr (inl at))) = inr (inr (inl (out-to e c h (out-from star.third e face side (eqb-true v e.0 h) at))))
        out face side h (inr (inr (inr at))) = inr (inr (inr (out-to e d h (out-from star.fourth e face side (eqb-true v e.0 h) at))))

        into : (face : ℕ) → has_side e (polygon_at polygons face) ≡ true → nat_eq v e.1 ≡ true → OneOf face → IsSpoke e
        into face side h (inl at) = inr (inl (in-to e b h (in-from star.first e face side (eqb-true v e.1 h) at)))
        into face side h (inr (inl at)) = inr (inr (inl (in-to e c h (in-from star.second e face side (eqb-true v e.1 h) at))))
        into face side h (inr (inr (inl at))) = inr (inr (inr (in-to e d h (in-from star.third e face side (eqb-true v e.1 h) at))))
        into face side h (inr (inr (inr at))) = inl (in-to e a h (in-from star.fourth e face side (eqb-true v e.1 h) at))

        go : (face : ℕ) → has_side e (polygon_at polygons face) ≡ true → (first : Bool) → nat_eq v e.0 ≡ first → IsSpoke e
        go face side true h =
            let same : e.0 ≡ v = sym (eqb-true v e.0 h) in
            out face side h (one-of face (ap (λ n. has_corner n (polygon_at polygons face)) (sym same) ∙ side-start (polygon_at polygons face) e side))
        go face side false h =
            let second : nat_eq v e.1 ≡ true = grind (arith, nat_tests) in
            into face side second (one-of face (ap (λ n. has_corner n (polygon_at polygons face)) (eqb-true v e.1 second) ∙ side-end (polygon_at polygons face) e side))

    -- an edge between two of the quads is of two faces
    two-faced : {p q r s t : ℕ} → HasQuad polygons v p q r → HasQuad polygons v r s t → is_boundary polygons (v, r) ≡ false
    two-faced {p} {q} {r} {s} {t} before quad = false_from_ne_true _ (λ boundary.
        let forth = any-here (same_side (v, r)) polygons quad.face (out-side quad) in
        let back = any-here (same_side (r, v)) polygons before.face (in-side before) in
        let times = boundary-back polygons (level-simple level well) (level-distinct level well) (v, r) forth in
        let some = count-some (same_side (r, v)) (all_sides polygons) back in
        let one = one-yes (is_boundary polygons (v, r)) boundary in
        omega (arith, times, some, one))

    two-alike : (n : ℕ) (e : ℕ × ℕ) → IsEdgeTo n e → is_boundary polygons (v, n) ≡ false → is_boundary polygons e ≡ false
    two-alike n e h two = boundary-alike polygons (level-simple level well) e (v, n) h ∙ two

    -- no edge at the point has one face
    spoke-inside : (e : ℕ × ℕ) → IsSpoke e → is_boundary polygons e ≡ false
    spoke-inside e (inl h) = two-alike a e h (two-faced star.fourth star.first)
    spoke-inside e (inr (inl h)) = two-alike b e h (two-faced star.first star.second)
    spoke-inside e (inr (inr (inl h))) = two-alike c e h (two-faced star.second star.third)
    spoke-inside e (inr (inr (inr h))) = two-alike d e h (two-faced star.third star.fourth)

    star-inside : is_at_boundary level v ≡ false
    star-inside =
        none-kept (has_end v) (λ e. list_any (same_side e) (all_sides polygons)) (is_boundary polygons)
        (λ e end there. spoke-inside e (spoke e end there)) (edges_of polygons) (sides-listed polygons)

    quad-of : (face : ℕ) → OneOf face → is_quad level face ≡ true
    quad-of face (inl e) = ap (is_quad level) e ∙ eq-eqb _ 4 (quad-length polygons star.first.face v a w b star.first.is)
    quad-of face (inr (inl e)) = ap (is_quad level) e ∙ eq-eqb _ 4 (quad-length polygons star.second.face v b x c star.second.is)
    quad-of face (inr (inr (inl e))) = ap (is_quad level) e ∙ eq-eqb _ 4 (quad-length polygons star.third.face v c y d star.third.is)
    quad-of face (inr (inr (inr e))) = ap (is_quad level) e ∙ eq-eqb _ 4 (quad-length polygons star.fourth.face v d z a star.fourth.is)

    star-quads : list_all (is_quad level) (faces_at level v) ≡ true
    star-quads = all-from-among (is_quad level) (faces_at level v) (λ face h. quad-of face (one-of face (sym (faces-among polygons v face) ∙ h)))

    -- where the four edges and the point are smooth, the point is regular
    module _ (vertex : vertex_sharpness_of level v ≡ Smooth) (at_a : edge_sharpness_of level (v, a) ≡ Smooth) (at_b : edge_sharpness_of level (v, b) ≡ Smooth)
        (at_c : edge_sharpness_of level (v, c) ≡ Smooth) (at_d : edge_sharpness_of level (v, d) ≡ Smooth) where
      smooth-to : (n : ℕ) (e : ℕ × ℕ) → IsEdgeTo n e → edge_sharpness_of level (v, n) ≡ Smooth → is_sharp_inside level e ≡ false
      smooth-to n e h smooth =
          and_right (not (is_boundary polygons e)) (is_sharp (edge_sharpness_of level e)) (ap is_sharp (sharpness-alike level e (v, n) h ∙ smooth))

      smooth-spoke : (e : ℕ × ℕ) → IsSpoke e → is_sharp_inside level e ≡ false
      smooth-spoke e (inl h) = smooth-to a e h at_a
      smooth-spoke e (inr (inl h)) = smooth-to b e h at_b
      smooth-spoke e (inr (inr (inl h))) = smooth-to c e h at_c
      smooth-spoke e (inr (inr (inr h))) = smooth-to d e h at_d

      pub star-regular : is_regular_in_quads level v ≡ true
      star-regular =
          regular-from level v (record {
            inside = star-inside;
            four = star-four polygons (level-simple level well) (level-distinct level well) star fan;
            quads = star-quads;
            smooth_point = ap is_sharp vertex;
            smooth_edges =
                none-kept (has_end v) (λ e. list_any (same_side e) (all_sides polygons)) (is_sharp_inside level)
                (λ e end there. smooth-spoke e (spoke e end there)) (edges_of polygons) (sides-listed polygons);
          })
