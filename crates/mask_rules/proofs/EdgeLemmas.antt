-- The masks of faces and of edges.
use Rattle.std.proofs.Common.{◌≡◌, ℕ, ◌+◌, ◌-◌, ◌*◌, ◌<◌, ◌≤◌, ◌⊎◌, inl, inr, true, false, not, ◌&&◌, ◌||◌, nat_eq, nat_le, Some, None, List, [], ◌∷◌, length, get_or, arith, refl, ap, sym, subst, ◌∙◌}
use Rattle.std.specs.List.{list_all, list_any}
use Rattle.std.proofs.lemmas.Bool.{and_parts, eqb-true, leb-true, le-leb, lt-leb, false_from_ne_true}
use Rattle.std.proofs.lemmas.Bool.Decides.{nat_tests}
use Rattle.std.proofs.lemmas.List.Sums.{AllPass-from_list_all}
use Rattle.subdiv_model.specs.Polygons.{Polygon, polygon_at, sides_of, same_side, same_edge, has_side, has_edge, is_distinct}
use Rattle.subdiv_model.specs.Manifold.{is_simple}
use Rattle.subdiv_model.specs.Edges.{edges_of, faces_of_edge}
use Rattle.subdiv_model.specs.Sharpness.{Sharpness, Smooth, Semi, Infinite}
use Rattle.subdiv_model.specs.Level.{Level, edge_sharpness_of}
use Rattle.subdiv_model.specs.Mask.{Scheme, CatmullClark, Linear, face_mask, edge_mask, mask_of_edge, sharp_edge_mask}
use Rattle.mesh_laws.proofs.SideLemmas.{no-side-back}
use Rattle.mask_laws.proofs.MaskLemmas.{mean-corners, mean-sharp_edge, mean-smooth_edge, mean-blended_edge}
use Rattle.level_topology.specs.Topology.{Topology, IsTopology, edge_at}
use Rattle.level_topology.proofs.LawLemmas.{edge-few, edge-face, edge-order, own-number}
use Rattle.mask_rules.specs.Masks.{IsMask, corners_over, ends_over, around_over, is_at_least_one, IsBelowOne, IsPartBelowOne}
use Rattle.mask_rules.proofs.TermLemmas.{points-mask, around-mask}

simple-at : (polygons : List Polygon) (f : ℕ) → list_all is_simple polygons ≡ true → f < length polygons → is_simple (polygon_at polygons f) ≡ true
simple-at polygons f simple inside = AllPass-from_list_all is_simple polygons simple f [] inside

pub face-mask : (level : Level) (f size : ℕ) → list_all is_simple level.polygons ≡ true → f < length level.polygons
    → size ≡ length (polygon_at level.polygons f) → IsMask (corners_over (polygon_at level.polygons f) size) (face_mask level f)
face-mask level f size simple inside e =
    let polygon = polygon_at level.polygons f in
    let parts = and_parts (nat_le 3 (length polygon)) (is_distinct polygon) (simple-at level.polygons f simple inside) in
    let long : 3 ≤ length polygon = leb-true 3 (length polygon) parts.0 in
    rw e (points-mask 1 polygon (length polygon) (omega arith) parts.1 (mean-corners polygon (omega arith)))

-- an edge from a point to itself is a side wherever it is an edge
loop-side : (a : ℕ) (sides : List (ℕ × ℕ)) → list_any (same_edge (a, a)) sides ≡ list_any (same_side (a, a)) sides
loop-side a [] = refl
loop-side a (s ∷ sides) = let behind = loop-side a sides in grind (arith, nat_tests)

-- the two ends of an edge differ
pub ends-distinct : (t : Topology) (e : ℕ) → IsTopology t → e < length (edges_of t.level.polygons)
    → is_distinct ((edge_at t.level.polygons e).0 ∷ (edge_at t.level.polygons e).1 ∷ []) ≡ true
ends-distinct t e is inside =
    let polygons = t.level.polygons in
    let edge = edge_at polygons e in
    let some = edge-few t e is inside in
    let face = edge-face polygons e 0 (omega (arith, some.0)) in
    let f = get_or (faces_of_edge polygons edge) 0 0 in
    differ edge (polygon_at polygons f) (simple-at polygons f is.simple face.exists) face.has
  where
    differ : (edge : ℕ × ℕ) (polygon : Polygon) → is_simple polygon ≡ true → has_edge edge polygon ≡ true → is_distinct (edge.0 ∷ edge.1 ∷ []) ≡ true
    differ edge polygon simple has =
        let apart : nat_eq edge.0 edge.1 ≡ false = false_from_ne_true _ (λ same. absurd (
        let one : edge.1 ≡ edge.0 = sym (eqb-true _ _ same) in
        let loop : has_edge (edge.0, edge.0) polygon ≡ true = ap (λ b. has_edge (edge.0, b) polygon) (sym one) ∙ has in
        let side : has_side (edge.0, edge.0) polygon ≡ true = sym (loop-side edge.0 (sides_of polygon)) ∙ loop in
        no-side-back polygon edge.0 edge.0 simple side side)) in
        ap (λ b. not (b || false) && true) apart

-- the faces of an edge differ
pub faces-distinct : (polygons : List Polygon) (e f g : ℕ) → faces_of_edge polygons (edge_at polygons e) ≡ f ∷ g ∷ [] → is_distinct (f ∷ g ∷ []) ≡ true
faces-distinct polygons e f g two =
    let long : length (faces_of_edge polygons (edge_at polygons e)) ≡ 2 = ap length two in
    let order = edge-order polygons e 0 (omega arith) in
    let below : f < g = omega (arith, order, ap (λ l. get_or l 0 0) two, ap (λ l. get_or l (0 + 1) 0) two) in
    let apart : nat_eq f g ≡ false = false_from_ne_true _ (λ same. absurd (omega (arith, eqb-true _ _ same))) in
    ap (λ b. not (b || false) && true) apart

sharp-mask : (edge : ℕ × ℕ) → is_distinct (edge.0 ∷ edge.1 ∷ []) ≡ true → IsMask (ends_over edge) (sharp_edge_mask edge)
sharp-mask edge once = points-mask 1 (edge.0 ∷ edge.1 ∷ []) 2 (omega arith) once (mean-sharp_edge edge)

-- the mask of an edge where only the ends have weights
ends-mask : (s : Sharpness) (edge : ℕ × ℕ) (faces : List ℕ) → is_distinct (edge.0 ∷ edge.1 ∷ []) ≡ true → is_at_least_one s ≡ true
    → IsMask (ends_over edge) (mask_of_edge s edge faces)
ends-mask Smooth edge faces once h = cc
ends-mask (Semi x y) edge faces once h = rw h (sharp-mask edge once)
ends-mask Infinite edge faces once h = sharp-mask edge once

none-above : (s : Sharpness) → IsBelowOne s None → is_at_least_one s ≡ true
none-above Smooth h = cc
none-above (Semi x y) (inl h) = let no = h.1 in cc
none-above (Semi x y) (inr h) = le-leb y x h.0
none-above Infinite h = refl

some-below : (s : Sharpness) (part : ℕ × ℕ) → IsBelowOne s (Some part) → is_at_least_one s ≡ false
some-below Smooth part h = refl
some-below (Semi x y) part (inl h) = lt-leb y x h.0
some-below (Semi x y) part (inr h) = let no = h.1 in cc
some-below Infinite part h = cc

-- the mask of an edge where the faces have weights too
below-one-mask : (s : Sharpness) (edge : ℕ × ℕ) (f g : ℕ) (part : ℕ × ℕ) → is_distinct (edge.0 ∷ edge.1 ∷ []) ≡ true
    → is_distinct (f ∷ g ∷ []) ≡ true → IsBelowOne s (Some part) → IsMask (around_over part.0 part.1 edge (f, g)) (mask_of_edge s edge (f ∷ g ∷ []))
below-one-mask Smooth edge f g part points_once faces_once h =
    let e : part ≡ (0, 1) = cc in
    rw e (around-mask 1 1 (edge.0 ∷ edge.1 ∷ []) (f ∷ g ∷ []) 4 (omega arith) (omega arith) points_once faces_once (mean-smooth_edge edge (f ∷ g ∷ []) refl))
below-one-mask (Semi x y) edge f g part points_once faces_once (inl h) =
    let e : part ≡ (x, y) = let same = h.1 in cc in
    let below = h.0 in
    rw (e, lt-leb y x below)
    (around-mask (y + x) (y - x) (edge.0 ∷ edge.1 ∷ []) (f ∷ g ∷ []) (4 * y) (omega arith) (omega arith) points_once faces_once (mean-blended_edge x y edge (f ∷ g ∷ []) below refl))
below-one-mask (Semi x y) edge f g part points_once faces_once (inr h) = let no = h.1 in cc
below-one-mask Infinite edge f g part points_once faces_once h = cc

module _ (t : Topology) (e : ℕ) (is : IsTopology t) (inside : e < length (edges_of t.level.polygons)) where
  abbrev edge : ℕ × ℕ
  edge = edge_at t.level.polygons e

  abbrev kept : Sharpness
  kept = get_or t.level.edge_sharpness e Smooth

  kept-is : kept ≡ edge_sharpness_of t.level edge
  kept-is = ap (λ n. get_or t.level.edge_sharpness n Smooth) (sym (own-number t.level.polygons e inside))

  -- the mask in a level where only the ends have weights
  pub edge-without : (scheme : Scheme) → IsPartBelowOne scheme kept None → IsMask (ends_over edge) (edge_mask t.level scheme edge)
  edge-without CatmullClark h =
      ends-mask (edge_sharpness_of t.level edge) edge (faces_of_edge t.level.polygons edge) (ends-distinct t e is inside)
      (ap is_at_least_one (sym kept-is) ∙ none-above kept h)
  edge-without Linear h = sharp-mask edge (ends-distinct t e is inside)

  -- the mask where the faces count too
  pub edge-with : (scheme : Scheme) (part : ℕ × ℕ) (f g : ℕ) → IsPartBelowOne scheme kept (Some part)
      → f ∷ g ∷ [] ≡ faces_of_edge t.level.polygons edge → IsMask (around_over part.0 part.1 edge (f, g)) (edge_mask t.level scheme edge)
  edge-with CatmullClark part f g h two =
      let faces = faces-distinct t.level.polygons e f g (sym two) in
      let found = below-one-mask kept edge f g part (ends-distinct t e is inside) faces h in
      subst (λ fs. IsMask (around_over part.0 part.1 edge (f, g)) (mask_of_edge (edge_sharpness_of t.level edge) edge fs)) two
      (subst (λ s. IsMask (around_over part.0 part.1 edge (f, g)) (mask_of_edge s edge (f ∷ g ∷ []))) kept-is found)
  edge-with Linear part f g h two = cc

  -- an edge that is split by both rules has two faces
  pub edge-two : (scheme : Scheme) (part : ℕ × ℕ) (f : ℕ) → IsPartBelowOne scheme kept (Some part)
      → (scheme ≡ CatmullClark → (length (faces_of_edge t.level.polygons edge) ≡ 2) ⊎ (is_at_least_one kept ≡ true))
      → f ∷ [] ≡ faces_of_edge t.level.polygons edge → ⊥
  edge-two CatmullClark part f h two one = either (two refl)
    where
      either : (length (faces_of_edge t.level.polygons edge) ≡ 2) ⊎ (is_at_least_one kept ≡ true) → ⊥
      either (inl k) = let long : 1 ≡ length (faces_of_edge t.level.polygons edge) = ap length one in absurd (omega arith)
      either (inr k) = let no = some-below kept part h in absurd (cc)
  edge-two Linear part f h two one = cc
