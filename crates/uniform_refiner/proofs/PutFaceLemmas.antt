-- The lists of the next level with one child face more.
use Rattle.std.proofs.Common.{◌≡◌, ℕ, zero, suc, ◌+◌, ◌*◌, ◌<◌, ◌≤◌, Bool, true, false, ◌&&◌, nat_eq, List, [], ◌∷◌, ◌++◌, length, map, take, get_or, arith, ap, sym, ◌∙◌}
use Rattle.std.specs.List.{list_all, sum_by}
use Rattle.std.proofs.lemmas.Bool.{and_parts, eqb-true}
use Rattle.std.proofs.lemmas.List.{map-append, take_more, length-take-le}
use Rattle.std.proofs.lemmas.List.Sums.{sum_by-cons}
use Rattle.subdiv_model.specs.Polygons.{Polygon, polygon_at, is_distinct}
use Rattle.subdiv_model.specs.Child.{child_polygons, child_holes}
use Rattle.subdiv_model.specs.Level.{is_hole}
use Rattle.level_laws.proofs.FaceLemmas.{child_polygons-length, child-hole, child_holes-length}
use Rattle.mesh_laws.proofs.ChildFaceLemmas.{is_child, all-child}
use Rattle.level_topology.specs.Topology.{Topology, IsTopology, face_edges_of}
use Rattle.level_topology.specs.Rows.{Rows, with_face}
use Rattle.child_slots.specs.Slots.{first_child, quad_at, slots_at}
use Rattle.child_slots.specs.Slotted.{Slotted, number_at}
use Rattle.uniform_refiner.specs.Put.{AreChildEdges, with_children}
use Rattle.child_slots.proofs.SlotLemmas.{first-below, over-of}
use Rattle.child_slots.proofs.QuadLemmas.{child-quad, face-below}
use Rattle.uniform_refiner.proofs.WholeEdgeLemmas.{numbers-quad}

-- child faces have four corners
quad-corners : (points : ℕ) (polygons : List Polygon) (k : ℕ) (some : List Polygon) → list_all (is_child points polygons) some ≡ true → sum_by length (take k some) ≤ 4 * k
quad-corners points polygons zero some h = omega arith
quad-corners points polygons (suc k) [] h = omega arith
quad-corners points polygons (suc k) (q ∷ some) h =
    let parts = and_parts (is_child points polygons q) (list_all (is_child points polygons) some) h in
    let shape = and_parts (nat_eq (length q) 4 && is_distinct q) _ parts.0 in
    let four : length q ≡ 4 = eqb-true (length q) 4 (and_parts (nat_eq (length q) 4) (is_distinct q) shape.0).0 in
    omega (arith, quad-corners points polygons k some parts.1, sum_by-cons length q (take k some), four)

rows-same : (rows : Rows) {faces faces' : List Polygon} {edges edges' : List (List ℕ)} {holes holes' : List Bool} → faces ≡ faces' → edges ≡ edges' → holes ≡ holes' → record rows { face_vertices = faces; face_edges = edges; holes = holes } ≡ record rows { face_vertices = faces'; face_edges = edges'; holes = holes' }
rows-same rows p q r = cc

module _ (t : Topology) (is : IsTopology t) where
  abbrev points : ℕ
  points = t.level.point_count

  abbrev polygons : List Polygon
  polygons = t.level.polygons

  abbrev quads : List Polygon
  quads = child_polygons points polygons

  -- there is memory for one more child face
  pub children-fit : (f c : ℕ) → c < length (polygon_at polygons f) → (length (take (first_child polygons f + c) quads) < sum_by length polygons) × (sum_by length (take (first_child polygons f + c) quads) + 4 ≤ 4 * sum_by length polygons)
  children-fit f c h =
      let k = first_child polygons f + c in
      let below = first-below polygons f c h in (
        omega (arith, below, length-take-le k quads (omega (arith, below, child_polygons-length points polygons))),
        omega (arith, below, quad-corners points polygons k quads (all-child points polygons (over-of t is) is.simple)),
      )

  -- a child face more
  pub children-step : (n : Slotted) (f c : ℕ) (start now next : Rows) (corners slots numbers : List ℕ) (hole : Bool) → AreChildEdges t.level n → c < length (polygon_at polygons f) → now ≡ with_children t.level (first_child polygons f + c) start
      → corners ≡ quad_at points polygons f c → slots ≡ slots_at polygons f c → numbers ≡ number_at n.slots (get_or slots 0 0) ∷ number_at n.slots (get_or slots 1 0) ∷ number_at n.slots (get_or slots 2 0) ∷ number_at n.slots (get_or slots 3 0) ∷ []
      → hole ≡ is_hole t.level f → next ≡ with_face corners numbers hole now → next ≡ with_children t.level (first_child polygons f + (c + 1)) start
  children-step n f c start now next corners slots numbers hole are h before q s e o made =
      let k = first_child polygons f + c in
      let inside : k < length quads = omega (arith, first-below polygons f c h, child_polygons-length points polygons) in
      let there : k < length (child_holes t.level) = omega (arith, first-below polygons f c h, child_holes-length t.level) in
      let more : k + 1 ≡ first_child polygons f + (c + 1) = omega arith in
      let quad : corners ≡ polygon_at quads k = q ∙ sym (child-quad points polygons f c (face-below polygons f c h) h) in
      let edges : numbers ≡ face_edges_of quads (polygon_at quads k) = e ∙ ap (λ (xs : List ℕ). number_at n.slots (get_or xs 0 0) ∷ number_at n.slots (get_or xs 1 0) ∷ number_at n.slots (get_or xs 2 0) ∷ number_at n.slots (get_or xs 3 0) ∷ []) s ∙ numbers-quad t is n are f c h in
      let mark : hole ≡ get_or (child_holes t.level) k false = o ∙ sym (child-hole t.level f c (face-below polygons f c h) h) in
      let faces : take k quads ++ corners ∷ [] ≡ take (k + 1) quads = ap (λ x. take k quads ++ x ∷ []) quad ∙ sym (take_more quads k [] inside) in
      let rows : map (face_edges_of quads) (take k quads) ++ numbers ∷ [] ≡ map (face_edges_of quads) (take (k + 1) quads) =
      ap (λ x. map (face_edges_of quads) (take k quads) ++ x ∷ []) edges ∙ sym (map-append (face_edges_of quads) (take k quads) (polygon_at quads k ∷ [])) ∙ ap (map (face_edges_of quads)) (sym (take_more quads k [] inside)) in
      let marks : take k (child_holes t.level) ++ hole ∷ [] ≡ take (k + 1) (child_holes t.level) = ap (λ x. take k (child_holes t.level) ++ x ∷ []) mark ∙ sym (take_more (child_holes t.level) k false there) in
      made ∙ ap (with_face corners numbers hole) before ∙ rows-same start faces rows marks ∙ ap (λ i. with_children t.level i start) more
