-- The lists of the next level with one edge more.
use Rattle.std.proofs.Common.{◌≡◌, ℕ, ◌+◌, ◌<◌, ◌≤◌, inl, inr, Bool, true, false, nat_eq, List, [], ◌∷◌, ◌++◌, length, map, take, get_or, arith, refl, ap, sym, ◌∙◌}
use Rattle.std.proofs.lemmas.Bool.{eqb-true}
use Rattle.std.proofs.lemmas.List.{get_or-map, length-map, take_more, get_or_past}
use Rattle.subdiv_model.specs.Polygons.{Polygon, same_edge}
use Rattle.subdiv_model.specs.Edges.{edges_of, edge_number, faces_of_edge}
use Rattle.subdiv_model.specs.Child.{child_polygons, child_level, child_edge_sharpness, halves_of, sharpness_among, face_point, edge_point}
use Rattle.subdiv_model.specs.Level.{edge_sharpness_of}
use Rattle.subdiv_model.specs.Sharpness.{Sharpness, Smooth}
use Rattle.level_laws.proofs.HalfLemmas.{halves-sharp, inside-smooth}
use Rattle.mesh_laws.proofs.EdgeLemmas.{position-alike}
use Rattle.level_topology.specs.Topology.{Topology, IsTopology, edge_at}
use Rattle.level_topology.specs.View.{faces_of_pair}
use Rattle.level_topology.specs.Rows.{Rows, with_edge}
use Rattle.level_topology.proofs.LawLemmas.{own-number, edge-order, edge-exists}
use Rattle.child_slots.specs.Slots.{edge_from, numbered_edge_point}
use Rattle.child_slots.specs.Slotted.{Slotted}
use Rattle.child_slots.specs.Walked.{IsSlot, numbered_of}
use Rattle.uniform_refiner.specs.Put.{AreChildEdges, HasAllHalves, with_child_edges}
use Rattle.child_slots.proofs.SlotLemmas.{over-of}
use Rattle.child_slots.proofs.QuadLemmas.{face-below}
use Rattle.level_topology.proofs.NumberingLemmas.{edge-faces-are}
use Rattle.uniform_refiner.proofs.WholeEdgeLemmas.{numbering-all, ends-all, slot-of}

-- the faces of an edge ascend
pair-order : (pair : ℕ × ℕ) (faces : List ℕ) → faces_of_pair pair ≡ faces → (0 + 1 < length faces → get_or faces 0 0 < get_or faces (0 + 1) 0) → pair.0 ≤ pair.1
pair-order pair faces same ascend = go (nat_eq pair.0 pair.1) refl
  where
    go : (b : Bool) → nat_eq pair.0 pair.1 ≡ b → pair.0 ≤ pair.1
    go true e = omega (arith, eqb-true _ _ e)
    go false e =
        let two : pair.0 ∷ (pair.1 ∷ []) ≡ faces = rw e at same in
        let less = ascend (omega (arith, ap length two)) in
        omega (arith, less, ap (λ fs. get_or fs 0 0) two, ap (λ fs. get_or fs (0 + 1) 0) two)

rows-same : (rows : Rows) {ends ends' : List (ℕ × ℕ)} {faces faces' : List (List ℕ)} {sharp sharp' : List Sharpness} → ends ≡ ends' → faces ≡ faces' → sharp ≡ sharp' → record rows { edge_vertices = ends; edge_faces = faces; edge_sharpness = sharp } ≡ record rows { edge_vertices = ends'; edge_faces = faces'; edge_sharpness = sharp' }
rows-same rows p q r = cc

module _ (t : Topology) (is : IsTopology t) (n : Slotted) (are : AreChildEdges t.level n) where
  abbrev points : ℕ
  points = t.level.point_count

  abbrev polygons : List Polygon
  polygons = t.level.polygons

  abbrev quads : List Polygon
  quads = child_polygons points polygons

  pub faces-are : (e : ℕ) → e < length n.ends → faces_of_pair (get_or n.faces e (0, 0)) ≡ faces_of_edge quads (edge_at quads e)
  faces-are e h = edge-faces-are quads (numbered_of n) e (numbering-all t is n are) h

  pub faces-ascend : (e : ℕ) → e < length n.ends → (get_or n.faces e (0, 0)).0 ≤ (get_or n.faces e (0, 0)).1
  faces-ascend e h = pair-order (get_or n.faces e (0, 0)) (faces_of_edge quads (edge_at quads e)) (faces-are e h) (λ k. edge-order quads e 0 k)

  -- the same edge has the same sharpness
  sharp-alike : (s u : ℕ × ℕ) → same_edge s u ≡ true → edge_sharpness_of (child_level t.level) s ≡ edge_sharpness_of (child_level t.level) u
  sharp-alike s u same = ap (λ (k : ℕ). get_or (child_edge_sharpness t.level) k Smooth) (position-alike s u (edges_of quads) same)

  -- the point of an edge by its number
  point-same : (e : ℕ) → e < length (edges_of polygons) → edge_point points polygons (edge_at polygons e) ≡ numbered_edge_point points polygons e
  point-same e h = ap (numbered_edge_point points polygons) (own-number polygons e h)

  -- a half has the sharpness that the table has at its slot, and an edge inside a face is smooth
  slot-sharp : (halves : List Sharpness) (a : ℕ) (s : ℕ × ℕ) → HasAllHalves t.level halves → IsSlot points polygons a s → get_or halves a Smooth ≡ edge_sharpness_of (child_level t.level) s
  slot-sharp halves a s has (inl h) =
      ap (λ k. get_or halves k Smooth) h.slot_is ∙ has.each h.edge h.end h.exists refl h.ends
      ∙ sym (halves-sharp t.level (over-of t is) h.edge (0, 0) h.exists h.end h.ends)
      ∙ ap (λ (k : ℕ). edge_sharpness_of (child_level t.level) (h.end, k)) (point-same h.edge h.exists)
      ∙ sym (sharp-alike s (h.end, numbered_edge_point points polygons h.edge) h.side_is)
  slot-sharp halves a s has (inr k) =
      let e = edge_from polygons k.face k.corner in
      let exists = edge-exists polygons k.face k.corner k.exists in
      let smooth = (inside-smooth t.level (over-of t is) k.face (edge_at polygons e) (face-below polygons k.face k.corner k.exists)).1 in
      get_or_past halves a Smooth (omega (arith, has.count, k.slot_is))
      ∙ sym (sharp-alike s (numbered_edge_point points polygons e, face_point points k.face) k.side_is
      ∙ ap (λ (x : ℕ). edge_sharpness_of (child_level t.level) (x, face_point points k.face)) (sym (point-same e exists))
      ∙ smooth)

  -- an edge more
  pub edges-step : (halves : List Sharpness) (e : ℕ) (start now next : Rows) (ends : ℕ × ℕ) (faces : List ℕ) (sharp : Sharpness) → HasAllHalves t.level halves → e < length n.ends → now ≡ with_child_edges t.level e start
      → ends ≡ get_or n.ends e (0, 0) → faces ≡ faces_of_pair (get_or n.faces e (0, 0)) → sharp ≡ get_or halves (get_or n.slots e 0) Smooth → next ≡ with_edge ends faces sharp now → next ≡ with_child_edges t.level (e + 1) start
  edges-step halves e start now next ends faces sharp has h before p q r made =
      let all = edges_of quads in
      let lists = map (faces_of_edge quads) all in
      let values = child_edge_sharpness t.level in
      let inside : e < length all = omega (arith, h, ap length (ends-all t is n are)) in
      let inside' : e < length lists = omega (arith, inside, length-map all (faces_of_edge quads)) in
      let inside'' : e < length values = omega (arith, inside, length-map all (sharpness_among (halves_of t.level))) in
      let own : edge_number quads (edge_at quads e) ≡ e = own-number quads e inside in
      let end : ends ≡ get_or all e (0, 0) = p ∙ ap (λ xs. get_or xs e (0, 0)) (ends-all t is n are) in
      let list : faces ≡ get_or lists e [] = q ∙ faces-are e h ∙ sym (get_or-map (faces_of_edge quads) all e (0, 0) [] inside) in
      let value : sharp ≡ get_or values e Smooth =
      r ∙ slot-sharp halves (get_or n.slots e 0) (get_or n.ends e (0, 0)) has (slot-of t is n are e h)
      ∙ ap (λ xs. edge_sharpness_of (child_level t.level) (get_or xs e (0, 0))) (ends-all t is n are) ∙ ap (λ k. get_or values k Smooth) own in
      made ∙ ap (with_edge ends faces sharp) before
      ∙ rows-same start
      (ap (λ x. take e all ++ x ∷ []) end ∙ sym (take_more all e (0, 0) inside))
      (ap (λ x. take e lists ++ x ∷ []) list ∙ sym (take_more lists e [] inside'))
      (ap (λ x. take e values ++ x ∷ []) value ∙ sym (take_more values e Smooth inside''))
