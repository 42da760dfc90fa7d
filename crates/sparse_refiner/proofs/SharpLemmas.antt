-- The marks and the sharpness of a part are those of the whole next level.
use Rattle.std.proofs.Common.{◌≡◌, ℕ, ◌<◌, inl, inr, Bool, true, false, ◌&&◌, nat_eq, List, length, map, get_or, arith, refl, ap, sym, ◌∙◌}
use Rattle.std.specs.List.{list_any}
use Rattle.std.proofs.lemmas.Bool.Decides.{nat_tests}
use Rattle.std.proofs.lemmas.Bool.{eqb-true, eq-eqb}
use Rattle.std.proofs.lemmas.List.{get_or-map, get_or_past}
use Rattle.std.proofs.lemmas.List.Sums.{passes_at_first}
use Rattle.subdiv_model.specs.Polygons.{Polygon, same_edge}
use Rattle.subdiv_model.specs.Edges.{edges_of, edge_number}
use Rattle.subdiv_model.specs.Sharpness.{Sharpness, Smooth}
use Rattle.subdiv_model.specs.Level.{edge_sharpness_of, vertex_sharpness_of, is_hole}
use Rattle.subdiv_model.specs.Child.{child_polygons, child_level, child_holes, child_edge_sharpness, edge_point, face_point}
use Rattle.mesh_laws.proofs.EdgeLemmas.{position-alike, position-within}
use Rattle.level_laws.proofs.HalfLemmas.{halves-sharp, inside-smooth}
use Rattle.level_laws.proofs.FaceLemmas.{child-hole}
use Rattle.part_laws.specs.Parts as laws
use Rattle.level_topology.specs.Topology.{Topology, IsTopology, edge_at}
use Rattle.level_topology.proofs.LawLemmas.{own-number, edge-exists}
use Rattle.child_slots.specs.Slots.{edge_from, numbered_edge_point}
use Rattle.child_slots.specs.Slotted.{Slotted}
use Rattle.child_slots.specs.Parts.{Part, IsPart, part_polygons}
use Rattle.child_slots.specs.Walked.{IsSlot, ArePartEdges}
use Rattle.child_slots.specs.HalfTable.{HasHalves}
use Rattle.child_slots.proofs.SlotLemmas.{over-of}
use Rattle.child_slots.proofs.QuadLemmas.{face-below}
use Rattle.child_slots.proofs.ChildEdgeLemmas.{ends-all}
use Rattle.sparse_refiner.specs.Shapes.{children_at, name_in, AreNames}
use Rattle.sparse_refiner.specs.Tables.{slot_sharpness, child_sharpness, hole_at}
use Rattle.sparse_refiner.proofs.NameLemmas.{named, child-at, corner-below}

-- the same edge under other numbers
same-renamed : (f : ℕ → ℕ) (s u : ℕ × ℕ) → same_edge s u ≡ true → same_edge (laws.renamed f s) (laws.renamed f u) ≡ true
same-renamed f s u h = go (nat_eq s.0 u.0 && nat_eq s.1 u.1) refl
  where
    go : (b : Bool) → (nat_eq s.0 u.0 && nat_eq s.1 u.1) ≡ b → same_edge (laws.renamed f s) (laws.renamed f u) ≡ true
    go true e =
        let first : nat_eq s.0 u.0 ≡ true = grind (arith, nat_tests) in
        let second : nat_eq s.1 u.1 ≡ true = grind (arith, nat_tests) in
        let one = eq-eqb (f s.0) (f u.0) (ap f (eqb-true _ _ first)) in
        let two = eq-eqb (f s.1) (f u.1) (ap f (eqb-true _ _ second)) in
        rw (one, two) refl
    go false e =
        let first : nat_eq s.0 u.1 ≡ true = grind (arith, nat_tests) in
        let second : nat_eq s.1 u.0 ≡ true = grind (arith, nat_tests) in
        let one = eq-eqb (f s.0) (f u.1) (ap f (eqb-true _ _ first)) in
        let two = eq-eqb (f s.1) (f u.0) (ap f (eqb-true _ _ second)) in
        grind (arith, nat_tests, one, two)

-- an end of a pair is one of both
end-of-pair : (has : ℕ → Bool) (s : ℕ × ℕ) (v w : ℕ) → same_edge s (v, w) ≡ true → has s.0 ≡ true → has s.1 ≡ true → has v ≡ true
end-of-pair has s v w h a b = go (nat_eq s.0 v) refl
  where
    go : (q : Bool) → nat_eq s.0 v ≡ q → has v ≡ true
    go true e = ap has (sym (eqb-true s.0 v e)) ∙ a
    go false e =
        let other : nat_eq s.1 v ≡ true = grind (arith, nat_tests) in
        ap has (sym (eqb-true s.1 v other)) ∙ b

module _ (t : Topology) (is : IsTopology t) where
  abbrev points : ℕ
  points = t.level.point_count

  abbrev polygons : List Polygon
  polygons = t.level.polygons

  -- the same edge has the same sharpness
  sharp-alike : (s u : ℕ × ℕ) → same_edge s u ≡ true → edge_sharpness_of (child_level t.level) s ≡ edge_sharpness_of (child_level t.level) u
  sharp-alike s u same = ap (λ (k : ℕ). get_or (child_edge_sharpness t.level) k Smooth) (position-alike s u (edges_of (child_polygons points polygons)) same)

  -- the point of an edge by its number
  point-same : (e : ℕ) → e < length (edges_of polygons) → edge_point points polygons (edge_at polygons e) ≡ numbered_edge_point points polygons e
  point-same e h = ap (numbered_edge_point points polygons) (own-number polygons e h)

  -- a half whose ends a part has is in the table, and an edge inside a face is smooth
  slot-sharp : (has : ℕ → Bool) (halves : List Sharpness) (a : ℕ) (s : ℕ × ℕ) → HasHalves t.level has halves → has s.0 ≡ true → has s.1 ≡ true → IsSlot points polygons a s → slot_sharpness halves a ≡ edge_sharpness_of (child_level t.level) s
  slot-sharp has halves a s put first second (inl h) =
      ap (λ k. get_or halves k Smooth) h.slot_is
      ∙ put.each h.edge h.end h.exists (end-of-pair has s h.end (numbered_edge_point points polygons h.edge) h.side_is first second) h.ends
      ∙ sym (halves-sharp t.level (over-of t is) h.edge (0, 0) h.exists h.end h.ends)
      ∙ ap (λ (k : ℕ). edge_sharpness_of (child_level t.level) (h.end, k)) (point-same h.edge h.exists)
      ∙ sym (sharp-alike s (h.end, numbered_edge_point points polygons h.edge) h.side_is)
  slot-sharp has halves a s put first second (inr k) =
      let e = edge_from polygons k.face k.corner in
      let exists = edge-exists polygons k.face k.corner k.exists in
      let smooth = (inside-smooth t.level (over-of t is) k.face (edge_at polygons e) (face-below polygons k.face k.corner k.exists)).1 in
      get_or_past halves a Smooth (omega (arith, put.count, k.slot_is))
      ∙ sym (sharp-alike s (numbered_edge_point points polygons e, face_point points k.face) k.side_is
      ∙ ap (λ (x : ℕ). edge_sharpness_of (child_level t.level) (x, face_point points k.face)) (sym (point-same e exists))
      ∙ smooth)

  module _ (p : Part) (names : List ℕ) (known : AreNames p.has p.number names) where
    abbrev quads : List Polygon
    quads = part_polygons t.level.point_count t.level.polygons p

    pair-same : {a a' b b' : ℕ} → a ≡ a' → b ≡ b' → ◌≡◌ {A = ℕ × ℕ} (a, b) (a', b')
    pair-same x y = cc

    -- each edge of the part has the sharpness of its edge in the whole
    pub edges-sharp : (n : Slotted) → ArePartEdges t.level p n → (halves : List Sharpness) → HasHalves t.level p.has halves → (values : List Sharpness) → values ≡ map (slot_sharpness halves) n.slots
        → (edge : ℕ × ℕ) → list_any (same_edge edge) (edges_of quads) ≡ true → get_or values (edge_number quads edge) Smooth ≡ edge_sharpness_of (child_level t.level) (laws.renamed (name_in names) edge)
    edges-sharp n are halves put values made edge there =
        let e = edge_number quads edge in
        let all = ends-all t is p n are in
        let inside : e < length n.ends = omega (arith, position-within edge (edges_of quads) there, ap length all) in
        let inside' : e < length n.slots = omega (arith, inside, are.listed) in
        let slot = are.slots e inside in
        let side : ℕ × ℕ = get_or n.ends e (0, 0) in
        let own : same_edge edge side ≡ true = ap (λ (es : List (ℕ × ℕ)). same_edge edge (get_or es e (0, 0))) all ∙ named-at in
        let back : laws.renamed (name_in names) side ≡ slot.whole = ap (laws.renamed (name_in names)) slot.side_is ∙ pair-same (named t is p are.part names known slot.whole.0 slot.first) (named t is p are.part names known slot.whole.1 slot.second) in
        ap (λ (xs : List Sharpness). get_or xs e Smooth) made
        ∙ get_or-map (slot_sharpness halves) n.slots e 0 Smooth inside'
        ∙ slot-sharp p.has halves (get_or n.slots e 0) slot.whole put slot.first slot.second slot.slot_is
        ∙ ap (edge_sharpness_of (child_level t.level)) (sym back)
        ∙ sym (sharp-alike (laws.renamed (name_in names) edge) (laws.renamed (name_in names) side) (same-renamed (name_in names) edge side own))
      where
        named-at : same_edge edge (get_or (edges_of quads) (edge_number quads edge) (0, 0)) ≡ true
        named-at = passes_at_first (same_edge edge) (edges_of quads) (0, 0) (position-within edge (edges_of quads) there)

    module _ (part : IsPart t.level.point_count t.level.polygons p) where
      -- each child face is a hole where its child face in the whole is
      pub holes-same : (holes : List Bool) → holes ≡ map (hole_at t.level) p.places → (k : ℕ) → k < length p.places → get_or holes k false ≡ is_hole (child_level t.level) (laws.face_in (children_at t.level.polygons p.places) k)
      holes-same holes made k h =
          let place : ℕ × ℕ = get_or p.places k (0, 0) in
          ap (λ (xs : List Bool). get_or xs k false) made
          ∙ get_or-map (hole_at t.level) p.places k (0, 0) false h
          ∙ sym (child-hole t.level place.0 place.1 (face-below polygons place.0 place.1 (part.within k h)) (part.within k h))
          ∙ ap (λ i. get_or (child_holes t.level) i false) (sym (child-at t is p part names known k 0 h))

      -- each corner has the sharpness of its name
      pub points-sharp : (values : List Sharpness) → values ≡ map (child_sharpness t.level) names → (q : ℕ) → laws.is_corner quads q ≡ true → get_or values q Smooth ≡ vertex_sharpness_of (child_level t.level) (name_in names q)
      points-sharp values made q h = ap (λ (xs : List Sharpness). get_or xs q Smooth) made ∙ get_or-map (child_sharpness t.level) names q 0 Smooth (corner-below t is p part names known q h)
