-- The lists of the next level at the point of an edge.
use Rattle.std.proofs.Common.{◌≡◌, ℕ, ◌+◌, ◌<◌, ◌≤◌, ◌⊎◌, inl, inr, ◌||◌, Bool, true, false, nat_eq, nat_le, List, [], length, get_or, arith, refl, ap, sym, ◌∙◌}
use Rattle.std.proofs.lemmas.Bool.Decides.{nat_tests}
use Rattle.std.proofs.lemmas.Bool.{and_parts, leb-true, eqb-true, eq-eqb, ne_eqb}
use Rattle.subdiv_model.specs.Polygons.{Polygon, polygon_at, sides_of, same_edge, has_side, has_corner, is_distinct}
use Rattle.subdiv_model.specs.Edges.{edges_of, edge_number}
use Rattle.subdiv_model.specs.Manifold.{IsSuccessor, is_simple}
use Rattle.mesh_laws.proofs.SideLemmas.{distinct-places, among-place}
use Rattle.mesh_laws.proofs.ClosedLemmas.{all-at}
use Rattle.mesh_laws.proofs.ChildPlaceLemmas.{own-sides}
use Rattle.level_laws.proofs.FaceLemmas.{sides_of-length}
use Rattle.level_topology.proofs.PlaceLemmas.{side-there}
use Rattle.mesh_laws.proofs.FanLemmas.{distinct-at, side-start, side-end}
use Rattle.mesh_laws.proofs.ChildCornerLemmas.{corner-place}
use Rattle.level_topology.specs.Topology.{Topology, IsTopology, edge_at, corner_of, corner_after, edge_before, edge_after, side_at}
use Rattle.level_topology.proofs.LawLemmas.{edge-joins}
use Rattle.level_topology.proofs.FanWalkLemmas.{after-is, before-is, before-after}
use Rattle.child_slots.specs.Slots.{first_child, corner_at, edge_from, before_in, half_slot, inner_slot, numbered_edge_point, quad_at}
use Rattle.child_slots.specs.Slotted.{Slotted, number_at}
use Rattle.uniform_refiner.specs.Put.{AreChildEdges}
use Rattle.child_slots.proofs.SlotLemmas.{before-within}
use Rattle.child_slots.proofs.SlotTellLemmas.{edge-tells}
use Rattle.child_slots.proofs.QuadLemmas.{face-below}
use Rattle.child_slots.proofs.ChildEdgeLemmas.{quad-side}
use Rattle.uniform_refiner.proofs.PointLemmas.{corner-there, kids, kid-place, kid-quad, kid-corner, kid-after, kid-before}
use Rattle.uniform_refiner.proofs.FacePointLemmas.{corner-low}

module _ (t : Topology) (is : IsTopology t) where
  abbrev points : ℕ
  points = t.level.point_count

  abbrev polygons : List Polygon
  polygons = t.level.polygons

  abbrev quads : List Polygon
  quads = kids t is

  abbrev E : ℕ → ℕ
  E e = numbered_edge_point t.level.point_count t.level.polygons e

  -- the child face of a face at one of its points
  abbrev pub kid : ℕ → ℕ → ℕ
  kid f v = first_child t.level.polygons f + corner_of t.level.polygons v f

  simple-at : (f : ℕ) → f < length polygons → is_simple (polygon_at polygons f) ≡ true
  simple-at f inside = all-at is_simple polygons f [] inside is.simple

  -- a face has the edge from a to b
  module _ (f a b e : ℕ) (e_there : e < length (edges_of t.level.polygons)) (side : has_side (a, b) (polygon_at t.level.polygons f) ≡ true) (number : edge_number t.level.polygons (a, b) ≡ e) where
    there : f < length polygons
    there = corner-place polygons f a (side-start (polygon_at polygons f) (a, b) side)

    pub at-start : (corner_of polygons a f < length (polygon_at polygons f)) × (corner_at polygons f (corner_of polygons a f) ≡ a)
    at-start = corner-there polygons a f (side-start (polygon_at polygons f) (a, b) side)

    pub at-end : (corner_of polygons b f < length (polygon_at polygons f)) × (corner_at polygons f (corner_of polygons b f) ≡ b)
    at-end = corner-there polygons b f (side-end (polygon_at polygons f) (a, b) side)

    -- the side of the face with the edge begins at a and ends at b
    pub leaves : edge_from polygons f (corner_of polygons a f) ≡ e
    leaves = after-is polygons is.simple is.sides_once a f b side ∙ number

    pub comes : edge_from polygons f (before_in polygons f (corner_of polygons b f)) ≡ e
    comes = before-is polygons is.simple is.sides_once b f a side ∙ number

    -- the corner before b in the face is that of a
    pub before-end : before_in polygons f (corner_of polygons b f) ≡ corner_of polygons a f
    before-end = edge-tells polygons f (before_in polygons f (corner_of polygons b f)) (corner_of polygons a f) (simple-at f there) (before-within polygons f (corner_of polygons b f) at-end.0) at-start.0 (comes ∙ sym leaves)

    pub a-low : a < points
    a-low = omega (arith, corner-low t is f (corner_of polygons a f) there at-start.0, at-start.1)

    pub b-low : b < points
    b-low = omega (arith, corner-low t is f (corner_of polygons b f) there at-end.0, at-end.1)

    face-high : nat_eq (E e) (points + f) ≡ false
    face-high = ne_eqb _ _ (λ same. absurd (omega (arith, same, there)))

    start-apart : nat_eq (E e) (corner_at polygons f (corner_of polygons a f)) ≡ false
    start-apart = ne_eqb _ _ (λ same. absurd (omega (arith, same, at-start.1, a-low)))

    end-apart : nat_eq (E e) (corner_at polygons f (corner_of polygons b f)) ≡ false
    end-apart = ne_eqb _ _ (λ same. absurd (omega (arith, same, at-end.1, b-low)))

    after-apart : nat_eq (E e) (E (edge_from polygons f (corner_of polygons b f))) ≡ false
    after-apart = ne_eqb _ _ (λ same.
        let edges : edge_from polygons f (before_in polygons f (corner_of polygons b f)) ≡ edge_from polygons f (corner_of polygons b f) = comes ∙ omega (arith, same) in
        let corners = edge-tells polygons f (before_in polygons f (corner_of polygons b f)) (corner_of polygons b f) (simple-at f there) (before-within polygons f (corner_of polygons b f) at-end.0) at-end.0 edges in
        let round = (before-after (length (polygon_at polygons f)) (corner_of polygons b f) at-end.0).1 in
        loop (corner_of polygons b f) (length (polygon_at polygons f)) (ap (corner_after (length (polygon_at polygons f))) (sym corners) ∙ round) (three (simple-at f there)))
      where
        three : is_simple (polygon_at polygons f) ≡ true → 3 ≤ length (polygon_at polygons f)
        three h = leb-true 3 (length (polygon_at polygons f)) (and_parts (nat_le 3 (length (polygon_at polygons f))) (is_distinct (polygon_at polygons f)) h).0

        loop : {X : Type 0} (c size : ℕ) → corner_after size c ≡ c → 3 ≤ size → X
        loop c size same large = go (nat_eq (c + 1) size) refl
          where
            go : {X : Type 0} (q : Bool) → nat_eq (c + 1) size ≡ q → X
            go true h = let none : 0 ≡ c = rw h at same in absurd (omega (arith, none, eqb-true _ _ h, large))
            go false h = let more : c + 1 ≡ c = rw h at same in absurd (omega (arith, more))

    -- the point of the edge is the second corner of the child at a, and the last of that at b
    pub start-corner : corner_of quads (E e) (kid f a) ≡ 1
    start-corner = kid-corner t is (E e) f (corner_of polygons a f) 1 at-start.0
        (let first = start-apart in let second = eq-eqb (E e) (E (edge_from polygons f (corner_of polygons a f))) (ap E (sym leaves)) in rw (first, second) refl)

    pub end-corner : corner_of quads (E e) (kid f b) ≡ 3
    end-corner = kid-corner t is (E e) f (corner_of polygons b f) 3 at-end.0
        (let first = end-apart in let second = after-apart in let third = face-high in let fourth = eq-eqb (E e) (E (edge_from polygons f (before_in polygons f (corner_of polygons b f)))) (ap E (sym comes)) in rw (first, second, third, fourth) refl)

    pub start-quad : polygon_at quads (kid f a) ≡ quad_at points polygons f (corner_of polygons a f)
    start-quad = kid-quad t is f (corner_of polygons a f) at-start.0

    pub end-quad : polygon_at quads (kid f b) ≡ quad_at points polygons f (corner_of polygons b f)
    end-quad = kid-quad t is f (corner_of polygons b f) at-end.0

    -- the sides of the child faces about the point
    pub start-in : has_side (a, E e) (polygon_at quads (kid f a)) ≡ true
    start-in =
        let q = quad_at points polygons f (corner_of polygons a f) in
        ap (has_side (a, E e)) start-quad ∙ ap (λ (v : ℕ). has_side (v, E e) q) (sym at-start.1) ∙ ap (λ (k : ℕ). has_side (corner_at polygons f (corner_of polygons a f), E k) q) (sym leaves) ∙ (quad-side (get_or q 0 0) (get_or q 1 0) (get_or q 2 0) (get_or q 3 0)).0

    pub start-out : has_side (E e, points + f) (polygon_at quads (kid f a)) ≡ true
    start-out =
        let q = quad_at points polygons f (corner_of polygons a f) in
        ap (has_side (E e, points + f)) start-quad ∙ ap (λ (k : ℕ). has_side (E k, points + f) q) (sym leaves) ∙ (quad-side (get_or q 0 0) (get_or q 1 0) (get_or q 2 0) (get_or q 3 0)).1

    pub end-in : has_side (points + f, E e) (polygon_at quads (kid f b)) ≡ true
    end-in =
        let q = quad_at points polygons f (corner_of polygons b f) in
        ap (has_side (points + f, E e)) end-quad ∙ ap (λ (k : ℕ). has_side (points + f, E k) q) (sym comes) ∙ (quad-side (get_or q 0 0) (get_or q 1 0) (get_or q 2 0) (get_or q 3 0)).2

    pub end-out : has_side (E e, b) (polygon_at quads (kid f b)) ≡ true
    end-out =
        let q = quad_at points polygons f (corner_of polygons b f) in
        ap (has_side (E e, b)) end-quad ∙ ap (λ (v : ℕ). has_side (E e, v) q) (sym at-end.1) ∙ ap (λ (k : ℕ). has_side (E k, corner_at polygons f (corner_of polygons b f)) q) (sym comes) ∙ (quad-side (get_or q 0 0) (get_or q 1 0) (get_or q 2 0) (get_or q 3 0)).3

    pub inside-leads : IsSuccessor quads (E e) (kid f a) (kid f b)
    inside-leads = record { corner = points + f; follows = start-out; leads_back = end-in }

    -- the edges at the point, before and after each child face
    module _ (n : Slotted) (are : AreChildEdges t.level n) where
      pub start-before : edge_before quads (E e) (kid f a) ≡ number_at n.slots (half_slot polygons a e)
      start-before =
          kid-before t is n are (E e) f (corner_of polygons a f) 1 at-start.0 (omega arith) start-corner
          ∙ ap (λ v. number_at n.slots (half_slot polygons v (edge_from polygons f (corner_of polygons a f)))) at-start.1
          ∙ ap (λ k. number_at n.slots (half_slot polygons a k)) leaves

      pub end-before : edge_before quads (E e) (kid f b) ≡ number_at n.slots (inner_slot polygons f (corner_of polygons a f))
      end-before =
          kid-before t is n are (E e) f (corner_of polygons b f) 3 at-end.0 (omega arith) end-corner
          ∙ ap (λ c. number_at n.slots (inner_slot polygons f c)) before-end

      pub end-after : edge_after quads (E e) (kid f b) ≡ number_at n.slots (half_slot polygons b e)
      end-after =
          kid-after t is n are (E e) f (corner_of polygons b f) 3 at-end.0 (omega arith) end-corner
          ∙ ap (λ v. number_at n.slots (half_slot polygons v (edge_from polygons f (before_in polygons f (corner_of polygons b f))))) at-end.1
          ∙ ap (λ k. number_at n.slots (half_slot polygons b k)) comes

  -- the child faces at the point of an edge are at its ends, in a face that has it in one direction or the other
  pub record IsAtEdge (a b k : ℕ) : Type 0 where
    pub face : ℕ
    pub direction : ((has_side (a, b) (polygon_at polygons face) ≡ true) × ((k ≡ kid face a) ⊎ (k ≡ kid face b))) ⊎ ((has_side (b, a) (polygon_at polygons face) ≡ true) × ((k ≡ kid face a) ⊎ (k ≡ kid face b)))

  pub edge-kid : (e k : ℕ) → e < length (edges_of polygons) → has_corner (E e) (polygon_at quads k) ≡ true → IsAtEdge (edge_at polygons e).0 (edge_at polygons e).1 k
  edge-kid e k inside has =
      let found = kid-place t is (E e) k has in
      let f = found.0.face in
      let c = found.0.corner in
      let h = found.0.exists in
      let low = corner-low t is f c (face-below polygons f c h) h in
      let one : nat_eq (E e) (corner_at polygons f c) ≡ false = ne_eqb _ _ (λ same. absurd (omega (arith, same, low))) in
      let three : nat_eq (E e) (points + f) ≡ false = ne_eqb _ _ (λ same. absurd (omega (arith, same, face-below polygons f c h))) in
      by-direction f c h found.0.number (either _ _ _ _ one three found.1)
    where
      edge : ℕ × ℕ
      edge = edge_at polygons e

      either : (p q r s : Bool) → p ≡ false → r ≡ false → (p || (q || (r || (s || false)))) ≡ true → (q ≡ true) ⊎ (s ≡ true)
      either p true r s x y h = inl refl
      either p false r true x y h = inr refl
      either p false r false x y h = absurd (grind (arith, nat_tests))

      same-corner : (f c v : ℕ) → c < length (polygon_at polygons f) → corner_at polygons f c ≡ v → k ≡ first_child polygons f + c → k ≡ kid f v
      same-corner f c v h at number =
          let has_v : has_corner v (polygon_at polygons f) ≡ true = among-place v (polygon_at polygons f) c h at in
          let own = corner-there polygons v f has_v in
          let same = distinct-places (polygon_at polygons f) c (corner_of polygons v f) (distinct-at polygons f is.simple) h own.0 (at ∙ sym own.1) in
          number ∙ ap (λ i. first_child polygons f + i) same

      -- the side from a corner is the edge, in one direction or the other
      side-directions : (s : ℕ × ℕ) → same_edge s edge ≡ true → ((s.0 ≡ edge.0) × (s.1 ≡ edge.1)) ⊎ ((s.0 ≡ edge.1) × (s.1 ≡ edge.0))
      side-directions s same = go (nat_eq s.0 edge.0) refl (nat_eq s.1 edge.1) refl
        where
          go : (p : Bool) → nat_eq s.0 edge.0 ≡ p → (q : Bool) → nat_eq s.1 edge.1 ≡ q → ((s.0 ≡ edge.0) × (s.1 ≡ edge.1)) ⊎ ((s.0 ≡ edge.1) × (s.1 ≡ edge.0))
          go true x true y = inl (eqb-true _ _ x, eqb-true _ _ y)
          go true x false y =
              let u : nat_eq s.0 edge.1 ≡ true = grind (arith, nat_tests) in
              let w : nat_eq s.1 edge.0 ≡ true = grind (arith, nat_tests) in
              inr (eqb-true _ _ u, eqb-true _ _ w)
          go false x q y =
              let u : nat_eq s.0 edge.1 ≡ true = grind (arith, nat_tests) in
              let w : nat_eq s.1 edge.0 ≡ true = grind (arith, nat_tests) in
              inr (eqb-true _ _ u, eqb-true _ _ w)

      own-side : (f d : ℕ) → d < length (polygon_at polygons f) → has_side (side_at (polygon_at polygons f) d) (polygon_at polygons f) ≡ true
      own-side f d h = ap (λ s. has_side s (polygon_at polygons f)) (sym (side-there (polygon_at polygons f) d h)) ∙ all-at (λ s. has_side s (polygon_at polygons f)) (sides_of (polygon_at polygons f)) d (0, 0) (omega (arith, h, sides_of-length (polygon_at polygons f))) (own-sides (sides_of (polygon_at polygons f)))

      sided : (f d : ℕ) → d < length (polygon_at polygons f) → edge_from polygons f d ≡ e → same_edge (side_at (polygon_at polygons f) d) edge ≡ true
      sided f d h number = ap (λ i. same_edge (side_at (polygon_at polygons f) d) (edge_at polygons i)) (sym number) ∙ edge-joins polygons f d h

      by-direction : (f c : ℕ) → c < length (polygon_at polygons f) → k ≡ first_child polygons f + c → (nat_eq (E e) (E (edge_from polygons f c)) ≡ true) ⊎ (nat_eq (E e) (E (edge_from polygons f (before_in polygons f c))) ≡ true) → IsAtEdge edge.0 edge.1 k
      by-direction f c h number (inl after) =
          let edge_is : edge_from polygons f c ≡ e = omega (arith, eqb-true _ _ after) in
          from f c (corner_at polygons f c) (get_or (polygon_at polygons f) (corner_after (length (polygon_at polygons f)) c) 0) h refl number (own-side f c h) (side-directions (side_at (polygon_at polygons f) c) (sided f c h edge_is))
        where
          from : (f c v w : ℕ) → c < length (polygon_at polygons f) → corner_at polygons f c ≡ v → k ≡ first_child polygons f + c → has_side (v, w) (polygon_at polygons f) ≡ true → ((v ≡ edge.0) × (w ≡ edge.1)) ⊎ ((v ≡ edge.1) × (w ≡ edge.0)) → IsAtEdge edge.0 edge.1 k
          from f c v w h at number side (inl ends) = record { face = f; direction = inl (ap (λ (i : ℕ). has_side (i, edge.1) (polygon_at polygons f)) (sym ends.0) ∙ ap (λ (i : ℕ). has_side (v, i) (polygon_at polygons f)) (sym ends.1) ∙ side, inl (same-corner f c edge.0 h (at ∙ ends.0) number)) }
          from f c v w h at number side (inr ends) = record { face = f; direction = inr (ap (λ (i : ℕ). has_side (i, edge.0) (polygon_at polygons f)) (sym ends.0) ∙ ap (λ (i : ℕ). has_side (v, i) (polygon_at polygons f)) (sym ends.1) ∙ side, inr (same-corner f c edge.1 h (at ∙ ends.0) number)) }
      by-direction f c h number (inr before) =
          let d = before_in polygons f c in
          let below = before-within polygons f c h in
          let edge_is : edge_from polygons f d ≡ e = omega (arith, eqb-true _ _ before) in
          let round : get_or (polygon_at polygons f) (corner_after (length (polygon_at polygons f)) d) 0 ≡ corner_at polygons f c = ap (corner_at polygons f) (before-after (length (polygon_at polygons f)) c h).1 in
          into f c (corner_at polygons f d) (get_or (polygon_at polygons f) (corner_after (length (polygon_at polygons f)) d) 0) h (sym round) number (own-side f d below) (side-directions (side_at (polygon_at polygons f) d) (sided f d below edge_is))
        where
          into : (f c u v : ℕ) → c < length (polygon_at polygons f) → corner_at polygons f c ≡ v → k ≡ first_child polygons f + c → has_side (u, v) (polygon_at polygons f) ≡ true → ((u ≡ edge.0) × (v ≡ edge.1)) ⊎ ((u ≡ edge.1) × (v ≡ edge.0)) → IsAtEdge edge.0 edge.1 k
          into f c u v h at number side (inl ends) = record { face = f; direction = inl (ap (λ (i : ℕ). has_side (i, edge.1) (polygon_at polygons f)) (sym ends.0) ∙ ap (λ (i : ℕ). has_side (u, i) (polygon_at polygons f)) (sym ends.1) ∙ side, inr (same-corner f c edge.1 h (at ∙ ends.1) number)) }
          into f c u v h at number side (inr ends) = record { face = f; direction = inr (ap (λ (i : ℕ). has_side (i, edge.0) (polygon_at polygons f)) (sym ends.0) ∙ ap (λ (i : ℕ). has_side (u, i) (polygon_at polygons f)) (sym ends.1) ∙ side, inl (same-corner f c edge.0 h (at ∙ ends.1) number)) }
