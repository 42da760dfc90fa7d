-- The child faces at the two halves of an edge, and the row of its point from them.
use Rattle.std.proofs.Common.{◌≡◌, ◌≢◌, ℕ, ◌+◌, ◌*◌, ◌<◌, ◌⊎◌, inl, inr, Bool, true, false, List, [], ◌∷◌, length, map, get_or, arith, refl, ap, sym, ◌∙◌, subst}
use Rattle.std.specs.List.{All, list_any}
use Rattle.std.proofs.lemmas.Bool.Decides.{nat_tests}
use Rattle.std.proofs.lemmas.Bool.{eq-eqb, ne_eqb}
use Rattle.std.proofs.lemmas.List.Elements.{All-nil, All-cons}
use Rattle.subdiv_model.specs.Polygons.{polygon_at, same_side, has_side, has_corner, is_among}
use Rattle.subdiv_model.specs.Edges.{all_sides, edges_of, faces_of_edge, has_end}
use Rattle.mesh_laws.proofs.ClosedLemmas.{any-place}
use Rattle.mesh_laws.proofs.FanLemmas.{side-start}
use Rattle.mesh_laws.proofs.Laws.{listed-as-side}
use Rattle.level_topology.specs.Topology.{Topology, IsTopology, edge_at, corner_of}
use Rattle.level_topology.specs.View.{faces_of_pair}
use Rattle.child_slots.specs.Slots.{half_slot, inner_slot, numbered_edge_point}
use Rattle.child_slots.specs.Slotted.{Slotted, number_at, end_in}
use Rattle.uniform_refiner.specs.Put.{AreChildEdges}
use Rattle.child_slots.proofs.SlotTableLemmas.{among-number}
use Rattle.uniform_refiner.proofs.WholeEdgeLemmas.{slots-there}
use Rattle.child_slots.proofs.SlotLemmas.{first-below}
use Rattle.child_slots.proofs.QuadLemmas.{all-four}
use Rattle.level_topology.specs.PointRows.{IsRow}
use Rattle.uniform_refiner.proofs.PointLemmas.{corner-there, kids}
use Rattle.uniform_refiner.proofs.VertexLemmas.{half-among}
use Rattle.uniform_refiner.proofs.EdgePointLemmas.{kid}
use Rattle.uniform_refiner.proofs.EdgeRowLemmas.{pair-one, pair-two, row-same, half-faces, ends-apart, open-start, open-end, open-row, closed-start, closed-end, end-order, closed-row}

pub same-three : {i i' j j' k k' : ℕ} → i ≡ i' → j ≡ j' → k ≡ k' → i ∷ j ∷ k ∷ [] ≡ i' ∷ j' ∷ k' ∷ []
same-three p q r = cc

pub same-four : {i i' j j' k k' l l' : ℕ} → i ≡ i' → j ≡ j' → k ≡ k' → l ≡ l' → i ∷ j ∷ k ∷ l ∷ [] ≡ i' ∷ j' ∷ k' ∷ l' ∷ []
same-four p q r s = cc

-- the child faces at the halves of an edge
module _ (t : Topology) (is : IsTopology t) (n : Slotted) (are : AreChildEdges t.level n) (e : ℕ) (inside : e < length (edges_of t.level.polygons)) (p q : ℕ × ℕ) where
  -- the edge has one face
  pub record IsOpen : Type 0 where
    pub face : ℕ
    pub side : has_side (edge_at t.level.polygons e) (polygon_at t.level.polygons face) ≡ true
    pub none : list_any (same_side ((edge_at t.level.polygons e).1, (edge_at t.level.polygons e).0)) (all_sides t.level.polygons) ≡ false
    pub start : p.0 ≡ kid t is face (edge_at t.level.polygons e).0
    pub end : q.0 ≡ kid t is face (edge_at t.level.polygons e).1
    pub end_back : q.1 ≡ q.0

  -- the edge has two faces
  pub record IsClosed : Type 0 where
    pub face : ℕ
    pub other : ℕ
    pub side : has_side (edge_at t.level.polygons e) (polygon_at t.level.polygons face) ≡ true
    pub back : has_side ((edge_at t.level.polygons e).1, (edge_at t.level.polygons e).0) (polygon_at t.level.polygons other) ≡ true
    pub start : p.0 ≡ kid t is face (edge_at t.level.polygons e).0
    pub start_back : p.1 ≡ kid t is other (edge_at t.level.polygons e).0
    pub end : q.0 ≡ kid t is face (edge_at t.level.polygons e).1
    pub end_back : q.1 ≡ kid t is other (edge_at t.level.polygons e).1
    pub apart : q.1 ≢ q.0

  -- the slots of the halves
  pub half-slots : (half_slot t.level.polygons (edge_at t.level.polygons e).0 e ≡ 2 * e) × (half_slot t.level.polygons (edge_at t.level.polygons e).1 e ≡ 2 * e + 1)
  half-slots =
      let found = any-place (same_side (edge_at t.level.polygons e)) t.level.polygons (listed-as-side t.level.polygons e (0, 0) inside) in
      let self = eq-eqb (edge_at t.level.polygons e).0 (edge_at t.level.polygons e).0 refl in
      let other = ne_eqb (edge_at t.level.polygons e).1 (edge_at t.level.polygons e).0 (λ same. absurd (ends-apart t is n are e inside found.0 found.2 (sym same))) in
      (rw self (omega arith), rw other refl)

  first-has : has_end (edge_at t.level.polygons e).0 (edge_at t.level.polygons e) ≡ true
  first-has = let self = eq-eqb (edge_at t.level.polygons e).0 (edge_at t.level.polygons e).0 refl in rw self refl

  second-has : has_end (edge_at t.level.polygons e).1 (edge_at t.level.polygons e) ≡ true
  second-has = let self = eq-eqb (edge_at t.level.polygons e).1 (edge_at t.level.polygons e).1 refl in grind (arith, nat_tests)

  pub halves-there : ((2 * e < n.count) × (is_among n.slots (2 * e) ≡ true)) × ((2 * e + 1 < n.count) × (is_among n.slots (2 * e + 1) ≡ true))
  halves-there = (
    (omega (arith, inside, are.count_is), ap (is_among n.slots) (sym half-slots.0) ∙ half-among t is n are (edge_at t.level.polygons e).0 e inside first-has),
    (omega (arith, inside, are.count_is), ap (is_among n.slots) (sym half-slots.1) ∙ half-among t is n are (edge_at t.level.polygons e).1 e inside second-has),
  )

  pub edge-directions : p ≡ get_or n.faces (number_at n.slots (2 * e)) (0, 0) → q ≡ get_or n.faces (number_at n.slots (2 * e + 1)) (0, 0) → IsOpen ⊎ IsClosed
  edge-directions start end =
      let found = any-place (same_side (edge_at t.level.polygons e)) t.level.polygons (listed-as-side t.level.polygons e (0, 0) inside) in
      let first = ap faces_of_pair start ∙ ap (λ k. faces_of_pair (get_or n.faces (number_at n.slots k) (0, 0))) (sym half-slots.0) ∙ half-faces t is n are e inside (edge_at t.level.polygons e).0 first-has in
      let second = ap faces_of_pair end ∙ ap (λ k. faces_of_pair (get_or n.faces (number_at n.slots k) (0, 0))) (sym half-slots.1) ∙ half-faces t is n are e inside (edge_at t.level.polygons e).1 second-has in
      go found.0 found.2 first second (list_any (same_side ((edge_at t.level.polygons e).1, (edge_at t.level.polygons e).0)) (all_sides t.level.polygons)) refl
    where
      go : (f : ℕ) → has_side (edge_at t.level.polygons e) (polygon_at t.level.polygons f) ≡ true
          → faces_of_pair p ≡ faces_of_edge (kids t is) ((edge_at t.level.polygons e).0, numbered_edge_point t.level.point_count t.level.polygons e)
          → faces_of_pair q ≡ faces_of_edge (kids t is) ((edge_at t.level.polygons e).1, numbered_edge_point t.level.point_count t.level.polygons e)
          → (c : Bool) → list_any (same_side ((edge_at t.level.polygons e).1, (edge_at t.level.polygons e).0)) (all_sides t.level.polygons) ≡ c → IsOpen ⊎ IsClosed
      go f side first second false none =
          let one = pair-one p _ (first ∙ open-start t is n are e inside f side none) in
          let two = pair-one q _ (second ∙ open-end t is n are e inside f side none) in
          inl (record { face = f; side = side; none = none; start = one.0; end = two.0; end_back = two.1 ∙ sym two.0 })
      go f side first second true some =
          let found = any-place (same_side ((edge_at t.level.polygons e).1, (edge_at t.level.polygons e).0)) t.level.polygons some in
          let one = pair-two p _ _ (first ∙ closed-start t is n are e inside f side found.0 found.2) in
          let two = pair-two q _ _ (second ∙ closed-end t is n are e inside f side found.0 found.2) in
          inr (record {
            face = f;
            other = found.0;
            side = side;
            back = found.2;
            start = one.0;
            start_back = one.1;
            end = two.0;
            end_back = two.1;
            apart = λ same. absurd (omega (arith, same, two.0, two.1, end-order t is n are e inside f side found.0 found.2));
          })

  -- the edges inside the faces are there
  inner-at : (f v : ℕ) → has_corner v (polygon_at t.level.polygons f) ≡ true → (k : ℕ) → k ≡ kid t is f v → (2 * length (edges_of t.level.polygons) + k < n.count) × (is_among n.slots (2 * length (edges_of t.level.polygons) + k) ≡ true)
  inner-at f v has k same =
      let at = corner-there t.level.polygons v f has in
      let there = slots-there t is n are f (corner_of t.level.polygons v f) at.0 1 0 (omega arith) in
      (omega (arith, same, are.count_is, first-below t.level.polygons f (corner_of t.level.polygons v f) at.0), ap (λ i. is_among n.slots (2 * length (edges_of t.level.polygons) + i)) same ∙ there)

  pub start-inner : IsOpen ⊎ IsClosed → (2 * length (edges_of t.level.polygons) + p.0 < n.count) × (is_among n.slots (2 * length (edges_of t.level.polygons) + p.0) ≡ true)
  start-inner (inl is_open) = inner-at is_open.face (edge_at t.level.polygons e).0 (side-start (polygon_at t.level.polygons is_open.face) (edge_at t.level.polygons e) is_open.side) p.0 is_open.start
  start-inner (inr closed) = inner-at closed.face (edge_at t.level.polygons e).0 (side-start (polygon_at t.level.polygons closed.face) (edge_at t.level.polygons e) closed.side) p.0 closed.start

  pub back-inner : IsOpen ⊎ IsClosed → q.1 ≢ q.0 → (2 * length (edges_of t.level.polygons) + q.1 < n.count) × (is_among n.slots (2 * length (edges_of t.level.polygons) + q.1) ≡ true)
  back-inner (inl is_open) apart = absurd (apart is_open.end_back)
  back-inner (inr closed) apart = inner-at closed.other (edge_at t.level.polygons e).1 (side-start (polygon_at t.level.polygons closed.other) ((edge_at t.level.polygons e).1, (edge_at t.level.polygons e).0) closed.back) q.1 closed.end_back

  -- the lists as the code writes them, at the boundary and inside
  pub boundary-row : IsOpen ⊎ IsClosed → q.1 ≡ q.0 → (faces at edges ends : List ℕ) → faces ≡ p.0 ∷ (q.0 ∷ []) → at ≡ 1 ∷ (3 ∷ [])
      → edges ≡ number_at n.slots (2 * e) ∷ number_at n.slots (2 * length (edges_of t.level.polygons) + p.0) ∷ number_at n.slots (2 * e + 1) ∷ []
      → ends ≡ map (end_in n.ends (numbered_edge_point t.level.point_count t.level.polygons e)) edges → IsRow (kids t is) (numbered_edge_point t.level.point_count t.level.polygons e) true faces at edges ends
  boundary-row (inr closed) same faces at edges ends f c d o = absurd (closed.apart same)
  boundary-row (inl is_open) same faces at edges ends f c d o =
      let x = numbered_edge_point t.level.point_count t.level.polygons e in
      let list : faces ≡ kid t is is_open.face (edge_at t.level.polygons e).0 ∷ (kid t is is_open.face (edge_at t.level.polygons e).1 ∷ []) = f ∙ ap (λ i. i ∷ (q.0 ∷ [])) is_open.start ∙ ap (λ i. kid t is is_open.face (edge_at t.level.polygons e).0 ∷ (i ∷ [])) is_open.end in
      let others : edges ≡ number_at n.slots (half_slot t.level.polygons (edge_at t.level.polygons e).0 e) ∷ number_at n.slots (inner_slot t.level.polygons is_open.face (corner_of t.level.polygons (edge_at t.level.polygons e).0 is_open.face)) ∷ number_at n.slots (half_slot t.level.polygons (edge_at t.level.polygons e).1 e) ∷ [] =
      d ∙ same-three (ap (number_at n.slots) (sym half-slots.0)) (ap (λ i. number_at n.slots (2 * length (edges_of t.level.polygons) + i)) is_open.start) (ap (number_at n.slots) (sym half-slots.1)) in
      row-same (kids t is) x (sym list) (sym c) (sym others) (open-row t is n are e inside is_open.face is_open.side is_open.none ends (o ∙ ap (map (end_in n.ends x)) others))

  pub inside-row : IsOpen ⊎ IsClosed → q.1 ≢ q.0 → (faces at edges ends : List ℕ) → faces ≡ p.0 ∷ q.0 ∷ q.1 ∷ p.1 ∷ [] → at ≡ 1 ∷ 3 ∷ 1 ∷ 3 ∷ []
      → edges ≡ number_at n.slots (2 * e) ∷ number_at n.slots (2 * length (edges_of t.level.polygons) + p.0) ∷ number_at n.slots (2 * e + 1) ∷ number_at n.slots (2 * length (edges_of t.level.polygons) + q.1) ∷ []
      → ends ≡ map (end_in n.ends (numbered_edge_point t.level.point_count t.level.polygons e)) edges → IsRow (kids t is) (numbered_edge_point t.level.point_count t.level.polygons e) true faces at edges ends
  inside-row (inl is_open) apart faces at edges ends f c d o = absurd (apart is_open.end_back)
  inside-row (inr closed) apart faces at edges ends f c d o =
      let x = numbered_edge_point t.level.point_count t.level.polygons e in
      let list : faces ≡ kid t is closed.face (edge_at t.level.polygons e).0 ∷ kid t is closed.face (edge_at t.level.polygons e).1 ∷ kid t is closed.other (edge_at t.level.polygons e).1 ∷ kid t is closed.other (edge_at t.level.polygons e).0 ∷ [] =
      f ∙ same-four closed.start closed.end closed.end_back closed.start_back in
      let others : edges ≡ number_at n.slots (half_slot t.level.polygons (edge_at t.level.polygons e).0 e) ∷ number_at n.slots (inner_slot t.level.polygons closed.face (corner_of t.level.polygons (edge_at t.level.polygons e).0 closed.face)) ∷ number_at n.slots (half_slot t.level.polygons (edge_at t.level.polygons e).1 e) ∷ number_at n.slots (inner_slot t.level.polygons closed.other (corner_of t.level.polygons (edge_at t.level.polygons e).1 closed.other)) ∷ [] =
      d ∙ same-four (ap (number_at n.slots) (sym half-slots.0)) (ap (λ i. number_at n.slots (2 * length (edges_of t.level.polygons) + i)) closed.start) (ap (number_at n.slots) (sym half-slots.1)) (ap (λ i. number_at n.slots (2 * length (edges_of t.level.polygons) + i)) closed.end_back) in
      row-same (kids t is) x (sym list) (sym c) (sym others) (closed-row t is n are e inside closed.face closed.side closed.other closed.back ends (o ∙ ap (map (end_in n.ends x)) others))

  -- all edges of these lists have numbers
  low : (a : ℕ) → is_among n.slots a ≡ true → number_at n.slots a < length n.ends
  low a h = omega (arith, among-number n.slots a h, are.listed)

  pub boundary-inside : IsOpen ⊎ IsClosed → (edges : List ℕ) → edges ≡ number_at n.slots (2 * e) ∷ number_at n.slots (2 * length (edges_of t.level.polygons) + p.0) ∷ number_at n.slots (2 * e + 1) ∷ [] → All (λ i. i < length n.ends) edges
  boundary-inside directions edges d =
      let P : ℕ → Type 0 = λ i. i < length n.ends in
      let h = number_at n.slots (2 * e) in
      let i = number_at n.slots (2 * length (edges_of t.level.polygons) + p.0) in
      let j = number_at n.slots (2 * e + 1) in
      subst (All P) (sym d) (All-cons P h (i ∷ j ∷ []) (low (2 * e) halves-there.0.1) (All-cons P i (j ∷ []) (low (2 * length (edges_of t.level.polygons) + p.0) (start-inner directions).1) (All-cons P j [] (low (2 * e + 1) halves-there.1.1) (All-nil P))))

  pub inside-inside : IsOpen ⊎ IsClosed → q.1 ≢ q.0 → (edges : List ℕ) → edges ≡ number_at n.slots (2 * e) ∷ number_at n.slots (2 * length (edges_of t.level.polygons) + p.0) ∷ number_at n.slots (2 * e + 1) ∷ number_at n.slots (2 * length (edges_of t.level.polygons) + q.1) ∷ [] → All (λ i. i < length n.ends) edges
  inside-inside directions apart edges d =
      subst (All (λ i. i < length n.ends)) (sym d) (all-four (λ i. i < length n.ends) (number_at n.slots (2 * e)) (number_at n.slots (2 * length (edges_of t.level.polygons) + p.0)) (number_at n.slots (2 * e + 1)) (number_at n.slots (2 * length (edges_of t.level.polygons) + q.1))
      (low (2 * e) halves-there.0.1) (low (2 * length (edges_of t.level.polygons) + p.0) (start-inner directions).1) (low (2 * e + 1) halves-there.1.1) (low (2 * length (edges_of t.level.polygons) + q.1) (back-inner directions apart).1))
