-- The row of the point of an edge, as its lists are put.
use Rattle.std.proofs.Common.{◌≡◌, ◌≢◌, ℕ, ◌+◌, ◌<◌, ◌⊎◌, inl, inr, ◌||◌, Bool, true, false, nat_eq, List, [], ◌∷◌, length, map, get_or, arith, refl, ap, sym, ◌∙◌, subst}
use Rattle.std.specs.List.{list_any}
use Rattle.std.proofs.lemmas.Bool.Decides.{nat_tests}
use Rattle.std.proofs.lemmas.Bool.{eqb-true, eq-eqb, ne_eqb}
use Rattle.std.proofs.lemmas.List.Sums.{passes_at_first}
use Rattle.subdiv_model.specs.Polygons.{Polygon, polygon_at, sides_of, same_side, same_edge, has_side, has_edge, has_corner, is_among}
use Rattle.subdiv_model.specs.Edges.{all_sides, edges_of, edge_number, faces_of_edge, has_end}
use Rattle.subdiv_model.specs.Manifold.{IsSuccessor, is_simple}
use Rattle.mesh_laws.proofs.SideLemmas.{distinct-count, no-side-back, same_edge-refl}
use Rattle.mesh_laws.proofs.ClosedLemmas.{all-at, any-here, any-side-edge}
use Rattle.mesh_laws.proofs.FanLemmas.{any-side, places-at, side-start, side-end, owner-unique, leader-unique, distinct-at}
use Rattle.mesh_laws.proofs.WalkLemmas.{same-tests}
use Rattle.mesh_laws.proofs.ChildCornerLemmas.{corner-place}
use Rattle.level_topology.specs.Topology.{Topology, IsTopology, edge_at, corner_of}
use Rattle.level_topology.specs.View.{faces_of_pair}
use Rattle.level_topology.specs.PointRows.{IsRow, IsFanFrom}
use Rattle.level_topology.proofs.LawLemmas.{own-number, either-number}
use Rattle.level_topology.proofs.PlaceLemmas.{places-ascend}
use Rattle.child_slots.specs.Slots.{half_slot, inner_slot, numbered_edge_point}
use Rattle.child_slots.specs.Slotted.{Slotted, number_at, end_in}
use Rattle.uniform_refiner.specs.Put.{AreChildEdges}
use Rattle.child_slots.specs.Walked.{IsHalf}
use Rattle.child_slots.proofs.SlotTableLemmas.{among-number}
use Rattle.child_slots.proofs.SlotTellLemmas.{first-tells, first-order}
use Rattle.level_topology.proofs.NumberingLemmas.{faces-alike, any-same}
use Rattle.uniform_refiner.proofs.WholeEdgeLemmas.{slot-number, ends-all}
use Rattle.uniform_refiner.proofs.PutEdgeLemmas.{faces-are}
use Rattle.uniform_refiner.proofs.PointLemmas.{corner-there, kids, kids-simple, kids-distinct, vertex-corner, row-of}
use Rattle.uniform_refiner.proofs.VertexLemmas.{half-among}
use Rattle.uniform_refiner.proofs.DirectionLemmas.{edge-direction, one-listed, two-listed}
use Rattle.uniform_refiner.proofs.EdgePointLemmas.{kid, at-start, at-end, a-low, b-low, start-corner, end-corner, start-quad, end-quad, start-in, end-out, inside-leads, start-before, end-before, end-after, IsAtEdge, edge-kid}

-- a polygon that has an edge has its ends
edge-corners : (polygon : Polygon) (s : ℕ × ℕ) → has_edge s polygon ≡ true → (has_corner s.0 polygon ≡ true) × (has_corner s.1 polygon ≡ true)
edge-corners polygon s has =
    let found = any-side (same_edge s) (sides_of polygon) has in
    go found.0 found.1 (side-start polygon found.0 found.2) (side-end polygon found.0 found.2) (nat_eq s.0 found.0.0) refl (nat_eq s.1 found.0.1) refl
  where
    go : (u : ℕ × ℕ) → same_edge s u ≡ true → has_corner u.0 polygon ≡ true → has_corner u.1 polygon ≡ true → (p : Bool) → nat_eq s.0 u.0 ≡ p → (q : Bool) → nat_eq s.1 u.1 ≡ q → (has_corner s.0 polygon ≡ true) × (has_corner s.1 polygon ≡ true)
    go u same first second true x true y = (ap (λ v. has_corner v polygon) (eqb-true _ _ x) ∙ first, ap (λ v. has_corner v polygon) (eqb-true _ _ y) ∙ second)
    go u same first second true x false y =
        let z : nat_eq s.0 u.1 ≡ true = grind (arith, nat_tests) in
        let w : nat_eq s.1 u.0 ≡ true = grind (arith, nat_tests) in
        (ap (λ v. has_corner v polygon) (eqb-true _ _ z) ∙ second, ap (λ v. has_corner v polygon) (eqb-true _ _ w) ∙ first)
    go u same first second false x q y =
        let z : nat_eq s.0 u.1 ≡ true = grind (arith, nat_tests) in
        let w : nat_eq s.1 u.0 ≡ true = grind (arith, nat_tests) in
        (ap (λ v. has_corner v polygon) (eqb-true _ _ z) ∙ second, ap (λ v. has_corner v polygon) (eqb-true _ _ w) ∙ first)

-- a side is an edge, in either direction
side-edge : (polygon : Polygon) (s : ℕ × ℕ) → has_side s polygon ≡ true → has_edge s polygon ≡ true
side-edge polygon s has = any-side-edge s (sides_of polygon) has

back-edge : (polygon : Polygon) (a b : ℕ) → has_side (b, a) polygon ≡ true → has_edge (a, b) polygon ≡ true
back-edge polygon a b has = any-same (a, b) (b, a) (sides_of polygon) (grind (arith, nat_tests)) ∙ any-side-edge (b, a) (sides_of polygon) has

-- a pair with one face has it twice
pub pair-one : (pair : ℕ × ℕ) (x : ℕ) → faces_of_pair pair ≡ x ∷ [] → (pair.0 ≡ x) × (pair.1 ≡ x)
pair-one pair x h = go (nat_eq pair.0 pair.1) refl
  where
    go : (b : Bool) → nat_eq pair.0 pair.1 ≡ b → (pair.0 ≡ x) × (pair.1 ≡ x)
    go true e = let one : pair.0 ∷ [] ≡ x ∷ [] = rw e at h in let first : pair.0 ≡ x = cc in (first, sym (eqb-true _ _ e) ∙ first)
    go false e = let two : pair.0 ∷ (pair.1 ∷ []) ≡ x ∷ [] = rw e at h in absurd (cc)

pub pair-two : (pair : ℕ × ℕ) (x y : ℕ) → faces_of_pair pair ≡ x ∷ (y ∷ []) → (pair.0 ≡ x) × (pair.1 ≡ y)
pair-two pair x y h = go (nat_eq pair.0 pair.1) refl
  where
    go : (b : Bool) → nat_eq pair.0 pair.1 ≡ b → (pair.0 ≡ x) × (pair.1 ≡ y)
    go true e = let one : pair.0 ∷ [] ≡ x ∷ (y ∷ []) = rw e at h in absurd (cc)
    go false e = let two : pair.0 ∷ (pair.1 ∷ []) ≡ x ∷ (y ∷ []) = rw e at h in (cc, cc)

-- the same row for lists that are equal to these
pub row-same : (polygons : List Polygon) (v : ℕ) {f f' c c' d d' o : List ℕ} → f ≡ f' → c ≡ c' → d ≡ d' → IsRow polygons v true f c d o → IsRow polygons v true f' c' d' o
row-same polygons v {f} {f'} {c} {c'} {d} {d'} {o} p q r row =
    subst (λ k. IsRow polygons v true f' c' k o) r (subst (λ k. IsRow polygons v true f' k d o) q (subst (λ k. IsRow polygons v true k c d o) p row))

module _ (t : Topology) (is : IsTopology t) (n : Slotted) (are : AreChildEdges t.level n) (e : ℕ) (inside : e < length (edges_of t.level.polygons)) where
  abbrev points : ℕ
  points = t.level.point_count

  abbrev polygons : List Polygon
  polygons = t.level.polygons

  abbrev quads : List Polygon
  quads = kids t is

  abbrev x : ℕ
  x = numbered_edge_point t.level.point_count t.level.polygons e

  abbrev a : ℕ
  a = (edge_at t.level.polygons e).0

  abbrev b : ℕ
  b = (edge_at t.level.polygons e).1

  number : edge_number polygons (a, b) ≡ e
  number = own-number polygons e inside

  back-number : edge_number polygons (b, a) ≡ e
  back-number = either-number polygons e (b, a) inside (grind (arith, nat_tests))

  owner : (s : ℕ × ℕ) (f g : ℕ) → has_side s (polygon_at polygons f) ≡ true → has_side s (polygon_at polygons g) ≡ true → f ≡ g
  owner s f g h k = owner-unique polygons s f g (distinct-count s (all_sides polygons) is.sides_once) h k

  -- a half has the child faces that are listed
  pub half-faces : (v : ℕ) → has_end v (edge_at polygons e) ≡ true → faces_of_pair (get_or n.faces (number_at n.slots (half_slot polygons v e)) (0, 0)) ≡ faces_of_edge quads (v, x)
  half-faces v ends =
      let h = number_at n.slots (half_slot polygons v e) in
      let half : IsHalf points polygons (half_slot polygons v e) (v, x) = record { edge = e; end = v; exists = inside; ends = ends; slot_is = refl; side_is = same_edge-refl (v, x) } in
      let low : h < length n.ends = omega (arith, among-number n.slots (half_slot polygons v e) (half-among t is n are v e inside ends), are.listed) in
      let number : h ≡ edge_number quads (v, x) = slot-number t is n are (half_slot polygons v e) (v, x) (inl half) in
      let within : edge_number quads (v, x) < length (edges_of quads) = omega (arith, low, number, ap length (ends-all t is n are)) in
      let same : same_edge (v, x) (edge_at quads h) ≡ true = ap (λ k. same_edge (v, x) (edge_at quads k)) number ∙ passes_at_first (same_edge (v, x)) (edges_of quads) (0, 0) within in
      faces-are t is n are h low ∙ sym (faces-alike (v, x) (edge_at quads h) 0 quads same)

  members : (s : ℕ × ℕ) (k : ℕ) → is_among (faces_of_edge quads s) k ≡ has_edge s (polygon_at quads k)
  members s k =
      let zero_more : k ≡ 0 + k = omega arith in
      ap (is_among (faces_of_edge quads s)) zero_more ∙ places-at (has_edge s) [] refl 0 k quads

  module _ (f : ℕ) (side : has_side (edge_at t.level.polygons e) (polygon_at t.level.polygons f) ≡ true) where
    abbrev pub A : ℕ
    A = kid t is f (edge_at t.level.polygons e).0

    abbrev pub B : ℕ
    B = kid t is f (edge_at t.level.polygons e).1

    -- the ends are two points
    pub ends-apart : a ≡ b → ⊥
    ends-apart same =
        let wrong : 1 ≡ 3 = sym (start-corner t is f a b e inside side number) ∙ ap (λ v. corner_of quads x (kid t is f v)) same ∙ end-corner t is f a b e inside side number in
        omega (arith, wrong)

    kids-apart : A ≢ B
    kids-apart same =
        let wrong : 1 ≡ 3 = sym (start-corner t is f a b e inside side number) ∙ ap (corner_of quads x) same ∙ end-corner t is f a b e inside side number in
        omega (arith, wrong)

    -- the child at one end does not have the other
    end-absent : has_corner a (polygon_at quads B) ≡ true → ⊥
    end-absent has =
        let at = at-end t is f a b e inside side number in
        let low = a-low t is f a b e inside side number in
        let corner = vertex-corner t is a f (corner_of polygons b f) low (ap (has_corner a) (sym (end-quad t is f a b e inside side number)) ∙ has) in
        ends-apart (sym corner ∙ at.1)

    start-absent : has_corner b (polygon_at quads A) ≡ true → ⊥
    start-absent has =
        let at = at-start t is f a b e inside side number in
        let low = b-low t is f a b e inside side number in
        let corner = vertex-corner t is b f (corner_of polygons a f) low (ap (has_corner b) (sym (start-quad t is f a b e inside side number)) ∙ has) in
        ends-apart (sym at.1 ∙ corner)

    start-edge : has_edge (a, x) (polygon_at quads A) ≡ true
    start-edge = side-edge (polygon_at quads A) (a, x) (start-in t is f a b e inside side number)

    end-edge : has_edge (b, x) (polygon_at quads B) ≡ true
    end-edge = back-edge (polygon_at quads B) b x (end-out t is f a b e inside side number)

    start-has : has_corner x (polygon_at quads A) ≡ true
    start-has = side-end (polygon_at quads A) (a, x) (start-in t is f a b e inside side number)

    end-has : has_corner x (polygon_at quads B) ≡ true
    end-has = side-start (polygon_at quads B) (x, b) (end-out t is f a b e inside side number)

    -- no other face has the edge
    module _ (none : list_any (same_side (b, a)) (all_sides t.level.polygons) ≡ false) where
      open-cases : (k : ℕ) → has_corner x (polygon_at quads k) ≡ true → (k ≡ A) ⊎ (k ≡ B)
      open-cases k has = go (edge-kid t is e k inside has)
        where
          go : IsAtEdge t is a b k → (k ≡ A) ⊎ (k ≡ B)
          go at = by-direction at.face at.direction
            where
              by-direction : (g : ℕ) → ((has_side (a, b) (polygon_at polygons g) ≡ true) × ((k ≡ kid t is g a) ⊎ (k ≡ kid t is g b))) ⊎ ((has_side (b, a) (polygon_at polygons g) ≡ true) × ((k ≡ kid t is g a) ⊎ (k ≡ kid t is g b))) → (k ≡ A) ⊎ (k ≡ B)
              by-direction g (inl h) = moved g (owner (a, b) g f h.0 side) h.1
                where
                  moved : (g : ℕ) → g ≡ f → (k ≡ kid t is g a) ⊎ (k ≡ kid t is g b) → (k ≡ A) ⊎ (k ≡ B)
                  moved g same (inl at) = inl (at ∙ ap (λ i. kid t is i a) same)
                  moved g same (inr at) = inr (at ∙ ap (λ i. kid t is i b) same)
              by-direction g (inr h) = let some = any-here (same_side (b, a)) polygons g h.0 in absurd (cc)

      pub open-start : faces_of_edge quads (a, x) ≡ A ∷ []
      open-start = one-listed (faces_of_edge quads (a, x)) A (places-ascend (has_edge (a, x)) [] 0 quads) (λ k. members (a, x) k ∙ same-tests _ _ (λ has. eq-eqb k A (only k has (open-cases k (edge-corners (polygon_at quads k) (a, x) has).1))) (λ h. ap (λ i. has_edge (a, x) (polygon_at quads i)) (eqb-true k A h) ∙ start-edge))
        where
          only : (k : ℕ) → has_edge (a, x) (polygon_at quads k) ≡ true → (k ≡ A) ⊎ (k ≡ B) → k ≡ A
          only k has (inl at) = at
          only k has (inr at) = absurd (end-absent (ap (λ i. has_corner a (polygon_at quads i)) (sym at) ∙ (edge-corners (polygon_at quads k) (a, x) has).0))

      pub open-end : faces_of_edge quads (b, x) ≡ B ∷ []
      open-end = one-listed (faces_of_edge quads (b, x)) B (places-ascend (has_edge (b, x)) [] 0 quads) (λ k. members (b, x) k ∙ same-tests _ _ (λ has. eq-eqb k B (only k has (open-cases k (edge-corners (polygon_at quads k) (b, x) has).1))) (λ h. ap (λ i. has_edge (b, x) (polygon_at quads i)) (eqb-true k B h) ∙ end-edge))
        where
          only : (k : ℕ) → has_edge (b, x) (polygon_at quads k) ≡ true → (k ≡ A) ⊎ (k ≡ B) → k ≡ B
          only k has (inr at) = at
          only k has (inl at) = absurd (start-absent (ap (λ i. has_corner b (polygon_at quads i)) (sym at) ∙ (edge-corners (polygon_at quads k) (b, x) has).0))

      open-from : IsFanFrom quads x A (A ∷ (B ∷ []))
      open-from = record {
        path = (inside-leads t is f a b e inside side number, tt);
        once = (let apart = ne_eqb A B kids-apart in rw apart refl);
        all = λ k. same-tests _ _ (λ h. has k (nat_eq k A) refl h) (λ h. among k (open-cases k h));
        some = omega arith;
        first = refl;
      }
        where
          has : (k : ℕ) (q : Bool) → nat_eq k A ≡ q → is_among (A ∷ (B ∷ [])) k ≡ true → has_corner x (polygon_at quads k) ≡ true
          has k true at h = ap (λ i. has_corner x (polygon_at quads i)) (eqb-true k A at) ∙ start-has
          has k false at h = let other : nat_eq k B ≡ true = grind (arith, nat_tests) in ap (λ i. has_corner x (polygon_at quads i)) (eqb-true k B other) ∙ end-has

          among : (k : ℕ) → (k ≡ A) ⊎ (k ≡ B) → is_among (A ∷ (B ∷ [])) k ≡ true
          among k (inl at) = let yes = eq-eqb k A at in rw yes refl
          among k (inr at) = let yes = eq-eqb k B at in grind (arith, nat_tests)

      -- none leads to the first child: it would have both directions of a half, or an end that it has not
      open-without-predecessor : (k : ℕ) → IsSuccessor quads x k A → ⊥
      open-without-predecessor k leads =
          let corner : leads.corner ≡ a = leader-unique (polygon_at quads A) x leads.corner a (distinct-at quads A (kids-simple t is)) leads.leads_back (start-in t is f a b e inside side number) in
          let out : has_side (x, a) (polygon_at quads k) ≡ true = ap (λ (v : ℕ). has_side (x, v) (polygon_at quads k)) (sym corner) ∙ leads.follows in
          by-direction (open-cases k (side-start (polygon_at quads k) (x, a) out)) out
        where
          by-direction : (k ≡ A) ⊎ (k ≡ B) → has_side (x, a) (polygon_at quads k) ≡ true → ⊥
          by-direction (inl at) out = no-side-back (polygon_at quads A) a x (all-at is_simple quads A [] (corner-place quads A x start-has) (kids-simple t is)) (start-in t is f a b e inside side number) (ap (λ i. has_side (x, a) (polygon_at quads i)) (sym at) ∙ out)
          by-direction (inr at) out = end-absent (ap (λ i. has_corner a (polygon_at quads i)) (sym at) ∙ side-end (polygon_at quads k) (x, a) out)

      pub open-row : (ends : List ℕ) → ends ≡ map (end_in n.ends x) (number_at n.slots (half_slot polygons a e) ∷ number_at n.slots (inner_slot polygons f (corner_of polygons a f)) ∷ number_at n.slots (half_slot polygons b e) ∷ [])
          → IsRow quads x true (A ∷ (B ∷ [])) (1 ∷ (3 ∷ [])) (number_at n.slots (half_slot polygons a e) ∷ number_at n.slots (inner_slot polygons f (corner_of polygons a f)) ∷ number_at n.slots (half_slot polygons b e) ∷ []) ends
      open-row ends o =
          let edges = number_at n.slots (half_slot polygons a e) ∷ number_at n.slots (inner_slot polygons f (corner_of polygons a f)) ∷ number_at n.slots (half_slot polygons b e) ∷ [] in
          row-of quads (kids-simple t is) (kids-distinct t is) x true (A ∷ (B ∷ [])) (1 ∷ (3 ∷ [])) edges ends
          (record { start = A; is = open-from; no_predecessor = λ yes. open-without-predecessor; led = λ no. absurd (cc) })
          (two-same (sym (start-corner t is f a b e inside side number)) (sym (end-corner t is f a b e inside side number)))
          (three-same (sym (start-before t is f a b e inside side number n are)) (sym (end-before t is f a b e inside side number n are)) (sym (end-after t is f a b e inside side number n are)))
          (o ∙ ap (λ es. map (end_in es x) edges) (ends-all t is n are))
        where
          two-same : {i i' j j' : ℕ} → i ≡ i' → j ≡ j' → i ∷ (j ∷ []) ≡ i' ∷ (j' ∷ [])
          two-same p q = cc

          three-same : {i i' j j' k k' : ℕ} → i ≡ i' → j ≡ j' → k ≡ k' → i ∷ j ∷ k ∷ [] ≡ i' ∷ j' ∷ k' ∷ []
          three-same p q r = cc

    -- another face has the edge the other way
    module _ (g : ℕ) (back : has_side ((edge_at t.level.polygons e).1, (edge_at t.level.polygons e).0) (polygon_at t.level.polygons g) ≡ true) where
      abbrev pub C : ℕ
      C = kid t is g (edge_at t.level.polygons e).1

      abbrev pub D : ℕ
      D = kid t is g (edge_at t.level.polygons e).0

      faces-apart : f ≢ g
      faces-apart same =
          let there : has_side (b, a) (polygon_at polygons f) ≡ true = ap (λ i. has_side (b, a) (polygon_at polygons i)) same ∙ back in
          no-side-back (polygon_at polygons f) a b (all-at is_simple polygons f [] (corner-place polygons f a (side-start (polygon_at polygons f) (a, b) side)) is.simple) side there

      -- the face that has it in its direction comes first
      faces-order : f < g
      faces-order =
          let found = edge-direction polygons e g inside (back-edge (polygon_at polygons g) a b back) in
          let same : found.0 ≡ f = owner (a, b) found.0 f found.2 side in
          omega (arith, found.1, same, faces-apart)

      pub start-order : A < D
      start-order = omega (arith, first-order polygons f g (corner_of polygons a f) faces-order (at-start t is f a b e inside side number).0)

      pub end-order : B < C
      end-order = omega (arith, first-order polygons f g (corner_of polygons b f) faces-order (at-end t is f a b e inside side number).0)

      third-has : has_corner x (polygon_at quads C) ≡ true
      third-has = side-end (polygon_at quads C) (b, x) (start-in t is g b a e inside back back-number)

      last-has : has_corner x (polygon_at quads D) ≡ true
      last-has = side-start (polygon_at quads D) (x, a) (end-out t is g b a e inside back back-number)

      closed-cases : (k : ℕ) → has_corner x (polygon_at quads k) ≡ true → ((k ≡ A) ⊎ (k ≡ B)) ⊎ ((k ≡ C) ⊎ (k ≡ D))
      closed-cases k has = go (edge-kid t is e k inside has)
        where
          go : IsAtEdge t is a b k → ((k ≡ A) ⊎ (k ≡ B)) ⊎ ((k ≡ C) ⊎ (k ≡ D))
          go at = by-direction at.face at.direction
            where
              moved : (h i : ℕ) → h ≡ i → (k ≡ kid t is h a) ⊎ (k ≡ kid t is h b) → (k ≡ kid t is i a) ⊎ (k ≡ kid t is i b)
              moved h i same (inl at) = inl (at ∙ ap (λ j. kid t is j a) same)
              moved h i same (inr at) = inr (at ∙ ap (λ j. kid t is j b) same)

              turned : (k ≡ D) ⊎ (k ≡ C) → (k ≡ C) ⊎ (k ≡ D)
              turned (inl at) = inr at
              turned (inr at) = inl at

              by-direction : (h : ℕ) → ((has_side (a, b) (polygon_at polygons h) ≡ true) × ((k ≡ kid t is h a) ⊎ (k ≡ kid t is h b))) ⊎ ((has_side (b, a) (polygon_at polygons h) ≡ true) × ((k ≡ kid t is h a) ⊎ (k ≡ kid t is h b))) → ((k ≡ A) ⊎ (k ≡ B)) ⊎ ((k ≡ C) ⊎ (k ≡ D))
              by-direction h (inl has) = inl (moved h f (owner (a, b) h f has.0 side) has.1)
              by-direction h (inr has) = inr (turned (moved h g (owner (b, a) h g has.0 back) has.1))

      -- the children of the second face have one end each too
      third-absent : has_corner a (polygon_at quads C) ≡ true → ⊥
      third-absent has =
          let at = at-start t is g b a e inside back back-number in
          let low = b-low t is g b a e inside back back-number in
          let corner = vertex-corner t is a g (corner_of polygons b g) low (ap (has_corner a) (sym (start-quad t is g b a e inside back back-number)) ∙ has) in
          ends-apart (sym corner ∙ at.1)

      last-absent : has_corner b (polygon_at quads D) ≡ true → ⊥
      last-absent has =
          let at = at-end t is g b a e inside back back-number in
          let low = a-low t is g b a e inside back back-number in
          let corner = vertex-corner t is b g (corner_of polygons a g) low (ap (has_corner b) (sym (end-quad t is g b a e inside back back-number)) ∙ has) in
          ends-apart (sym at.1 ∙ corner)

      pub closed-start : faces_of_edge quads (a, x) ≡ A ∷ (D ∷ [])
      closed-start = two-listed (faces_of_edge quads (a, x)) A D start-order (places-ascend (has_edge (a, x)) [] 0 quads) (λ k. members (a, x) k ∙ same-tests _ _ (λ has. only k (edge-corners (polygon_at quads k) (a, x) has).0 (closed-cases k (edge-corners (polygon_at quads k) (a, x) has).1)) (λ h. there k (nat_eq k A) refl h))
        where
          only : (k : ℕ) → has_corner a (polygon_at quads k) ≡ true → ((k ≡ A) ⊎ (k ≡ B)) ⊎ ((k ≡ C) ⊎ (k ≡ D)) → (nat_eq k A || nat_eq k D) ≡ true
          only k has (inl (inl at)) = let yes = eq-eqb k A at in rw yes refl
          only k has (inl (inr at)) = absurd (end-absent (ap (λ i. has_corner a (polygon_at quads i)) (sym at) ∙ has))
          only k has (inr (inl at)) = absurd (third-absent (ap (λ i. has_corner a (polygon_at quads i)) (sym at) ∙ has))
          only k has (inr (inr at)) = let yes = eq-eqb k D at in grind (arith, nat_tests)

          there : (k : ℕ) (q : Bool) → nat_eq k A ≡ q → (nat_eq k A || nat_eq k D) ≡ true → has_edge (a, x) (polygon_at quads k) ≡ true
          there k true at h = ap (λ i. has_edge (a, x) (polygon_at quads i)) (eqb-true k A at) ∙ start-edge
          there k false at h = let other : nat_eq k D ≡ true = grind (arith, nat_tests) in ap (λ i. has_edge (a, x) (polygon_at quads i)) (eqb-true k D other) ∙ back-edge (polygon_at quads D) a x (end-out t is g b a e inside back back-number)

      pub closed-end : faces_of_edge quads (b, x) ≡ B ∷ (C ∷ [])
      closed-end = two-listed (faces_of_edge quads (b, x)) B C end-order (places-ascend (has_edge (b, x)) [] 0 quads) (λ k. members (b, x) k ∙ same-tests _ _ (λ has. only k (edge-corners (polygon_at quads k) (b, x) has).0 (closed-cases k (edge-corners (polygon_at quads k) (b, x) has).1)) (λ h. there k (nat_eq k B) refl h))
        where
          only : (k : ℕ) → has_corner b (polygon_at quads k) ≡ true → ((k ≡ A) ⊎ (k ≡ B)) ⊎ ((k ≡ C) ⊎ (k ≡ D)) → (nat_eq k B || nat_eq k C) ≡ true
          only k has (inl (inr at)) = let yes = eq-eqb k B at in rw yes refl
          only k has (inl (inl at)) = absurd (start-absent (ap (λ i. has_corner b (polygon_at quads i)) (sym at) ∙ has))
          only k has (inr (inr at)) = absurd (last-absent (ap (λ i. has_corner b (polygon_at quads i)) (sym at) ∙ has))
          only k has (inr (inl at)) = let yes = eq-eqb k C at in grind (arith, nat_tests)

          there : (k : ℕ) (q : Bool) → nat_eq k B ≡ q → (nat_eq k B || nat_eq k C) ≡ true → has_edge (b, x) (polygon_at quads k) ≡ true
          there k true at h = ap (λ i. has_edge (b, x) (polygon_at quads i)) (eqb-true k B at) ∙ end-edge
          there k false at h = let other : nat_eq k C ≡ true = grind (arith, nat_tests) in ap (λ i. has_edge (b, x) (polygon_at quads i)) (eqb-true k C other) ∙ side-edge (polygon_at quads C) (b, x) (start-in t is g b a e inside back back-number)

      -- children of two faces are two
      other-face : (u v : ℕ) → has_corner u (polygon_at polygons f) ≡ true → has_corner v (polygon_at polygons g) ≡ true → kid t is f u ≢ kid t is g v
      other-face u v h k same = faces-apart (first-tells polygons f g (corner_of polygons u f) (corner_of polygons v g) (corner-there polygons u f h).0 (corner-there polygons v g k).0 same)

      closed-from : IsFanFrom quads x A (A ∷ B ∷ C ∷ D ∷ [])
      closed-from =
          let fa = side-start (polygon_at polygons f) (a, b) side in
          let fb = side-end (polygon_at polygons f) (a, b) side in
          let gb = side-start (polygon_at polygons g) (b, a) back in
          let ga = side-end (polygon_at polygons g) (b, a) back in
          let d1 = ne_eqb A B kids-apart in
          let d2 = ne_eqb A C (other-face a b fa gb) in
          let d3 = ne_eqb A D (other-face a a fa ga) in
          let d4 = ne_eqb B C (other-face b b fb gb) in
          let d5 = ne_eqb B D (other-face b a fb ga) in
          let d6 = ne_eqb C D back-apart in
          record {
            path = (inside-leads t is f a b e inside side number, (across, (inside-leads t is g b a e inside back back-number, tt)));
            once = rw (d1, d2, d3, d4, d5, d6) refl;
            all = λ k. same-tests _ _ (λ h. has k (nat_eq k A) (nat_eq k B) (nat_eq k C) refl refl refl h) (λ h. among k (closed-cases k h));
            some = omega arith;
            first = refl;
          }
        where
          back-apart : C ≢ D
          back-apart same =
              let wrong : 1 ≡ 3 = sym (start-corner t is g b a e inside back back-number) ∙ ap (corner_of quads x) same ∙ end-corner t is g b a e inside back back-number in
              omega (arith, wrong)

          across : IsSuccessor quads x B C
          across = record { corner = b; follows = end-out t is f a b e inside side number; leads_back = start-in t is g b a e inside back back-number }

          has : (k : ℕ) (p q r : Bool) → nat_eq k A ≡ p → nat_eq k B ≡ q → nat_eq k C ≡ r → is_among (A ∷ B ∷ C ∷ D ∷ []) k ≡ true → has_corner x (polygon_at quads k) ≡ true
          has k true q r at y z h = ap (λ i. has_corner x (polygon_at quads i)) (eqb-true k A at) ∙ start-has
          has k false true r y at z h = ap (λ i. has_corner x (polygon_at quads i)) (eqb-true k B at) ∙ end-has
          has k false false true y z at h = ap (λ i. has_corner x (polygon_at quads i)) (eqb-true k C at) ∙ third-has
          has k false false false u y z h = let other : nat_eq k D ≡ true = grind (arith, nat_tests) in ap (λ i. has_corner x (polygon_at quads i)) (eqb-true k D other) ∙ last-has

          among : (k : ℕ) → ((k ≡ A) ⊎ (k ≡ B)) ⊎ ((k ≡ C) ⊎ (k ≡ D)) → is_among (A ∷ B ∷ C ∷ D ∷ []) k ≡ true
          among k (inl (inl at)) = let yes = eq-eqb k A at in rw yes refl
          among k (inl (inr at)) = let yes = eq-eqb k B at in grind (arith, nat_tests)
          among k (inr (inl at)) = let yes = eq-eqb k C at in grind (arith, nat_tests)
          among k (inr (inr at)) = let yes = eq-eqb k D at in grind (arith, nat_tests)

      closed-led : IsSuccessor quads x D A
      closed-led = record { corner = a; follows = end-out t is g b a e inside back back-number; leads_back = start-in t is f a b e inside side number }

      pub closed-row : (ends : List ℕ) → ends ≡ map (end_in n.ends x) (number_at n.slots (half_slot polygons a e) ∷ number_at n.slots (inner_slot polygons f (corner_of polygons a f)) ∷ number_at n.slots (half_slot polygons b e) ∷ number_at n.slots (inner_slot polygons g (corner_of polygons b g)) ∷ [])
          → IsRow quads x true (A ∷ B ∷ C ∷ D ∷ []) (1 ∷ 3 ∷ 1 ∷ 3 ∷ []) (number_at n.slots (half_slot polygons a e) ∷ number_at n.slots (inner_slot polygons f (corner_of polygons a f)) ∷ number_at n.slots (half_slot polygons b e) ∷ number_at n.slots (inner_slot polygons g (corner_of polygons b g)) ∷ []) ends
      closed-row ends o =
          let edges = number_at n.slots (half_slot polygons a e) ∷ number_at n.slots (inner_slot polygons f (corner_of polygons a f)) ∷ number_at n.slots (half_slot polygons b e) ∷ number_at n.slots (inner_slot polygons g (corner_of polygons b g)) ∷ [] in
          row-of quads (kids-simple t is) (kids-distinct t is) x false (A ∷ B ∷ C ∷ D ∷ []) (1 ∷ 3 ∷ 1 ∷ 3 ∷ []) edges ends
          (record { start = A; is = closed-from; no_predecessor = λ no. absurd (cc); led = λ yes. closed-led })
          (four-same (sym (start-corner t is f a b e inside side number)) (sym (end-corner t is f a b e inside side number)) (sym (start-corner t is g b a e inside back back-number)) (sym (end-corner t is g b a e inside back back-number)))
          (four-same (sym (start-before t is f a b e inside side number n are)) (sym (end-before t is f a b e inside side number n are)) (sym (start-before t is g b a e inside back back-number n are)) (sym (end-before t is g b a e inside back back-number n are)))
          (o ∙ ap (λ es. map (end_in es x) edges) (ends-all t is n are))
        where
          four-same : {i i' j j' k k' l l' : ℕ} → i ≡ i' → j ≡ j' → k ≡ k' → l ≡ l' → i ∷ j ∷ k ∷ l ∷ [] ≡ i' ∷ j' ∷ k' ∷ l' ∷ []
          four-same p q r s = cc
