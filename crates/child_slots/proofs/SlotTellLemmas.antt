-- Two sides of child faces are the same edge exactly where they have the same slot.
use Rattle.std.proofs.Common.{◌≡◌, ℕ, zero, suc, ◌+◌, ◌<◌, inl, inr, Bool, true, false, ◌&&◌, nat_eq, nat_lt, List, [], ◌∷◌, length, take, get_or, arith, refl, ap, sym, ◌∙◌}
use Rattle.std.specs.List.{list_all}
use Rattle.std.proofs.lemmas.Bool.Decides.{nat_tests}
use Rattle.std.proofs.lemmas.Bool.{and_parts, eqb-true, eq-eqb, ne_eqb, ltb-true}
use Rattle.std.proofs.lemmas.List.Sums.{sum_by-cons}
use Rattle.subdiv_model.specs.Polygons.{Polygon, polygon_at, same_edge, sides_of, is_over}
use Rattle.subdiv_model.specs.Edges.{all_sides, edges_of, has_end}
use Rattle.subdiv_model.specs.Manifold.{is_simple}
use Rattle.subdiv_model.specs.Child.{face_point}
use Rattle.level_laws.proofs.FaceLemmas.{sides_of-length}
use Rattle.mesh_laws.proofs.SideLemmas.{same_edge-refl, same_edge-sym, same_edge-alike, polygon-edge-count}
use Rattle.mesh_laws.proofs.ChildCountLemmas.{is_inside, sides-inside}
use Rattle.mesh_laws.proofs.ClosedLemmas.{all-at, first_named-all}
use Rattle.level_topology.specs.Topology.{edge_at, end_of}
use Rattle.level_topology.proofs.LawLemmas.{edge-joins}
use Rattle.level_topology.proofs.PlaceLemmas.{two-count, side-there}
use Rattle.child_slots.specs.Slots.{first_child, half_slot, inner_slot, numbered_edge_point, edge_from}
use Rattle.child_slots.specs.Walked.{IsHalf, IsInner, IsSlot}
use Rattle.child_slots.proofs.SlotLemmas.{end-low}

-- a later face's child faces come later
pub first-order : (polygons : List Polygon) (f g c : ℕ) → f < g → c < length (polygon_at polygons f) → first_child polygons f + c < first_child polygons g
first-order [] f g c less h = absurd (omega arith)
first-order (p ∷ polygons) f zero c less h = absurd (omega arith)
first-order (p ∷ polygons) zero (suc g) c less h = omega (arith, sum_by-cons length p (take g polygons))
first-order (p ∷ polygons) (suc f) (suc g) c less h =
    let behind = first-order polygons f g c (omega arith) h in
    omega (arith, behind, sum_by-cons length p (take f polygons), sum_by-cons length p (take g polygons))

-- equal numbers of child faces have equal parents
pub first-tells : (polygons : List Polygon) (f g c d : ℕ) → c < length (polygon_at polygons f) → d < length (polygon_at polygons g) → first_child polygons f + c ≡ first_child polygons g + d → f ≡ g
first-tells polygons f g c d h k e = go (nat_lt f g) (nat_lt g f) refl refl
  where
    go : (p q : Bool) → nat_lt f g ≡ p → nat_lt g f ≡ q → f ≡ g
    go true q x y = absurd (omega (arith, first-order polygons f g c (ltb-true f g x) h, e))
    go false true x y = absurd (omega (arith, first-order polygons g f d (ltb-true g f y) k, e))
    go false false x y = grind (arith, nat_tests)

-- two corners of a simple face with the same edge after them are one
pub edge-tells : (polygons : List Polygon) (f c d : ℕ) → is_simple (polygon_at polygons f) ≡ true → c < length (polygon_at polygons f) → d < length (polygon_at polygons f) → edge_from polygons f c ≡ edge_from polygons f d → c ≡ d
edge-tells polygons f c d simple h k e = go (nat_lt c d) (nat_lt d c) refl refl
  where
    polygon : Polygon
    polygon = polygon_at polygons f

    joined : (i : ℕ) → i < length polygon → same_edge (get_or (sides_of polygon) i (0, 0)) (edge_at polygons (edge_from polygons f i)) ≡ true
    joined i h = ap (λ s. same_edge s (edge_at polygons (edge_from polygons f i))) (side-there polygon i h) ∙ edge-joins polygons f i h

    once : (i j : ℕ) → i < j → j < length polygon → edge_from polygons f i ≡ edge_from polygons f j → ⊥
    once i j less h e =
        let edge : ℕ × ℕ = edge_at polygons (edge_from polygons f j) in
        let first : same_edge edge (get_or (sides_of polygon) i (0, 0)) ≡ true = same_edge-sym edge _ ∙ ap (λ n. same_edge (get_or (sides_of polygon) i (0, 0)) (edge_at polygons n)) (sym e) ∙ joined i (omega arith) in
        let second : same_edge edge (get_or (sides_of polygon) j (0, 0)) ≡ true = same_edge-sym edge _ ∙ joined j h in
        let two = two-count (same_edge edge) (0, 0) (sides_of polygon) i j less (omega (arith, sides_of-length polygon)) first second in
        omega (arith, two, polygon-edge-count polygon edge simple)

    go : (p q : Bool) → nat_lt c d ≡ p → nat_lt d c ≡ q → c ≡ d
    go true q x y = absurd (once c d (ltb-true c d x) k e)
    go false true x y = absurd (once d c (ltb-true d c y) h (sym e))
    go false false x y = grind (arith, nat_tests)

module _ (points : ℕ) (polygons : List Polygon) (over : is_over points polygons ≡ true) (simple : list_all is_simple polygons ≡ true) where
  -- the ends of edges are points
  pub end-below : (e v : ℕ) → e < length (edges_of polygons) → has_end v (edge_at polygons e) ≡ true → v < points
  end-below e v inside ends =
      let all = first_named-all (is_inside points) (all_sides polygons) (sides-inside points polygons over) in
      let parts = and_parts _ _ (all-at (is_inside points) (edges_of polygons) e (0, 0) inside all) in
      go (nat_eq v (edge_at polygons e).0) refl (ltb-true _ _ parts.0) (ltb-true _ _ parts.1)
    where
      go : (b : Bool) → nat_eq v (edge_at polygons e).0 ≡ b → (edge_at polygons e).0 < points → (edge_at polygons e).1 < points → v < points
      go true h p q = omega (arith, eqb-true _ _ h)
      go false h p q = let other : nat_eq v (edge_at polygons e).1 ≡ true = grind (arith, nat_tests) in omega (arith, eqb-true _ _ other)

  -- the points of equal ends of one edge are equal
  pub end-tells : (e u v : ℕ) → has_end u (edge_at polygons e) ≡ true → has_end v (edge_at polygons e) ≡ true → end_of polygons u e ≡ end_of polygons v e → u ≡ v
  end-tells e u v h k same = go (nat_eq u (edge_at polygons e).0) (nat_eq v (edge_at polygons e).0) refl refl
    where
      go : (p q : Bool) → nat_eq u (edge_at polygons e).0 ≡ p → nat_eq v (edge_at polygons e).0 ≡ q → u ≡ v
      go true true x y = eqb-true _ _ x ∙ sym (eqb-true _ _ y)
      go true false x y = let first : end_of polygons u e ≡ 0 = rw x refl in let second : end_of polygons v e ≡ 1 = rw y refl in absurd (omega (arith, first, second, same))
      go false true x y = let first : end_of polygons u e ≡ 1 = rw x refl in let second : end_of polygons v e ≡ 0 = rw y refl in absurd (omega (arith, first, second, same))
      go false false x y =
          let a : nat_eq u (edge_at polygons e).1 ≡ true = grind (arith, nat_tests) in
          let b : nat_eq v (edge_at polygons e).1 ≡ true = grind (arith, nat_tests) in
          eqb-true _ _ a ∙ sym (eqb-true _ _ b)

  -- a test that holds exactly for equal numbers is their test of equality
  same-test : (m n : ℕ) (b : Bool) → (m ≡ n → b ≡ true) → (b ≡ true → m ≡ n) → nat_eq m n ≡ b
  same-test m n true f g = eq-eqb m n (g refl)
  same-test m n false f g = ne_eqb m n (λ same. let yes = f same in absurd (cc))

  -- two pairs that are the same as these two are the same exactly where these are
  same-pairs : (s t a b : ℕ × ℕ) → same_edge s a ≡ true → same_edge t b ≡ true → same_edge s t ≡ same_edge a b
  same-pairs s t a b h k = same_edge-alike s a t h ∙ same_edge-sym a t ∙ same_edge-alike t b a k ∙ same_edge-sym b a

  half-half : (a b : ℕ) (s t : ℕ × ℕ) → IsHalf points polygons a s → IsHalf points polygons b t → nat_eq a b ≡ same_edge s t
  half-half a b s t h k =
      let u = end-below h.edge h.end h.exists h.ends in
      let v = end-below k.edge k.end k.exists k.ends in
      let E : ℕ → ℕ = numbered_edge_point points polygons in
      same-test a b (same_edge s t)
      (λ same.
      let edges : h.edge ≡ k.edge = omega (arith, same, h.slot_is, k.slot_is, end-low polygons h.end h.edge, end-low polygons k.end k.edge) in
      let low : end_of polygons h.end h.edge ≡ end_of polygons k.end h.edge = omega (arith, same, h.slot_is, k.slot_is, edges, ap (end_of polygons k.end) edges) in
      let ends : h.end ≡ k.end = end-tells h.edge h.end k.end h.ends (ap (λ e. has_end k.end (edge_at polygons e)) edges ∙ k.ends) low in
      let pair : (h.end, E h.edge) ≡ (k.end, E k.edge) = cc in
      same-pairs s t (h.end, E h.edge) (k.end, E k.edge) h.side_is k.side_is ∙ ap (λ p. same_edge p (k.end, E k.edge)) pair ∙ same_edge-refl (k.end, E k.edge))
      (λ same.
      let pairs : same_edge (h.end, E h.edge) (k.end, E k.edge) ≡ true = sym (same-pairs s t _ _ h.side_is k.side_is) ∙ same in
      let apart : nat_eq h.end (E k.edge) ≡ false = ne_eqb _ _ (λ x. absurd (omega arith)) in
      let both : (nat_eq h.end k.end && nat_eq (E h.edge) (E k.edge)) ≡ true = grind (arith, nat_tests) in
      let parts = and_parts (nat_eq h.end k.end) (nat_eq (E h.edge) (E k.edge)) both in
      let edges : h.edge ≡ k.edge = omega (arith, eqb-true _ _ parts.1) in
      let ends : half_slot polygons h.end h.edge ≡ half_slot polygons k.end k.edge = ap (λ v. half_slot polygons v h.edge) (eqb-true _ _ parts.0) ∙ ap (half_slot polygons k.end) edges in
      h.slot_is ∙ ends ∙ sym k.slot_is)

  half-inner : (a b : ℕ) (s t : ℕ × ℕ) → IsHalf points polygons a s → IsInner points polygons b t → (nat_eq a b ≡ false) × (same_edge s t ≡ false)
  half-inner a b s t h k =
      let u = end-below h.edge h.end h.exists h.ends in
      let E : ℕ → ℕ = numbered_edge_point points polygons in
      let p : ℕ = E (edge_from polygons k.face k.corner) in
      let one : nat_eq h.end p ≡ false = ne_eqb _ _ (λ x. absurd (omega arith)) in
      let two : nat_eq h.end (face_point points k.face) ≡ false = ne_eqb _ _ (λ x. absurd (omega arith)) in (
        ne_eqb a b (λ same. absurd (omega (arith, same, h.slot_is, k.slot_is, h.exists, end-low polygons h.end h.edge))),
        same-pairs s t (h.end, E h.edge) (p, face_point points k.face) h.side_is k.side_is ∙ rw (one, two) refl,
      )

  inner-inner : (a b : ℕ) (s t : ℕ × ℕ) → IsInner points polygons a s → IsInner points polygons b t → nat_eq a b ≡ same_edge s t
  inner-inner a b s t h k =
      let p : ℕ = numbered_edge_point points polygons (edge_from polygons h.face h.corner) in
      let q : ℕ = numbered_edge_point points polygons (edge_from polygons k.face k.corner) in
      same-test a b (same_edge s t)
      (λ same.
      let faces : h.face ≡ k.face = first-tells polygons h.face k.face h.corner k.corner h.exists k.exists (omega (arith, same, h.slot_is, k.slot_is)) in
      let corners : h.corner ≡ k.corner = omega (arith, same, h.slot_is, k.slot_is, ap (first_child polygons) faces) in
      let pair : (p, face_point points h.face) ≡ (q, face_point points k.face) = cc in
      same-pairs s t (p, face_point points h.face) (q, face_point points k.face) h.side_is k.side_is ∙ ap (λ x. same_edge x (q, face_point points k.face)) pair ∙ same_edge-refl (q, face_point points k.face))
      (λ same.
      let pairs : same_edge (p, face_point points h.face) (q, face_point points k.face) ≡ true = sym (same-pairs s t _ _ h.side_is k.side_is) ∙ same in
      let there : k.face < length polygons = face-below polygons k.face k.corner k.exists in
      let apart : nat_eq p (face_point points k.face) ≡ false = ne_eqb _ _ (λ x. absurd (omega arith)) in
      let both : (nat_eq p q && nat_eq (face_point points h.face) (face_point points k.face)) ≡ true = grind (arith, nat_tests) in
      let parts = and_parts (nat_eq p q) (nat_eq (face_point points h.face) (face_point points k.face)) both in
      let faces : h.face ≡ k.face = omega (arith, eqb-true _ _ parts.1) in
      let edges : edge_from polygons h.face h.corner ≡ edge_from polygons k.face k.corner = omega (arith, eqb-true _ _ parts.0) in
      let corner : k.corner < length (polygon_at polygons h.face) = rw faces k.exists in
      let corners : h.corner ≡ k.corner = edge-tells polygons h.face h.corner k.corner (all-at is_simple polygons h.face [] (omega (arith, faces, there)) simple) h.exists corner (edges ∙ ap (λ f. edge_from polygons f k.corner) (sym faces)) in
      h.slot_is ∙ ap (inner_slot polygons h.face) corners ∙ ap (λ f. inner_slot polygons f k.corner) faces ∙ sym k.slot_is)
    where
      face-below : (polygons : List Polygon) (f c : ℕ) → c < length (polygon_at polygons f) → f < length polygons
      face-below [] f c h = absurd (omega arith)
      face-below (p ∷ polygons) zero c h = omega arith
      face-below (p ∷ polygons) (suc f) c h = let behind = face-below polygons f c h in omega (arith, behind)

  -- two slots are equal exactly where their sides are
  pub slots-tell : (a b : ℕ) (s t : ℕ × ℕ) → IsSlot points polygons a s → IsSlot points polygons b t → nat_eq a b ≡ same_edge s t
  slots-tell a b s t (inl h) (inl k) = half-half a b s t h k
  slots-tell a b s t (inl h) (inr k) = let both = half-inner a b s t h k in both.0 ∙ sym both.1
  slots-tell a b s t (inr h) (inl k) = let both = half-inner b a t s k h in nat_eq-turn a b ∙ both.0 ∙ sym (same_edge-sym s t ∙ both.1)
    where
      nat_eq-turn : (m n : ℕ) → nat_eq m n ≡ nat_eq n m
      nat_eq-turn m n = grind (arith, nat_tests)
  slots-tell a b s t (inr h) (inr k) = inner-inner a b s t h k
