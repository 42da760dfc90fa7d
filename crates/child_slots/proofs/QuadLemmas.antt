-- The child faces by their numbers, and the slots of their sides.
use Rattle.std.proofs.Common.{◌≡◌, ℕ, zero, suc, ◌+◌, ◌-◌, ◌<◌, inl, inr, true, false, nat_eq, List, [], ◌∷◌, length, get_or, arith, refl, ap, sym, ◌∙◌}
use Rattle.std.specs.List.{All}
use Rattle.std.proofs.lemmas.Bool.Decides.{nat_tests}
use Rattle.std.proofs.lemmas.List.{get_or-map}
use Rattle.std.proofs.lemmas.List.Elements.{All-nil, All-cons}
use Rattle.subdiv_model.specs.Lists.{last_of}
use Rattle.subdiv_model.specs.Polygons.{Polygon, polygon_at, same_edge, sides_of}
use Rattle.subdiv_model.specs.Edges.{edge_number, has_end}
use Rattle.subdiv_model.specs.Child.{face_point, child_polygons}
use Rattle.level_laws.proofs.FaceLemmas.{sides_of-length, child-stands}
use Rattle.mesh_laws.proofs.SideLemmas.{same_edge-refl}
use Rattle.level_topology.specs.Topology.{edge_at, side_at, corner_before, corner_after}
use Rattle.level_topology.proofs.LawLemmas.{edge-exists, edge-joins}
use Rattle.level_topology.proofs.PlaceLemmas.{side-there}
use Rattle.level_topology.proofs.FanWalkLemmas.{before-after}
use Rattle.child_slots.specs.Slots.{first_child, before_in, corner_at, edge_from, half_slot, inner_slot, slot_count, numbered_edge_point, quad_at, slots_at}
use Rattle.child_slots.specs.Slotted.{quad_sides}
use Rattle.child_slots.specs.Walked.{IsHalf, IsInner, IsSlot}
use Rattle.child_slots.proofs.SlotLemmas.{first-below, before-within, end-low}

-- the last of a list by its place
last-is : {X : Type 0} (d : X) (x : X) (xs : List X) → last_of d (x ∷ xs) ≡ get_or (x ∷ xs) (length xs) d
last-is d x [] = refl
last-is d x (y ∷ xs) = last-is d y xs

-- the item before another; the last item comes before the first
before-is : {X : Type 0} (d : X) (xs : List X) (c : ℕ) → c < length xs → get_or (last_of d xs ∷ xs) c d ≡ get_or xs (corner_before (length xs) c) d
before-is d [] c h = absurd (omega arith)
before-is d (x ∷ xs) zero h = let n : length (x ∷ xs) - 1 ≡ length xs = omega arith in last-is d x xs ∙ ap (λ k. get_or (x ∷ xs) k d) (sym n)
before-is d (x ∷ xs) (suc c) h =
    let no : nat_eq (suc c) 0 ≡ false = grind (arith, nat_tests) in
    let n : suc c - 1 ≡ c = omega arith in
    rw (no, n) refl

quad-same : {a a' b b' c d d' : ℕ} → a ≡ a' → b ≡ b' → d ≡ d' → a ∷ b ∷ c ∷ d ∷ [] ≡ a' ∷ b' ∷ c ∷ d' ∷ []
quad-same p q r = cc

pub all-four : {X : Type 0} (P : X → Type 0) (a b c d : X) → P a → P b → P c → P d → All P (a ∷ b ∷ c ∷ d ∷ [])
all-four P a b c d p q r s = All-cons P a (b ∷ c ∷ d ∷ []) p (All-cons P b (c ∷ d ∷ []) q (All-cons P c (d ∷ []) r (All-cons P d [] s (All-nil P))))

-- the edge after a corner has the number of the side there
pub edge-of-side : (polygons : List Polygon) (f c : ℕ) → c < length (polygon_at polygons f) → edge_from polygons f c ≡ edge_number polygons (get_or (sides_of (polygon_at polygons f)) c (0, 0))
edge-of-side polygons f c h = get_or-map (edge_number polygons) (sides_of (polygon_at polygons f)) c (0, 0) 0 (omega (arith, sides_of-length (polygon_at polygons f)))

-- the child of a face at a corner is the quad there
pub child-quad : (points : ℕ) (polygons : List Polygon) (f c : ℕ) → f < length polygons → c < length (polygon_at polygons f) → polygon_at (child_polygons points polygons) (first_child polygons f + c) ≡ quad_at points polygons f c
child-quad points polygons f c inside h =
    let sides = sides_of (polygon_at polygons f) in
    let b = before_in polygons f c in
    let long : length sides ≡ length (polygon_at polygons f) = sides_of-length (polygon_at polygons f) in
    let before : get_or (last_of (0, 0) sides ∷ sides) c (0, 0) ≡ get_or sides b (0, 0) = before-is (0, 0) sides c (omega (arith, long, h)) ∙ ap (λ n. get_or sides (corner_before n c) (0, 0)) long in
    let start : (get_or sides c (0, 0)).0 ≡ corner_at polygons f c = ap (λ (s : ℕ × ℕ). s.0) (side-there (polygon_at polygons f) c h) in
    let after : edge_number polygons (get_or sides c (0, 0)) ≡ edge_from polygons f c = sym (edge-of-side polygons f c h) in
    let back : edge_number polygons (get_or (last_of (0, 0) sides ∷ sides) c (0, 0)) ≡ edge_from polygons f b = ap (edge_number polygons) before ∙ sym (edge-of-side polygons f b (before-within polygons f c h)) in
    child-stands points polygons f c inside h ∙ quad-same start (ap (numbered_edge_point points polygons) after) (ap (numbered_edge_point points polygons) back)

-- a face that has a corner is there
pub face-below : (polygons : List Polygon) (f c : ℕ) → c < length (polygon_at polygons f) → f < length polygons
face-below [] f c h = absurd (omega arith)
face-below (p ∷ polygons) zero c h = omega arith
face-below (p ∷ polygons) (suc f) c h = let behind = face-below polygons f c h in omega (arith, behind)

module _ (points : ℕ) (polygons : List Polygon) (f c : ℕ) (h : c < length (polygon_at polygons f)) where
  -- the corner is an end of the edge after it
  start-end : has_end (corner_at polygons f c) (edge_at polygons (edge_from polygons f c)) ≡ true
  start-end =
      let joins = edge-joins polygons f c h in
      first-end (side_at (polygon_at polygons f) c) (edge_at polygons (edge_from polygons f c)) joins
    where
      first-end : (s e : ℕ × ℕ) → same_edge s e ≡ true → has_end s.0 e ≡ true
      first-end s e same = grind (arith, nat_tests)

  -- the corner is an end of the edge before it
  back-end : has_end (corner_at polygons f c) (edge_at polygons (edge_from polygons f (before_in polygons f c))) ≡ true
  back-end =
      let b = before_in polygons f c in
      let joins = edge-joins polygons f b (before-within polygons f c h) in
      let round : corner_after (length (polygon_at polygons f)) b ≡ c = (before-after (length (polygon_at polygons f)) c h).1 in
      ap (λ n. has_end (get_or (polygon_at polygons f) n 0) (edge_at polygons (edge_from polygons f b))) (sym round)
      ∙ second-end (side_at (polygon_at polygons f) b) (edge_at polygons (edge_from polygons f b)) joins
    where
      second-end : (s e : ℕ × ℕ) → same_edge s e ≡ true → has_end s.1 e ≡ true
      second-end s e same = grind (arith, nat_tests)

  turned : (a b : ℕ) → same_edge (a, b) (b, a) ≡ true
  turned a b = grind (arith, nat_tests)

  -- each side of a child face with the slot that it has
  pub sides-slots : All (λ s. IsSlot points polygons s.0 s.1) (quad_sides (slots_at polygons f c) (quad_at points polygons f c))
  sides-slots =
      let v = corner_at polygons f c in
      let e = edge_from polygons f c in
      let b = before_in polygons f c in
      let d = edge_from polygons f b in
      let P : ℕ × (ℕ × ℕ) → Type 0 = λ s. IsSlot points polygons s.0 s.1 in
      let E : ℕ → ℕ = numbered_edge_point points polygons in
      let F : ℕ = face_point points f in
      let one : IsHalf points polygons (half_slot polygons v e) (v, E e) = record { edge = e; end = v; exists = edge-exists polygons f c h; ends = start-end; slot_is = refl; side_is = same_edge-refl (v, E e) } in
      let two : IsInner points polygons (inner_slot polygons f c) (E e, F) = record { face = f; corner = c; exists = h; slot_is = refl; side_is = same_edge-refl (E e, F) } in
      let three : IsInner points polygons (inner_slot polygons f b) (F, E d) = record { face = f; corner = b; exists = before-within polygons f c h; slot_is = refl; side_is = turned F (E d) } in
      let four : IsHalf points polygons (half_slot polygons v d) (E d, v) = record { edge = d; end = v; exists = edge-exists polygons f b (before-within polygons f c h); ends = back-end; slot_is = refl; side_is = turned (E d) v } in
      all-four P (half_slot polygons v e, (v, E e)) (inner_slot polygons f c, (E e, F)) (inner_slot polygons f b, (F, E d)) (half_slot polygons v d, (E d, v)) (inl one) (inr two) (inr three) (inl four)

-- each slot is below their number
pub slot-below : (points : ℕ) (polygons : List Polygon) (slot : ℕ) (side : ℕ × ℕ) → IsSlot points polygons slot side → slot < slot_count polygons
slot-below points polygons slot side (inl h) = omega (arith, h.slot_is, h.exists, end-low polygons h.end h.edge)
slot-below points polygons slot side (inr k) = omega (arith, k.slot_is, first-below polygons k.face k.corner k.exists)
