-- The next level as a part of itself, and its edges by their slots.
use Rattle.std.proofs.Common.{◌≡◌, ℕ, suc, ◌+◌, ◌<◌, true, List, [], ◌∷◌, length, map, get_or, arith, refl, ap, sym, ◌∙◌, subst}
use Rattle.std.specs.List.{All, sum_by}
use Rattle.std.proofs.lemmas.List.{get_or-map, length-map}
use Rattle.subdiv_model.specs.Polygons.{Polygon, polygon_at, is_among}
use Rattle.subdiv_model.specs.Edges.{edges_of, edge_number}
use Rattle.subdiv_model.specs.Child.{child_polygons}
use Rattle.level_laws.proofs.FaceLemmas.{child_polygons-length}
use Rattle.level_topology.specs.Topology.{Topology, IsTopology, face_edges_of}
use Rattle.level_topology.specs.Numbering.{IsNumbering}
use Rattle.child_slots.specs.Slots.{first_child, slots_at}
use Rattle.child_slots.specs.Parts.{IsPart, part, place_number, whole_quad, part_polygons}
use Rattle.child_slots.specs.Slotted.{Slotted, number_at}
use Rattle.child_slots.specs.Walked.{IsSlot, IsPartSlot, numbered_of}
use Rattle.child_slots.proofs.SlotLemmas.{first-below}
use Rattle.child_slots.proofs.QuadLemmas.{child-quad, face-below}
use Rattle.child_slots.proofs.ChildEdgeLemmas as parts
use Rattle.uniform_refiner.specs.Uniform.{all_places, whole_part}
use Rattle.uniform_refiner.specs.Put.{AreChildEdges}
use Rattle.uniform_refiner.proofs.PlaceLemmas.{places-at, places-count, place-item}

-- lists with the same items are one
same-items : (xs ys : List Polygon) → length xs ≡ length ys → ((k : ℕ) → k < length xs → polygon_at xs k ≡ polygon_at ys k) → xs ≡ ys
same-items [] [] long same = refl
same-items [] (y ∷ ys) long same = absurd (omega (arith, long))
same-items (x ∷ xs) [] long same = absurd (omega (arith, long))
same-items (x ∷ xs) (y ∷ ys) long same =
    let first : x ≡ y = same 0 (omega arith) in
    let rest = same-items xs ys (omega (arith, long)) (λ k h. same (suc k) (omega (arith, h))) in
    ap (λ z. z ∷ xs) first ∙ ap (λ zs. y ∷ zs) rest

module _ (points : ℕ) (polygons : List Polygon) where
  -- the places of all corners are a part
  pub whole-is : IsPart points polygons (whole_part polygons)
  whole-is = record {
    within = λ i h.
        let item = place-item polygons i (0, 0) (omega (arith, h, places-count 0 polygons)) in
        subst (λ (x : ℕ × ℕ). x.1 < length (polygon_at polygons x.0)) (sym item.4) item.2;
    ascend = λ i j less h.
        let one = place-item polygons i (0, 0) (omega (arith, less, h, places-count 0 polygons)) in
        let two = place-item polygons j (0, 0) (omega (arith, h, places-count 0 polygons)) in
        omega (arith, less, one.3, two.3, ap (place_number polygons) one.4, ap (place_number polygons) two.4);
    corners = λ i n h has. refl;
    apart = λ n m a b same. same;
  }

  -- the faces of the whole part are all child faces
  pub whole-quads : part_polygons points polygons (whole_part polygons) ≡ child_polygons points polygons
  whole-quads =
      same-items (part_polygons points polygons (whole_part polygons)) (child_polygons points polygons) (count ∙ sym (child_polygons-length points polygons)) (λ k h.
      let low : k < sum_by length polygons = omega (arith, h, count) in
      let item = place-item polygons k (0, 0) low in
      get_or-map (λ x. map (λ (n : ℕ). n) (whole_quad points polygons x)) (all_places 0 polygons) k (0, 0) [] (omega (arith, low, places-count 0 polygons))
      ∙ ap (λ x. map (λ (n : ℕ). n) (whole_quad points polygons x)) item.4
      ∙ sym (child-quad points polygons item.0 item.1 (face-below polygons item.0 item.1 item.2) item.2)
      ∙ ap (polygon_at (child_polygons points polygons)) (sym item.3))
    where
      count : length (part_polygons points polygons (whole_part polygons)) ≡ sum_by length polygons
      count = length-map (all_places 0 polygons) (λ x. map (λ (n : ℕ). n) (whole_quad points polygons x)) ∙ places-count 0 polygons

  -- the slots of the whole part are those of its sides
  whole-slot : (a : ℕ) (s : ℕ × ℕ) → IsSlot points polygons a s → IsPartSlot points polygons (whole_part polygons) a s
  whole-slot a s slot = record { whole = s; slot_is = slot; first = refl; second = refl; side_is = refl }

  slot-whole : (a : ℕ) (s : ℕ × ℕ) → IsPartSlot points polygons (whole_part polygons) a s → IsSlot points polygons a s
  slot-whole a s slot = subst (λ (x : ℕ × ℕ). IsSlot points polygons a x) (sym slot.side_is) slot.slot_is

-- a list of the places of all corners is that part
pub listed-part : (points : ℕ) (polygons : List Polygon) (places : List (ℕ × ℕ)) → places ≡ all_places 0 polygons → IsPart points polygons (part places (λ n. true) (λ n. n))
listed-part points polygons places p = subst (λ (xs : List (ℕ × ℕ)). IsPart points polygons (part xs (λ n. true) (λ n. n))) (sym p) (whole-is points polygons)

module _ (t : Topology) (is : IsTopology t) (n : Slotted) (are : AreChildEdges t.level n) where
  abbrev points : ℕ
  points = t.level.point_count

  abbrev polygons : List Polygon
  polygons = t.level.polygons

  abbrev quads : List Polygon
  quads = child_polygons t.level.point_count t.level.polygons

  -- the child edges are numbered by first appearance
  pub numbering-all : IsNumbering quads [] (numbered_of n)
  numbering-all = subst (λ (qs : List Polygon). IsNumbering qs [] (numbered_of n)) (whole-quads points polygons) (parts.numbering-all t is (whole_part polygons) n are)

  pub ends-all : n.ends ≡ edges_of quads
  ends-all = parts.ends-all t is (whole_part polygons) n are ∙ ap edges_of (whole-quads points polygons)

  -- each child edge has the slot of its side
  pub slot-of : (e : ℕ) → e < length n.ends → IsSlot points polygons (get_or n.slots e 0) (get_or n.ends e (0, 0))
  slot-of e h = slot-whole points polygons (get_or n.slots e 0) (get_or n.ends e (0, 0)) (are.slots e h)

  -- a side's number is that of its slot
  pub slot-number : (a : ℕ) (s : ℕ × ℕ) → IsSlot points polygons a s → number_at n.slots a ≡ edge_number quads s
  slot-number a s slot = parts.slot-number t is (whole_part polygons) n are a s (whole-slot points polygons a s slot) ∙ ap (λ qs. edge_number qs s) (whole-quads points polygons)

  -- the slots of a child face's sides
  module _ (f c : ℕ) (h : c < length (polygon_at polygons f)) where
    place-here : get_or (all_places 0 polygons) (first_child polygons f + c) (0, 0) ≡ (f, c)
    place-here = let zero_more : 0 + f ≡ f = omega arith in places-at 0 polygons f c (0, 0) h ∙ ap (λ (i : ℕ). (i, c)) zero_more

    inside : first_child polygons f + c < length (all_places 0 polygons)
    inside = omega (arith, first-below polygons f c h, places-count 0 polygons)

    -- each slot of a side of the child face has an edge
    pub slots-there : All (λ a. is_among n.slots a ≡ true) (slots_at polygons f c)
    slots-there = subst (λ (x : ℕ × ℕ). All (λ a. is_among n.slots a ≡ true) (slots_at polygons x.0 x.1)) place-here (parts.slots-there t is (whole_part polygons) n are (first_child polygons f + c) inside)

    -- the numbers of a child face's edges are those at its slots
    pub numbers-quad : map (number_at n.slots) (slots_at polygons f c) ≡ face_edges_of quads (polygon_at quads (first_child polygons f + c))
    numbers-quad =
        subst (λ (x : ℕ × ℕ). map (number_at n.slots) (slots_at polygons x.0 x.1) ≡ face_edges_of quads (polygon_at quads (first_child polygons f + c))) place-here
        (parts.numbers-quad t is (whole_part polygons) n are (first_child polygons f + c) inside ∙ ap (λ qs. face_edges_of qs (polygon_at qs (first_child polygons f + c))) (whole-quads points polygons))
