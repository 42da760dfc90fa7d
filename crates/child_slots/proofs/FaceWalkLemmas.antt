-- The edges of a part of the next level while its faces are gone over.
use Rattle.std.proofs.Common.{◌≡◌, ℕ, zero, suc, ◌+◌, ◌*◌, ◌<◌, ◌≤◌, ◌^◌, true, List, [], ◌∷◌, ◌++◌, length, map, take, get_or, arith, refl, ap, sym, ◌∙◌, subst, append-nil, length-append}
use Rattle.std.specs.List.{All}
use Rattle.std.proofs.lemmas.Bool.Decides.{nat_tests}
use Rattle.subdiv_model.specs.Polygons.{Polygon, polygon_at, sides_of, has_corner}
use Rattle.subdiv_model.specs.Edges.{all_sides, first_named}
use Rattle.mesh_laws.proofs.EdgeLemmas.{length-first}
use Rattle.level_topology.specs.Topology.{Topology, IsTopology}
use Rattle.child_slots.specs.Slots.{slot_count, slots_at, quad_at}
use Rattle.child_slots.specs.Parts.{Part, IsPart, part_polygons, whole_quad}
use Rattle.child_slots.specs.Slotted.{Slotted, no_slots, with_slots, quad_sides}
use Rattle.child_slots.specs.Walked.{IsPartSlot, IsWalked}
use Rattle.child_slots.proofs.SlotLemmas.{over-of}
use Rattle.child_slots.proofs.QuadLemmas.{sides-slots, slot-below, all-four}
use Rattle.child_slots.proofs.PartLemmas.{quad-at-place, place-below}
use Rattle.child_slots.proofs.WalkLemmas.{walked-step}

-- child faces have four sides
quad-sides : (points : ℕ) (polygons : List Polygon) (number : ℕ → ℕ) (k : ℕ) (places : List (ℕ × ℕ)) → length (all_sides (take k (map (λ place. map number (whole_quad points polygons place)) places))) ≤ 4 * k
quad-sides points polygons number zero places = omega arith
quad-sides points polygons number (suc k) [] = omega arith
quad-sides points polygons number (suc k) (place ∷ places) =
    let rest = all_sides (take k (map (λ x. map number (whole_quad points polygons x)) places)) in
    let four : length (sides_of (map number (whole_quad points polygons place))) ≡ 4 = refl in
    omega (arith, quad-sides points polygons number k places, length-append (sides_of (map number (whole_quad points polygons place))) rest, four)

-- each corner of a quad is one
pub quad-has : (a b d e : ℕ) → (has_corner a (a ∷ b ∷ d ∷ e ∷ []) ≡ true) × (has_corner b (a ∷ b ∷ d ∷ e ∷ []) ≡ true) × (has_corner d (a ∷ b ∷ d ∷ e ∷ []) ≡ true) × (has_corner e (a ∷ b ∷ d ∷ e ∷ []) ≡ true)
quad-has a b d e = (grind (arith, nat_tests), grind (arith, nat_tests), grind (arith, nat_tests), grind (arith, nat_tests))

-- before the first child face there is no edge
pub walked-none : (points : ℕ) (polygons : List Polygon) (p : Part) (n : Slotted) → IsPart points polygons p → n ≡ no_slots (slot_count polygons) → IsWalked points polygons p 0 n
walked-none points polygons p n is made = subst (λ x. IsWalked points polygons p 0 x) (sym made) (record {
  part = is;
  numbering = record { ends = refl; faces_listed = refl; sharp_listed = refl; faces = λ e inside. absurd (omega (arith, inside)) };
  slots = λ e inside. absurd (omega (arith, inside));
  listed = refl;
  count_is = refl;
})

-- the first k child faces have at most 4k edges
pub walked-few : (points : ℕ) (polygons : List Polygon) (p : Part) (k : ℕ) (n : Slotted) → IsWalked points polygons p k n → length n.ends ≤ 4 * k
walked-few points polygons p k n walked =
    let sides = all_sides (take k (part_polygons points polygons p)) in
    let ends : length n.ends ≡ length (first_named (sides ++ [])) = ap length walked.numbering.ends in
    omega (arith, ends, length-first (sides ++ []), ap length (append-nil sides), quad-sides points polygons p.number k p.places)

module _ (t : Topology) (is : IsTopology t) where
  abbrev points : ℕ
  points = t.level.point_count

  abbrev polygons : List Polygon
  polygons = t.level.polygons

  -- the slots of a child face are slots
  pub slots-below : (f c : ℕ) → c < length (polygon_at polygons f) → All (λ a. a < slot_count polygons) (slots_at polygons f c)
  slots-below f c h =
      let all = sides-slots points polygons f c h in
      all-four (λ a. a < slot_count polygons) _ _ _ _
      (slot-below points polygons _ _ (all 0 (0, (0, 0)) (omega arith)))
      (slot-below points polygons _ _ (all 1 (0, (0, 0)) (omega arith)))
      (slot-below points polygons _ _ (all 2 (0, (0, 0)) (omega arith)))
      (slot-below points polygons _ _ (all 3 (0, (0, 0)) (omega arith)))

  module _ (p : Part) (part : IsPart points polygons p) (i : ℕ) (h : i < length p.places) where
    abbrev place : ℕ × ℕ
    place = get_or p.places i (0, 0)

    abbrev quad : Polygon
    quad = whole_quad points polygons place

    -- a place is below 2^28
    pub place-low : i < 2 ^ 28
    place-low = omega (arith, place-below points polygons (over-of t is) is.simple p part i h, is.small.corners)

    -- the part has the corners of its child faces
    pub corners-there : All (λ n. p.has n ≡ true) quad
    corners-there =
        let has = quad-has (get_or quad 0 0) (get_or quad 1 0) (get_or quad 2 0) (get_or quad 3 0) in
        all-four (λ n. p.has n ≡ true) _ _ _ _ (part.corners i _ h has.0) (part.corners i _ h has.1) (part.corners i _ h has.2) (part.corners i _ h has.3)

    -- each side of a child face has a slot
    pub part-slots : All (λ s. IsPartSlot points polygons p s.0 s.1) (quad_sides (slots_at polygons place.0 place.1) (map p.number quad))
    part-slots =
        let all = sides-slots points polygons place.0 place.1 (part.within i h) in
        let has = quad-has (get_or quad 0 0) (get_or quad 1 0) (get_or quad 2 0) (get_or quad 3 0) in
        let a = part.corners i _ h has.0 in
        let b = part.corners i _ h has.1 in
        let d = part.corners i _ h has.2 in
        let e = part.corners i _ h has.3 in
        let P : ℕ × (ℕ × ℕ) → Type 0 = λ s. IsPartSlot points polygons p s.0 s.1 in
        all-four P _ _ _ _
        (record { whole = (get_or quad 0 0, get_or quad 1 0); slot_is = all 0 (0, (0, 0)) (omega arith); first = a; second = b; side_is = refl })
        (record { whole = (get_or quad 1 0, get_or quad 2 0); slot_is = all 1 (0, (0, 0)) (omega arith); first = b; second = d; side_is = refl })
        (record { whole = (get_or quad 2 0, get_or quad 3 0); slot_is = all 2 (0, (0, 0)) (omega arith); first = d; second = e; side_is = refl })
        (record { whole = (get_or quad 3 0, get_or quad 0 0); slot_is = all 3 (0, (0, 0)) (omega arith); first = e; second = a; side_is = refl })

    -- the child face of one place more
    pub place-step : (face : ℕ) (n m : Slotted) (slots corners : List ℕ) → IsWalked points polygons p i n → face ≡ i → slots ≡ slots_at polygons place.0 place.1 → corners ≡ map p.number quad → m ≡ with_slots face n (quad_sides slots corners) → IsWalked points polygons p (i + 1) m
    place-step face n m slots corners walked number s q made =
        let same : m ≡ with_slots i n (quad_sides (slots_at polygons place.0 place.1) (map p.number quad)) = made ∙ ap (λ k. with_slots k n (quad_sides slots corners)) number ∙ ap (λ xs. with_slots i n (quad_sides xs corners)) s ∙ ap (λ xs. with_slots i n (quad_sides (slots_at polygons place.0 place.1) xs)) q in
        walked-step points polygons (over-of t is) is.simple p part is.sides_once i n m (quad_sides (slots_at polygons place.0 place.1) (map p.number quad)) h walked part-slots (ap sides_of (sym (quad-at-place points polygons (over-of t is) is.simple p part i h))) same

    -- the face and the corner of the place are f and c
    module _ (f c : ℕ) (at : get_or p.places i (0, 0) ≡ (f, c)) where
      pub corner-at : c < length (polygon_at t.level.polygons f)
      corner-at = subst (λ (x : ℕ × ℕ). x.1 < length (polygon_at t.level.polygons x.0)) at (part.within i h)

      pub corners-at : (corners : List ℕ) → corners ≡ quad_at t.level.point_count t.level.polygons f c → All (λ n. p.has n ≡ true) corners
      corners-at corners q = subst (λ (xs : List ℕ). All (λ n. p.has n ≡ true) xs) (ap (λ (x : ℕ × ℕ). whole_quad t.level.point_count t.level.polygons x) at ∙ sym q) corners-there

      pub slots-at : (slots : List ℕ) (count : ℕ) → slots ≡ slots_at t.level.polygons f c → count ≡ slot_count t.level.polygons → All (λ a. a < count) slots
      slots-at slots count s n = subst (λ (xs : List ℕ). All (λ a. a < count) xs) (sym s) (subst (λ (k : ℕ). All (λ a. a < k) (slots_at t.level.polygons f c)) (sym n) (slots-below f c corner-at))

      pub step-at : (face : ℕ) (n m : Slotted) (slots corners numbers : List ℕ) → IsWalked t.level.point_count t.level.polygons p i n → face ≡ i → slots ≡ slots_at t.level.polygons f c → corners ≡ quad_at t.level.point_count t.level.polygons f c → numbers ≡ map p.number corners
          → m ≡ with_slots face n (quad_sides slots numbers) → IsWalked t.level.point_count t.level.polygons p (i + 1) m
      step-at face n m slots corners numbers walked number s q r made =
          place-step face n m slots numbers walked number (s ∙ ap (λ (x : ℕ × ℕ). slots_at t.level.polygons x.0 x.1) (sym at)) (r ∙ ap (map p.number) (q ∙ ap (λ (x : ℕ × ℕ). whole_quad t.level.point_count t.level.polygons x) (sym at))) made
