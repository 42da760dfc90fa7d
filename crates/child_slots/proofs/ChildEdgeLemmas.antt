-- The edges of a whole part by their slots.
use Rattle.std.proofs.Common.{◌≡◌, ℕ, ◌<◌, true, List, [], ◌∷◌, length, map, take, get_or, arith, ap, sym, ◌∙◌, subst}
use Rattle.std.specs.List.{All, list_any}
use Rattle.std.proofs.lemmas.Bool.Decides.{nat_tests}
use Rattle.std.proofs.lemmas.List.{take_all}
use Rattle.subdiv_model.specs.Polygons.{Polygon, polygon_at, same_edge, has_side, is_among}
use Rattle.subdiv_model.specs.Edges.{edges_of, edge_number}
use Rattle.mesh_laws.proofs.ChildCornerLemmas.{side-named}
use Rattle.level_topology.specs.Topology.{Topology, IsTopology, face_edges_of}
use Rattle.child_slots.specs.Slots.{slots_at}
use Rattle.child_slots.specs.Parts.{Part, part_polygons, whole_quad}
use Rattle.child_slots.specs.Slotted.{Slotted, number_at}
use Rattle.child_slots.specs.Walked.{IsPartSlot, numbered_of, ArePartEdges}
use Rattle.child_slots.proofs.SlotLemmas.{over-of}
use Rattle.child_slots.proofs.QuadLemmas.{all-four}
use Rattle.child_slots.proofs.PartLemmas.{quads-count, quad-at-place}
use Rattle.child_slots.proofs.WalkLemmas.{HasSlots, slot-known}
use Rattle.level_topology.specs.Numbering.{IsNumbering, number_in}
use Rattle.level_topology.proofs.NumberingLemmas.{numbered-ends}
use Rattle.child_slots.proofs.FaceWalkLemmas.{part-slots}

-- each corner of a quad has a side to the next one
pub quad-side : (a b d e : ℕ) → (has_side (a, b) (a ∷ b ∷ d ∷ e ∷ []) ≡ true) × (has_side (b, d) (a ∷ b ∷ d ∷ e ∷ []) ≡ true) × (has_side (d, e) (a ∷ b ∷ d ∷ e ∷ []) ≡ true) × (has_side (e, a) (a ∷ b ∷ d ∷ e ∷ []) ≡ true)
quad-side a b d e = (grind (arith, nat_tests), grind (arith, nat_tests), grind (arith, nat_tests), grind (arith, nat_tests))

module _ (t : Topology) (is : IsTopology t) (p : Part) (n : Slotted) (are : ArePartEdges t.level p n) where
  abbrev points : ℕ
  points = t.level.point_count

  abbrev polygons : List Polygon
  polygons = t.level.polygons

  abbrev quads : List Polygon
  quads = part_polygons t.level.point_count t.level.polygons p

  all-quads : take (length p.places) quads ≡ quads
  all-quads = take_all (length p.places) quads (omega (arith, quads-count points polygons (over-of t is) is.simple p are.part))

  -- the child edges are numbered by first appearance
  pub numbering-all : IsNumbering quads [] (numbered_of n)
  numbering-all = subst (λ (qs : List Polygon). IsNumbering qs [] (numbered_of n)) all-quads are.numbering

  pub ends-all : n.ends ≡ edges_of quads
  ends-all = numbered-ends quads (numbered_of n) numbering-all

  has-slots : HasSlots points polygons (over-of t is) is.simple p are.part n
  has-slots = record { slots = are.slots; listed = are.listed; count_is = are.count_is }

  -- a side's number is that of its slot
  pub slot-number : (a : ℕ) (s : ℕ × ℕ) → IsPartSlot points polygons p a s → number_at n.slots a ≡ edge_number quads s
  slot-number a s slot = (slot-known points polygons (over-of t is) is.simple p are.part n a s has-slots slot).1 ∙ ap (λ edges. number_in edges s) ends-all

  -- the slot of a side of a child face has an edge
  pub slot-among : (a : ℕ) (s : ℕ × ℕ) (k : ℕ) → IsPartSlot points polygons p a s → has_side s (polygon_at quads k) ≡ true → is_among n.slots a ≡ true
  slot-among a s k slot has = (slot-known points polygons (over-of t is) is.simple p are.part n a s has-slots slot).0 ∙ ap (list_any (same_edge s)) ends-all ∙ side-named quads k s has

  -- the slots of a child face's sides
  module _ (i : ℕ) (h : i < length p.places) where
    abbrev place : ℕ × ℕ
    place = get_or p.places i (0, 0)

    abbrev quad : Polygon
    quad = map p.number (whole_quad t.level.point_count t.level.polygons (get_or p.places i (0, 0)))

    quad-here : polygon_at quads i ≡ quad
    quad-here = quad-at-place points polygons (over-of t is) is.simple p are.part i h

    -- each slot of a side of the child face has an edge
    pub slots-there : All (λ a. is_among n.slots a ≡ true) (slots_at polygons place.0 place.1)
    slots-there =
        let all = part-slots t is p are.part i h in
        let side : (s : ℕ × ℕ) → has_side s quad ≡ true → has_side s (polygon_at quads i) ≡ true = λ s has. ap (has_side s) quad-here ∙ has in
        let sides = quad-side (get_or quad 0 0) (get_or quad 1 0) (get_or quad 2 0) (get_or quad 3 0) in
        all-four (λ a. is_among n.slots a ≡ true) _ _ _ _
        (slot-among _ _ i (all 0 (0, (0, 0)) (omega arith)) (side _ sides.0))
        (slot-among _ _ i (all 1 (0, (0, 0)) (omega arith)) (side _ sides.1))
        (slot-among _ _ i (all 2 (0, (0, 0)) (omega arith)) (side _ sides.2))
        (slot-among _ _ i (all 3 (0, (0, 0)) (omega arith)) (side _ sides.3))

    -- the numbers of a child face's edges are those at its slots
    pub numbers-quad : map (number_at n.slots) (slots_at polygons place.0 place.1) ≡ face_edges_of quads (polygon_at quads i)
    numbers-quad =
        let all = part-slots t is p are.part i h in
        list-same
        (slot-number _ _ (all 0 (0, (0, 0)) (omega arith)))
        (slot-number _ _ (all 1 (0, (0, 0)) (omega arith)))
        (slot-number _ _ (all 2 (0, (0, 0)) (omega arith)))
        (slot-number _ _ (all 3 (0, (0, 0)) (omega arith)))
        ∙ ap (face_edges_of quads) (sym quad-here)
      where
        list-same : {a a' b b' d d' e e' : ℕ} → a ≡ a' → b ≡ b' → d ≡ d' → e ≡ e' → a ∷ b ∷ d ∷ e ∷ [] ≡ a' ∷ b' ∷ d' ∷ e' ∷ []
        list-same p q r s = cc
