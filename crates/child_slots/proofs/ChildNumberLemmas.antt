-- The numbers of child faces, where they are read and counted.
use Rattle.std.proofs.Common.{◌≡◌, ℕ, ◌+◌, ◌<◌, ◌≤◌, ◌^◌, List, [], length, map, take, get_or, arith, ap, ◌∙◌}
use Rattle.std.proofs.lemmas.List.{get_or-map, length-map, take_all}
use Rattle.std.proofs.lemmas.List.Sums.{sum_by_more}
use Rattle.subdiv_model.specs.Polygons.{Polygon, polygon_at}
use Rattle.level_topology.specs.Topology.{Topology, IsTopology, corner_of}
use Rattle.level_topology.proofs.LawLemmas.{faces-each}
use Rattle.child_slots.specs.Slots.{first_child}
use Rattle.child_slots.proofs.SlotLemmas.{first-below}

-- the child faces of a face more
pub first-more : (polygons : List Polygon) (f : ℕ) → f < length polygons → first_child polygons (f + 1) ≡ first_child polygons f + length (polygon_at polygons f)
first-more polygons f h = sum_by_more length polygons f [] h

-- a child face has a small number
pub child-few : (t : Topology) → IsTopology t → (f c : ℕ) → c < length (polygon_at t.level.polygons f) → first_child t.level.polygons f + c < 2 ^ 28
child-few t is f c h = omega (arith, first-below t.level.polygons f c h, is.small.corners)

-- the corner at a place of a point's list, and its child face
pub child-at : (t : Topology) → IsTopology t → (v i : ℕ) (faces corners : List ℕ) → v < t.level.point_count → faces ≡ get_or t.faces_at v [] → corners ≡ map (corner_of t.level.polygons v) (get_or t.faces_at v []) → i < length faces
    → (i < length corners) × (get_or corners i 0 ≡ corner_of t.level.polygons v (get_or (get_or t.faces_at v []) i 0)) × (first_child t.level.polygons (get_or (get_or t.faces_at v []) i 0) + get_or corners i 0 < 2 ^ 28)
child-at t is v i faces corners low e k h =
    let inside : i < length (get_or t.faces_at v []) = omega (arith, h, ap length e) in
    let corner : get_or corners i 0 ≡ corner_of t.level.polygons v (get_or (get_or t.faces_at v []) i 0) = ap (λ xs. get_or xs i 0) k ∙ get_or-map (corner_of t.level.polygons v) (get_or t.faces_at v []) i 0 0 inside in
    let at = faces-each t v i is low inside in (
      omega (arith, inside, ap length k, length-map (get_or t.faces_at v []) (corner_of t.level.polygons v)),
      corner,
      omega (arith, corner, child-few t is (get_or (get_or t.faces_at v []) i 0) (corner_of t.level.polygons v (get_or (get_or t.faces_at v []) i 0)) at.within),
    )

-- the values that a function gives for all
pub mapped-all : (g : ℕ → ℕ) (xs ys : List ℕ) (i : ℕ) → length xs ≤ i → ys ≡ map g (take i xs) → ys ≡ map g xs
mapped-all g xs ys i h e = e ∙ ap (map g) (take_all i xs h)
