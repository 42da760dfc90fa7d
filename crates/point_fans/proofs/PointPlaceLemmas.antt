-- The corners of faces and the ends of edges are points, and there are few enough.
use Rattle.std.proofs.Common.{◌≡◌, ℕ, ◌*◌, ◌<◌, true, ◌&&◌, nat_eq, nat_lt, List, [], ◌∷◌, length, map, arith, refl, ap, ◌∙◌, ◌+◌, ◌≤◌, Bool, false, ◌++◌, length-append, get_or, sym, append_assoc, if◌then◌else◌}
use Rattle.std.specs.List.{All, list_all, sum_by, count_by, position_or_len}
use Rattle.std.proofs.lemmas.Bool.Decides.{nat_tests}
use Rattle.std.proofs.lemmas.Bool.{and_parts, and_from}
use Rattle.std.proofs.lemmas.List.Sums.{AllPass-from_list_all}
use Rattle.subdiv_model.specs.Polygons.{Polygon, is_over, polygon_at}
use Rattle.subdiv_model.specs.Edges.{all_sides, edges_of, has_end}
use Rattle.number_laws.proofs.CountLemmas.{all-flat_map}
use Rattle.mesh_laws.proofs.ClosedLemmas.{first_named-all}
use Rattle.mesh_laws.proofs.ChildCountLemmas.{sides-inside}
use Rattle.level_topology.specs.ListPlaces.{joined, pair_list, lists_with}
use Rattle.level_topology.proofs.ListPlaceLemmas.{joined-length, pairs-total}
use Rattle.std.specs.List.Sorted.{IsPermutation}
use Rattle.std.proofs.lemmas.List.{length-map, get_or-map}
use Rattle.std.proofs.Math.Seq.{get_or-append_seam}
use Rattle.std.proofs.lemmas.List.Sorted.{length_permutation}
use Rattle.subdiv_model.specs.Lists.{places, places_from}
use Rattle.number_laws.proofs.ListLemmas.{places-from-length}
use Rattle.point_fans.specs.Chains.{ArePlaces, places_in}
use Rattle.level_topology.specs.Numbering.{Numbered, IsNumbering}
use Rattle.level_topology.proofs.ChildLemmas.{edges-corners}
use Rattle.level_topology.proofs.NumberingLemmas.{numbered-ends}
use Rattle.level_topology.proofs.LawLemmas.{numbers-at}
use Rattle.level_topology.specs.Topology.{end_of, edge_numbers_at}
use Rattle.level_topology.proofs.PointRowLemmas.{below-more, count-le}
use Rattle.level_topology.proofs.TurnLemmas.{edges-listed}

-- A number that passes the test is below the bound.
below-all : (xs : List ℕ) (points n : ℕ) → n ≡ points → list_all (λ v. nat_lt v points) xs ≡ true → All (λ v. v < n) xs
below-all xs points n e h k d inside = let passes = AllPass-from_list_all (λ v. nat_lt v points) xs h k d inside in grind (arith, nat_tests)

pub corners-inside : (polygons : List Polygon) (items : List ℕ) (points n : ℕ) → n ≡ points → is_over points polygons ≡ true → items ≡ joined polygons → All (λ v. v < n) items
corners-inside polygons items points n e over is =
    below-all items points n e (ap (list_all (λ v. nat_lt v points)) is ∙ all-flat_map (λ v. nat_lt v points) (λ list. list) polygons ∙ over)

pub corners-few : (polygons : List Polygon) (items : List ℕ) → items ≡ joined polygons → length items ≡ sum_by length polygons
corners-few polygons items is = ap length is ∙ joined-length polygons

-- There are at most as many edges as corners.
pub edges-few : (polygons : List Polygon) (n : Numbered) → IsNumbering polygons [] n → length n.ends ≤ sum_by length polygons
edges-few polygons n is = omega (arith, ap length (numbered-ends polygons n is), edges-corners polygons)

pub ends-inside : (polygons : List Polygon) (ends : List (ℕ × ℕ)) (items : List ℕ) (points n : ℕ) → n ≡ points → is_over points polygons ≡ true → ends ≡ edges_of polygons → items ≡ joined (map pair_list ends) → All (λ v. v < n) items
ends-inside polygons ends items points n e over f is =
    let sides = ap (list_all (λ s. nat_lt s.0 points && nat_lt s.1 points)) f ∙ first_named-all (λ s. nat_lt s.0 points && nat_lt s.1 points) (all_sides polygons) (sides-inside points polygons over) in
    below-all items points n e (ap (list_all (λ v. nat_lt v points)) is ∙ pairs ends sides)
  where
    pairs : (some : List (ℕ × ℕ)) → list_all (λ s. nat_lt s.0 points && nat_lt s.1 points) some ≡ true → list_all (λ v. nat_lt v points) (joined (map pair_list some)) ≡ true
    pairs [] h = refl
    pairs (s ∷ some) h =
        let parts = and_parts (nat_lt s.0 points && nat_lt s.1 points) (list_all (λ t. nat_lt t.0 points && nat_lt t.1 points) some) h in
        let both = and_parts (nat_lt s.0 points) (nat_lt s.1 points) parts.0 in
        and_from _ _ both.0 (and_from _ _ both.1 (pairs some parts.1))

pub ends-few : (ends : List (ℕ × ℕ)) (items : List ℕ) → items ≡ joined (map pair_list ends) → length items ≡ 2 * length ends
ends-few ends items is = ap length is ∙ joined-length (map pair_list ends) ∙ pairs-total ends

-- the lists at a point take the room of its places
pub push-fits : (lists : List Polygon) (items owners within : List ℕ) (v sum : ℕ) (row : List ℕ) → ArePlaces lists items owners within → sum ≡ count_by (λ x. nat_lt x v) items → IsPermutation (lists_with lists v) row → (sum + length row ≡ count_by (λ x. nat_lt x (v + 1)) items) × (sum + length row ≤ sum_by length lists)
push-fits lists items owners within v sum row is e moved =
    let own : length row ≡ count_by (nat_eq v) items = length_permutation _ _ moved ∙ ap length (sym (is.owners_are v)) ∙ length-map (places (nat_eq v) items) (λ p. get_or owners p 0) ∙ places-from-length (nat_eq v) 0 items in
    let total : length items ≡ sum_by length lists = ap length is.items_are ∙ joined-length lists in
    (omega (arith, own, e, below-more items v), omega (arith, own, e, below-more items v, total, count-le (λ x. nat_lt x (v + 1)) items))

ends-at : (polygons : List Polygon) (v : ℕ) (place : ℕ) (edges before : List (ℕ × ℕ)) → edges_of polygons ≡ before ++ edges → length before ≡ place → map (λ e. position_or_len (nat_eq v) (polygon_at (map pair_list (edges_of polygons)) e)) (places_from place (has_end v) edges) ≡ map (end_of polygons v) (places_from place (has_end v) edges)
ends-at polygons v place [] before all count = refl
ends-at polygons v place (s ∷ edges) before all count =
    here (has_end v s) refl (ends-at polygons v (place + 1) edges (before ++ s ∷ []) (all ∙ sym (append_assoc before (s ∷ []) edges)) (omega (arith, length-append before (s ∷ []), count)))
  where
    at : get_or (edges_of polygons) place (0, 0) ≡ s
    at = ap (λ es. get_or es place (0, 0)) all ∙ ap (λ k. get_or (before ++ s ∷ edges) k (0, 0)) (sym count) ∙ get_or-append_seam before s edges (0, 0)

    inside : place < length (edges_of polygons)
    inside = omega (arith, ap length all, length-append before (s ∷ edges), count)

    listed : polygon_at (map pair_list (edges_of polygons)) place ≡ pair_list s
    listed = get_or-map pair_list (edges_of polygons) place (0, 0) [] inside ∙ ap pair_list at

    same : has_end v s ≡ true → position_or_len (nat_eq v) (polygon_at (map pair_list (edges_of polygons)) place) ≡ end_of polygons v place
    same ends = ap (position_or_len (nat_eq v)) listed ∙ two (nat_eq v s.0) refl ends ∙ sym (ap (λ t. if nat_eq v t.0 then 0 else 1) at)
      where
        two : (b : Bool) → nat_eq v s.0 ≡ b → has_end v s ≡ true → position_or_len (nat_eq v) (pair_list s) ≡ (if nat_eq v s.0 then 0 else 1)
        two true e h = rw e refl
        two false e h =
            let second : nat_eq v s.1 ≡ true = grind (arith, nat_tests) in
            rw (e, second) refl

    here : (b : Bool) → has_end v s ≡ b → map (λ e. position_or_len (nat_eq v) (polygon_at (map pair_list (edges_of polygons)) e)) (places_from (place + 1) (has_end v) edges) ≡ map (end_of polygons v) (places_from (place + 1) (has_end v) edges) → map (λ e. position_or_len (nat_eq v) (polygon_at (map pair_list (edges_of polygons)) e)) (places_from place (has_end v) (s ∷ edges)) ≡ map (end_of polygons v) (places_from place (has_end v) (s ∷ edges))
    here true e behind = rw e (ap (λ y. y ∷ map (λ k. position_or_len (nat_eq v) (polygon_at (map pair_list (edges_of polygons)) k)) (places_from (place + 1) (has_end v) edges)) (same e) ∙ ap (λ ys. end_of polygons v place ∷ ys) behind)
    here false e behind = rw e behind

pub ends-listed : (polygons : List Polygon) (v : ℕ) → places_in (map pair_list (edges_of polygons)) v ≡ map (end_of polygons v) (edge_numbers_at polygons v)
ends-listed polygons v =
    ap (map (λ e. position_or_len (nat_eq v) (polygon_at (map pair_list (edges_of polygons)) e))) (edges-listed polygons v ∙ numbers-at polygons v)
    ∙ ends-at polygons v 0 (edges_of polygons) [] refl refl ∙ ap (map (end_of polygons v)) (sym (numbers-at polygons v))
