-- The edges that numbers name, and the sides whose edge no other side is.
use Rattle.std.proofs.Common.{◌≡◌, ℕ, true, ◌&&◌, nat_eq, nat_lt, List, map, ap, sym, ◌∙◌, None}
use Rattle.std.specs.List.{filter, list_any, list_all, count_by, range_with_len}
use Rattle.std.specs.List.Sorted.{IsPermutation, IsSorted}
use Rattle.std.specs.Ordering.{nat_cmp}
use Rattle.std.proofs.lemmas.Bool.{and_parts}
use Rattle.std.proofs.lemmas.List.Elements.{filter_agree}
use Rattle.subdiv_model.specs.Polygons.{Polygon, same_edge, is_among, has_distinct_sides}
use Rattle.subdiv_model.specs.Edges.{all_sides, is_boundary}
use Rattle.subdiv_model.specs.Manifold.{is_simple, has_one_fan}
use Rattle.subdiv_model.specs.MeshFault.{first_mesh_fault}
use Rattle.number_laws.proofs.CountLemmas.{any-count}
use Rattle.mesh_laws.proofs.EdgeLemmas.{faces-count}
use Rattle.mesh_laws.proofs.FaultLemmas.{fault-decides}
use Rattle.level_builder.specs.Keys.{IsWord, AreWords, AreEdgeKeys, edge_key}
use Rattle.level_builder.proofs.KeyLemmas.{edge-key-same, count-keys, filter-agree, count-moved}
use Rattle.level_builder.proofs.SearchLemmas.{sorted-rises}

-- after a sort the numbers of edges ascend, and each occurs as often as before
pub keys-sorted : (sides : List (ℕ × ℕ)) (keys sorted : List ℕ) → AreWords sides → keys ≡ map edge_key sides → IsPermutation keys sorted → IsSorted nat_cmp sorted → AreEdgeKeys sides sorted
keys-sorted sides keys sorted words is moved ascend = record {
  words = words;
  rises = sorted-rises sorted ascend;
  often = λ n. count-moved (nat_eq n) keys sorted moved ∙ ap (count_by (nat_eq n)) is;
}

-- the number of an edge occurs as often as the edge has sides
edge-often : (sides : List (ℕ × ℕ)) (keys : List ℕ) → AreEdgeKeys sides keys → (s : ℕ × ℕ) → IsWord s → count_by (nat_eq (edge_key s)) keys ≡ count_by (same_edge s) sides
edge-often sides keys are s word = are.often (edge_key s) ∙ count-keys edge_key same_edge edge-key-same s word sides are.words

-- the numbers of all edges name the edges that a side is
pub edges-known : (sides : List (ℕ × ℕ)) (keys : List ℕ) → AreEdgeKeys sides keys → (s : ℕ × ℕ) → IsWord s → is_among keys (edge_key s) ≡ list_any (same_edge s) sides
edges-known sides keys are s word =
    any-count (nat_eq (edge_key s)) keys ∙ ap (nat_lt 0) (edge-often sides keys are s word) ∙ sym (any-count (same_edge s) sides)

-- the sides whose number occurs once are those whose edge has one side
pub boundary-found : (sides : List (ℕ × ℕ)) (keys found : List ℕ) → AreEdgeKeys sides keys → ((n : ℕ) → is_among found n ≡ nat_eq (count_by (nat_eq n) keys) 1) → filter (λ s. is_among found (edge_key s)) sides ≡ filter (λ s. nat_eq (count_by (same_edge s) sides) 1) sides
boundary-found sides keys found are once =
    filter-agree (λ s. is_among found (edge_key s)) (λ s. nat_eq (count_by (same_edge s) sides) 1)
    (λ s word. once (edge_key s) ∙ ap (λ n. nat_eq n 1) (edge-often sides keys are s word)) sides are.words

-- faces without fault are simple
pub faultless-simple : (points : ℕ) (polygons : List Polygon) → first_mesh_fault points polygons ≡ None → list_all is_simple polygons ≡ true
faultless-simple points polygons sound =
    let outer = and_parts (list_all is_simple polygons && has_distinct_sides (all_sides polygons)) (list_all (has_one_fan polygons) (range_with_len 0 points)) ((fault-decides points polygons).0 sound) in
    (and_parts (list_all is_simple polygons) (has_distinct_sides (all_sides polygons)) outer.0).0

-- if all faces are simple, an edge has one face exactly where it has one side
pub boundary-of : (points : ℕ) (polygons : List Polygon) (sides : List (ℕ × ℕ)) → first_mesh_fault points polygons ≡ None → sides ≡ all_sides polygons → filter (λ s. nat_eq (count_by (same_edge s) sides) 1) sides ≡ filter (is_boundary polygons) (all_sides polygons)
boundary-of points polygons sides sound is =
    ap (λ (ss : List (ℕ × ℕ)). filter (λ s. nat_eq (count_by (same_edge s) ss) 1) ss) is
    ∙ filter_agree (λ s. nat_eq (count_by (same_edge s) (all_sides polygons)) 1) (is_boundary polygons)
    (λ s. ap (λ n. nat_eq n 1) (sym (faces-count s 0 polygons (faultless-simple points polygons sound)))) (all_sides polygons)
