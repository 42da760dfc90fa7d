-- The facts of faces by which they are selected.
use Rattle.std.proofs.Common.{◌≡◌, ℕ, ◌+◌, ◌<◌, ◌≤◌, Bool, true, false, ◌&&◌, List, [], ◌∷◌, ◌++◌, length, map, get_or, arith, ap, sym, ◌∙◌}
use Rattle.std.specs.List.{range_with_len}
use Rattle.std.proofs.lemmas.Bool.{and_parts, leb-true}
use Rattle.std.proofs.lemmas.List.FromFn.{map-range_with_len_more}
use Rattle.part_laws.proofs.ListLemmas.{places-of-range}
use Rattle.mesh_laws.proofs.ClosedLemmas.{all-at}
use Rattle.subdiv_model.specs.Polygons.{polygon_at, is_distinct}
use Rattle.subdiv_model.specs.Manifold.{is_simple}
use Rattle.subdiv_model.specs.Feature as feature
use Rattle.level_topology.specs.Topology.{Topology, IsTopology}
use Rattle.feature_select.specs.Rule.{selects}
use Rattle.sparse_laws.specs.SparseLevels.{SparseLevel}
use Rattle.sparse_laws.specs.Selected.{facts_in, is_selected_in, selected_in}
use Rattle.sparse_level.specs.View.{SparseTopology, level_of}
use Rattle.sparse_level.specs.Places.{marked}

module _ (s : SparseTopology) (t : Topology) (same : t ≡ s.topology) (f depth number : ℕ) (d : depth ≡ s.depth) (n : number ≡ get_or s.numbers f 0) (facts : feature.FaceFacts)
    (is : facts ≡ record (feature.facts_of t.level depth f) { number = number }) where
  -- the facts are those of a sparse level's face
  pub facts-are : facts ≡ facts_in (level_of s) f
  facts-are =
      is ∙ ap (λ (k : Topology). record (feature.facts_of k.level depth f) { number = number }) same
      ∙ ap (λ (k : ℕ). record (feature.facts_of s.topology.level k f) { number = number }) d
      ∙ ap (λ (k : ℕ). record (feature.facts_of s.topology.level s.depth f) { number = k }) n

  -- the rule decides whether an inner face is selected
  pub inner-selected : (test : feature.FaceFacts → Bool) (inner result : Bool) → inner ≡ get_or s.inner f false → inner ≡ true → result ≡ selects test facts → result ≡ is_selected_in test (level_of s) f
  inner-selected test inner result e inside h = h ∙ ap (selects test) facts-are ∙ ap (λ b. b && selects test (facts_in (level_of s) f)) (sym inside ∙ e)

  -- a face has three corners or more
  pub face-long : IsTopology t → f < length t.level.polygons → 3 ≤ facts.size
  face-long whole below =
      let simple = all-at is_simple t.level.polygons f [] below whole.simple in
      let long : 3 ≤ length (polygon_at t.level.polygons f) = leb-true 3 _ (and_parts _ (is_distinct (polygon_at t.level.polygons f)) simple).0 in
      omega (arith, long, ap (λ (k : feature.FaceFacts). k.size) is)

-- an outer face is not
pub outer-selected : (s : SparseTopology) (f : ℕ) (test : feature.FaceFacts → Bool) (inner : Bool) → inner ≡ get_or s.inner f false → inner ≡ false → false ≡ is_selected_in test (level_of s) f
outer-selected s f test inner e outside = ap (λ b. b && selects test (facts_in (level_of s) f)) (sym outside ∙ e)

-- a face more
pub selected-more : (test : ℕ → Bool) (f : ℕ) (now new : List Bool) (result : Bool) → now ≡ map test (range_with_len 0 f) → new ≡ now ++ result ∷ [] → result ≡ test f → new ≡ map test (range_with_len 0 (f + 1))
selected-more test f now new result so put e = put ∙ ap (λ l. l ++ result ∷ []) so ∙ ap (λ b. map test (range_with_len 0 f) ++ b ∷ []) e ∙ sym (map-range_with_len_more test 0 f f (omega arith))

-- the marked faces are the selected ones
pub selected-marked : (test : feature.FaceFacts → Bool) (s : SparseLevel) → marked (map (is_selected_in test s) (range_with_len 0 (length s.level.polygons))) ≡ selected_in test s
selected-marked test s = places-of-range (is_selected_in test s) (λ mark. mark) 0 (length s.level.polygons)
