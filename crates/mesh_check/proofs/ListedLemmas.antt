-- The list of faults: those of faces and edges, or if there are none, the vertices that are not one fan.
use Rattle.std.proofs.Common.{◌≡◌, ◌↔◌, ℕ, ◌<◌, true, List, [], ◌∷◌, ◌++◌, length, map, arith, refl, ap, sym, ◌∙◌, None, append_assoc}
use Rattle.std.specs.List.{list_all}
use Rattle.std.proofs.lemmas.List.{length-map}
use Rattle.subdiv_model.specs.Polygons.{Polygon, has_distinct_sides}
use Rattle.subdiv_model.specs.Lists.{first_of}
use Rattle.subdiv_model.specs.Edges.{all_sides}
use Rattle.subdiv_model.specs.Manifold.{is_simple}
use Rattle.subdiv_model.specs.MeshFault.{MeshFault, SplitVertex, split_vertices, first_mesh_fault}
use Rattle.mesh_check.specs.declared.fault.MeshFault as found
use Rattle.mesh_check.specs.View.{mesh_fault_of}
use Rattle.mesh_check.specs.Faults.{corner_faults, edge_faults}
use Rattle.mesh_check.specs.Listed.{or_else, listed_faults}
use Rattle.mesh_check.proofs.FaultLemmas.{mesh-joined, simple-once}

nothing-before : {X : Type 0} (xs ys : List X) → [] ≡ xs ++ ys → (first_of xs ≡ None) × (first_of ys ≡ None)
nothing-before [] [] h = (refl, refl)
nothing-before [] (y ∷ ys) h = absurd (cc)
nothing-before (x ∷ xs) ys h = absurd (cc)

empty : {X : Type 0} (xs : List X) → length xs ≡ 0 → xs ≡ []
empty [] none = refl
empty (x ∷ xs) none = absurd (omega (arith, none))

stay : {X : Type 0} (xs ys : List X) → 0 < length xs → xs ≡ or_else xs ys
stay [] ys some = absurd (omega arith)
stay (x ∷ xs) ys some = refl

module _ (polygons : List Polygon) (faults : List found.MeshFault) (is : map mesh_fault_of faults ≡ corner_faults polygons ++ edge_faults polygons) where
  -- if faces and edges have no fault, the faces are simple, and no side occurs twice
  pub simple-listed : length faults ≡ 0 → (list_all is_simple polygons ≡ true) × (has_distinct_sides (all_sides polygons) ≡ true)
  simple-listed none =
      let nothing = nothing-before (corner_faults polygons) (edge_faults polygons) (sym (ap (map mesh_fault_of) (empty faults none)) ∙ is) in
      simple-once polygons nothing.0 nothing.1

  -- if faces or edges have faults, these are the list
  pub some-listed : (points : ℕ) → 0 < length faults → map mesh_fault_of faults ≡ listed_faults points polygons
  some-listed points some = stay (map mesh_fault_of faults) (map SplitVertex (split_vertices points polygons)) (omega (arith, length-map faults mesh_fault_of, some)) ∙ ap (λ found. or_else found (map SplitVertex (split_vertices points polygons))) is

  -- if faces and edges have no fault, the vertices that are not one fan are the list
  pub none-listed : (points : ℕ) (new : List MeshFault) → length faults ≡ 0 → new ≡ map mesh_fault_of faults ++ map SplitVertex (split_vertices points polygons) → new ≡ listed_faults points polygons
  none-listed points new none made =
      let nothing : map mesh_fault_of faults ≡ [] = ap (map mesh_fault_of) (empty faults none) in
      made ∙ ap (λ found. found ++ map SplitVertex (split_vertices points polygons)) nothing
      ∙ ap (λ found. or_else found (map SplitVertex (split_vertices points polygons))) (sym nothing ∙ is)

first-else : {X : Type 0} (xs ys : List X) → first_of (or_else xs ys) ≡ first_of (xs ++ ys)
first-else [] ys = refl
first-else (x ∷ xs) ys = refl

-- the first listed fault is the first of all
pub first-listed : (points : ℕ) (polygons : List Polygon) → first_of (listed_faults points polygons) ≡ first_mesh_fault points polygons
first-listed points polygons =
    let split = map SplitVertex (split_vertices points polygons) in
    first-else (corner_faults polygons ++ edge_faults polygons) split
    ∙ ap first_of (append_assoc (corner_faults polygons) (edge_faults polygons) split)
    ∙ sym (ap first_of (mesh-joined points polygons))

nothing-first : {X : Type 0} (xs : List X) → first_of xs ≡ None → xs ≡ []
nothing-first [] h = refl
nothing-first (x ∷ xs) h = absurd (cc)

-- the list is empty exactly where there is no first fault
pub none-first : (points : ℕ) (polygons : List Polygon) → (listed_faults points polygons ≡ []) ↔ (first_mesh_fault points polygons ≡ None)
none-first points polygons = (
  λ none. sym (first-listed points polygons) ∙ ap first_of none,
  λ sound. nothing-first (listed_faults points polygons) (first-listed points polygons ∙ sound),
)
