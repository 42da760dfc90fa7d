-- The faults of a mesh by their place. A mesh without the first two kinds is fit for the test of fans.
use Rattle.std.proofs.Common.{◌≡◌, ℕ, true, ◌&&◌, List, [], ◌∷◌, ◌++◌, map, refl, ap, sym, ◌∙◌, Option, Some, None, append_assoc}
use Rattle.std.specs.List.{list_all, range_with_len}
use Rattle.std.proofs.lemmas.Bool.{and_parts}
use Rattle.subdiv_model.specs.Polygons.{Polygon, has_distinct_sides}
use Rattle.subdiv_model.specs.Lists.{first_of}
use Rattle.subdiv_model.specs.Edges.{all_sides}
use Rattle.subdiv_model.specs.Manifold.{is_simple, has_one_fan, is_manifold}
use Rattle.subdiv_model.specs.MeshFault.{MeshFault, FaceTooSmall, RepeatedVertex, NonManifoldEdge, WindingClash, SplitVertex, small_faces, repeating_faces, crowded_edges, clashing_edges, split_vertices, mesh_faults, first_mesh_fault}
use Rattle.mesh_laws.proofs.FaultLemmas.{fault-decides}
use Rattle.mesh_check.specs.Faults.{corner_faults, edge_faults, vertex_named}

-- all faults are those of corners, those of edges and those of vertices
pub mesh-joined : (points : ℕ) (polygons : List Polygon) → mesh_faults points polygons ≡ corner_faults polygons ++ (edge_faults polygons ++ map SplitVertex (split_vertices points polygons))
mesh-joined points polygons =
    let small = map FaceTooSmall (small_faces polygons) in
    let repeated = map RepeatedVertex (repeating_faces polygons) in
    let crowded = map (λ (edge : ℕ × ℕ). NonManifoldEdge edge.0 edge.1) (crowded_edges polygons) in
    let clashing = map (λ (edge : ℕ × ℕ). WindingClash edge.0 edge.1) (clashing_edges polygons) in
    let split = map SplitVertex (split_vertices points polygons) in
    sym (append_assoc small repeated ((crowded ++ clashing) ++ split) ∙ ap (λ faults. small ++ (repeated ++ faults)) (append_assoc crowded clashing split))

-- the first of two lists together
pub first-here : {X : Type 0} (xs ys : List X) (x : X) → first_of xs ≡ Some x → first_of (xs ++ ys) ≡ Some x
first-here [] ys x h = absurd (cc)
first-here (y ∷ xs) ys x h = h

pub first-behind : {X : Type 0} (xs ys : List X) → first_of xs ≡ None → first_of (xs ++ ys) ≡ first_of ys
first-behind [] ys h = refl
first-behind (y ∷ xs) ys h = absurd (cc)

-- if no face has a fault of its corners, the first fault of the edges is the first of all
pub edge-before : (points : ℕ) (polygons : List Polygon) (fault : MeshFault) → first_of (corner_faults polygons) ≡ None → first_of (edge_faults polygons) ≡ Some fault → Some fault ≡ first_mesh_fault points polygons
edge-before points polygons fault corners edges =
    sym (ap first_of (mesh-joined points polygons)
    ∙ first-behind (corner_faults polygons) (edge_faults polygons ++ map SplitVertex (split_vertices points polygons)) corners
    ∙ first-here (edge_faults polygons) (map SplitVertex (split_vertices points polygons)) fault edges)

-- if corners and edges have no fault, the first vertex with more than one fan is the first fault of all
pub vertex-last : (points : ℕ) (polygons : List Polygon) (found : Option ℕ) → first_of (corner_faults polygons) ≡ None → first_of (edge_faults polygons) ≡ None → found ≡ first_of (split_vertices points polygons) → vertex_named found ≡ first_mesh_fault points polygons
vertex-last points polygons found corners edges is =
    ap vertex_named is ∙ first-split (split_vertices points polygons)
    ∙ sym (ap first_of (mesh-joined points polygons)
    ∙ first-behind (corner_faults polygons) (edge_faults polygons ++ map SplitVertex (split_vertices points polygons)) corners
    ∙ first-behind (edge_faults polygons) (map SplitVertex (split_vertices points polygons)) edges)
  where
    first-split : (vs : List ℕ) → vertex_named (first_of vs) ≡ first_of (map SplitVertex vs)
    first-split [] = refl
    first-split (v ∷ vs) = refl

-- faces without faults of corners and of edges are simple, and no side occurs twice
pub simple-once : (polygons : List Polygon) → first_of (corner_faults polygons) ≡ None → first_of (edge_faults polygons) ≡ None → (list_all is_simple polygons ≡ true) × (has_distinct_sides (all_sides polygons) ≡ true)
simple-once polygons corners edges =
    let none : first_mesh_fault 0 polygons ≡ None =
    ap first_of (mesh-joined 0 polygons)
    ∙ first-behind (corner_faults polygons) (edge_faults polygons ++ map SplitVertex (split_vertices 0 polygons)) corners
    ∙ first-behind (edge_faults polygons) (map SplitVertex (split_vertices 0 polygons)) edges in
    let whole : is_manifold 0 polygons ≡ true = (fault-decides 0 polygons).0 none in
    let outer = and_parts (list_all is_simple polygons && has_distinct_sides (all_sides polygons)) (list_all (has_one_fan polygons) (range_with_len 0 0)) whole in
    and_parts (list_all is_simple polygons) (has_distinct_sides (all_sides polygons)) outer.0
