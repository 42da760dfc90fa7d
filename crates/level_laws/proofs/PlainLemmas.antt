-- Level 0 of a closed mesh without tags.
use Rattle.std.proofs.Common.{◌≡◌, ℕ, Bool, true, false, nat_eq, List, [], ◌∷◌, length, map, replicate, arith, refl, ap, ◌∙◌, IsTrue}
use Rattle.std.specs.List.{list_all, range_with_len, enumerate_from}
use Rattle.std.proofs.lemmas.Bool.Decides.{nat_tests}
use Rattle.std.proofs.lemmas.Bool.{and_parts}
use Rattle.std.proofs.lemmas.List.FromFn.{length-range_with_len}
use Rattle.subdiv_model.specs.Polygons.{Polygon}
use Rattle.subdiv_model.specs.Edges.{edges_of, faces_of_edge, is_boundary, is_closed}
use Rattle.subdiv_model.specs.Sharpness.{Smooth, Normal}
use Rattle.subdiv_model.specs.Boundary.{EdgeOnly}
use Rattle.subdiv_model.specs.ObjMesh.{ObjMesh}
use Rattle.subdiv_model.specs.Level.{plain_level}
use Rattle.subdiv_model.specs.Base.{base_edge_sharpness, base_vertex_sharpness, is_base_hole, base_level}
use Rattle.mesh_laws.proofs.ChildClosedLemmas.{numbered-length}
use Rattle.mesh_laws.proofs.FaultLemmas.{all-always}

-- a function that is constant on the items that pass
pub map-constant : {X Y : Type 0} (keep : X → Bool) (f : X → Y) (y : Y) → ((x : X) → keep x ≡ true → f x ≡ y) → (xs : List X)
    → list_all keep xs ≡ true → map f xs ≡ replicate (length xs) y
map-constant keep f y same [] h = refl
map-constant keep f y same (x ∷ xs) h =
    let parts = and_parts (keep x) (list_all keep xs) h in
    let here = same x parts.0 in
    let after = map-constant keep f y same xs parts.1 in
    rw (here, after) refl

-- an edge of two faces is no boundary edge
interior-edge : (polygons : List Polygon) (edge : ℕ × ℕ) → nat_eq (length (faces_of_edge polygons edge)) 2 ≡ true
    → is_boundary polygons edge ≡ false
interior-edge polygons edge h = grind (arith, nat_tests)

module _ (mesh : ObjMesh) where
  plain-holes : mesh.holes ≡ [] → mesh.boundary ≡ EdgeOnly
      → map (is_base_hole mesh) (enumerate_from 0 mesh.faces) ≡ replicate (length mesh.faces) false
  plain-holes none mode =
      let faces = enumerate_from 0 mesh.faces in
      map-constant (λ face. true) (is_base_hole mesh) false (λ face _. rw (none, mode) refl) faces (all-always (λ face. true) (λ face. refl) faces)
      ∙ ap (λ n. replicate n false) (numbered-length 0 mesh.faces)

  plain-edges : mesh.creases ≡ [] → is_closed mesh.faces ≡ true
      → map (base_edge_sharpness mesh) (edges_of mesh.faces) ≡ replicate (length (edges_of mesh.faces)) Smooth
  plain-edges none closed =
      map-constant (λ edge. nat_eq (length (faces_of_edge mesh.faces edge)) 2) (base_edge_sharpness mesh) Smooth
      (λ edge two. let interior = interior-edge mesh.faces edge two in rw (interior, none) refl)
      (edges_of mesh.faces) closed

  plain-vertices : mesh.corner_tags ≡ [] → mesh.boundary ≡ EdgeOnly
      → map (base_vertex_sharpness mesh) (range_with_len 0 (length mesh.points)) ≡ replicate (length mesh.points) Smooth
  plain-vertices none mode =
      let vertices = range_with_len 0 (length mesh.points) in
      map-constant (λ v. true) (base_vertex_sharpness mesh) Smooth (λ v _. rw (none, mode) refl) vertices (all-always (λ v. true) (λ v. refl) vertices)
      ∙ ap (λ n. replicate n Smooth) (length-range_with_len 0 (length mesh.points))

  pub plain-base : mesh.creases ≡ [] → mesh.corner_tags ≡ [] → mesh.holes ≡ [] → mesh.boundary ≡ EdgeOnly → mesh.method ≡ Normal
      → IsTrue (is_closed mesh.faces) → base_level mesh ≡ plain_level (length mesh.points) mesh.faces
  plain-base creases corners holes boundary method closed =
      let marks = plain-holes holes boundary in
      let edges = plain-edges creases closed in
      let vertices = plain-vertices corners boundary in
      cc
