-- Level 0 of a mesh is well formed.
use Rattle.std.proofs.Common.{◌≡◌, ℕ, Bool, true, false, nat_eq, List, [], ◌∷◌, length, map, refl, ◌∙◌, IsTrue}
use Rattle.std.specs.List.{filter, list_all, range_with_len, enumerate_from}
use Rattle.std.proofs.lemmas.Bool.{and_parts, cond_both, eq-eqb}
use Rattle.std.proofs.lemmas.List.{length-map}
use Rattle.std.proofs.lemmas.List.FromFn.{length-map-range_with_len}
use Rattle.subdiv_model.specs.Lists.{last_of}
use Rattle.subdiv_model.specs.Polygons.{same_edge}
use Rattle.subdiv_model.specs.Edges.{edges_of, is_boundary}
use Rattle.subdiv_model.specs.Sharpness.{Sharpness, Smooth, Infinite, is_proper_sharpness}
use Rattle.subdiv_model.specs.ObjMesh.{ObjMesh, has_faces_over_points}
use Rattle.subdiv_model.specs.Level.{is_well_formed}
use Rattle.subdiv_model.specs.Base.{tagged_edge, tagged_vertex, base_edge_sharpness, base_vertex_sharpness, is_base_hole, is_end_corner, base_level}
use Rattle.sharpness_laws.proofs.ProperLemmas.{all-mapped}
use Rattle.mesh_laws.proofs.ChildClosedLemmas.{numbered-length}
use Rattle.level_laws.proofs.WellFormedLemmas.{all-six}

-- the last of what each passes, passes
last-passes : {X Y : Type 0} (p : Y → Bool) (value : X → Y) (keep : X → Bool) (y : Y) → p y ≡ true → (xs : List X)
    → list_all (λ x. p (value x)) xs ≡ true → p (last_of y (map value (filter keep xs))) ≡ true
last-passes p value keep y given [] h = given
last-passes p value keep y given (x ∷ xs) h =
    let parts = and_parts (p (value x)) (list_all (λ z. p (value z)) xs) h in
    here (keep x) refl (last-passes p value keep (value x) parts.0 xs parts.1) (last-passes p value keep y given xs parts.1)
  where
    here : (b : Bool) → keep x ≡ b → p (last_of (value x) (map value (filter keep xs))) ≡ true
        → p (last_of y (map value (filter keep xs))) ≡ true → p (last_of y (map value (filter keep (x ∷ xs)))) ≡ true
    here true e named other = rw e named
    here false e named other = rw e other

module _ (mesh : ObjMesh) where
  proper-edge_tag : list_all (λ crease. is_proper_sharpness crease.1) mesh.creases ≡ true → (edge : ℕ × ℕ)
      → is_proper_sharpness (base_edge_sharpness mesh edge) ≡ true
  proper-edge_tag all edge =
      cond_both (is_boundary mesh.faces edge) Infinite (tagged_edge mesh.creases edge) (λ s. is_proper_sharpness s ≡ true) (λ _. refl)
      (λ _. last-passes is_proper_sharpness (λ (crease : (ℕ × ℕ) × Sharpness). crease.1) (λ (crease : (ℕ × ℕ) × Sharpness). same_edge edge crease.0) Smooth refl mesh.creases all)

  proper-vertex_tag : list_all (λ tag. is_proper_sharpness tag.1) mesh.corner_tags ≡ true → (v : ℕ)
      → is_proper_sharpness (base_vertex_sharpness mesh v) ≡ true
  proper-vertex_tag all v =
      cond_both (is_end_corner mesh.boundary mesh.faces v) Infinite (tagged_vertex mesh.corner_tags v) (λ s. is_proper_sharpness s ≡ true) (λ _. refl)
      (λ _. last-passes is_proper_sharpness (λ (tag : ℕ × Sharpness). tag.1) (λ (tag : ℕ × Sharpness). nat_eq v tag.0) Smooth refl mesh.corner_tags all)

  pub base-well-formed : IsTrue (has_faces_over_points mesh) → IsTrue (list_all (λ crease. is_proper_sharpness crease.1) mesh.creases)
      → IsTrue (list_all (λ tag. is_proper_sharpness tag.1) mesh.corner_tags) → IsTrue (is_well_formed (base_level mesh))
  base-well-formed over creases corners =
      let edges = edges_of mesh.faces in
      let vertices = range_with_len 0 (length mesh.points) in
      all-six _ _ _ _ _ _ over
      (eq-eqb _ _ (length-map (enumerate_from 0 mesh.faces) (is_base_hole mesh) ∙ numbered-length 0 mesh.faces))
      (eq-eqb _ _ (length-map edges (base_edge_sharpness mesh)))
      (eq-eqb _ _ (length-map-range_with_len (base_vertex_sharpness mesh) 0 (length mesh.points)))
      (all-mapped is_proper_sharpness (base_edge_sharpness mesh) (proper-edge_tag creases) edges)
      (all-mapped is_proper_sharpness (base_vertex_sharpness mesh) (proper-vertex_tag corners) vertices)
