-- Which tag gives an edge or a vertex its sharpness at level 0, and which faces are holes there.
use Rattle.std.proofs.Common.{◌≡◌, ℕ, ◌<◌, ◌≤◌, Bool, true, false, ◌||◌, nat_eq, List, [], ◌∷◌, ◌++◌, length, map, arith, refl, ap, ◌∙◌, IsTrue, ⊎_elim}
use Rattle.std.specs.List.{list_any, range_with_len, enumerate_from}
use Rattle.std.proofs.lemmas.Bool.{cases_lt, eq-eqb}
use Rattle.std.proofs.lemmas.List.{get_or-map, get_or_past}
use Rattle.std.proofs.lemmas.List.FromFn.{get_or-map-range_with_len, length-map-range_with_len}
use Rattle.subdiv_model.specs.Polygons.{same_edge, is_among, polygon_at}
use Rattle.subdiv_model.specs.Edges.{edges_of, is_boundary}
use Rattle.subdiv_model.specs.Sharpness.{Sharpness, Smooth, Infinite}
use Rattle.subdiv_model.specs.ObjMesh.{ObjMesh}
use Rattle.subdiv_model.specs.Level.{edge_sharpness_of, vertex_sharpness_of, is_hole}
use Rattle.subdiv_model.specs.Base.{tagged_edge, tagged_vertex, base_vertex_sharpness, is_end_corner, is_hidden, is_base_hole, base_level}
use Rattle.number_laws.proofs.ListLemmas.{last-none, last-kept}
use Rattle.mesh_laws.proofs.BoundaryLemmas.{boundary-listed}
use Rattle.mesh_laws.proofs.ChildClosedLemmas.{numbered-length}
use Rattle.level_laws.proofs.NumberedLemmas.{numbered-at}
use Rattle.level_laws.proofs.TagLemmas.{base-edge, boundary-edge}

module _ (mesh : ObjMesh) where
  pub boundary-always : (edge : ℕ × ℕ) → IsTrue (is_boundary mesh.faces edge) → edge_sharpness_of (base_level mesh) edge ≡ Infinite
  boundary-always edge boundary = boundary-edge mesh edge (boundary-listed mesh.faces edge boundary) boundary

  -- any other edge has what the creases give it
  pub interior-edge : (edge : ℕ × ℕ) → IsTrue (list_any (same_edge edge) (edges_of mesh.faces)) → is_boundary mesh.faces edge ≡ false
      → edge_sharpness_of (base_level mesh) edge ≡ tagged_edge mesh.creases edge
  interior-edge edge there interior = base-edge mesh edge ∙ rw (there, interior) refl

  pub last-crease : (edge : ℕ × ℕ) (before : List ((ℕ × ℕ) × Sharpness)) (crease : (ℕ × ℕ) × Sharpness) (after : List ((ℕ × ℕ) × Sharpness))
      → mesh.creases ≡ before ++ (crease ∷ after) → IsTrue (same_edge edge crease.0)
      → list_any (λ other. same_edge edge other.0) after ≡ false → IsTrue (list_any (same_edge edge) (edges_of mesh.faces))
      → is_boundary mesh.faces edge ≡ false → edge_sharpness_of (base_level mesh) edge ≡ crease.1
  last-crease edge before crease after split names none there interior =
      interior-edge edge there interior
      ∙ ap (λ creases. tagged_edge creases edge) split
      ∙ last-kept (λ (c : (ℕ × ℕ) × Sharpness). c.1) (λ (c : (ℕ × ℕ) × Sharpness). same_edge edge c.0) Smooth before crease after names none

  pub untagged-edge : (edge : ℕ × ℕ) → list_any (λ crease. same_edge edge crease.0) mesh.creases ≡ false
      → is_boundary mesh.faces edge ≡ false → edge_sharpness_of (base_level mesh) edge ≡ Smooth
  untagged-edge edge none interior = go (list_any (same_edge edge) (edges_of mesh.faces)) refl
    where
      tagged : tagged_edge mesh.creases edge ≡ Smooth
      tagged = last-none (λ (c : (ℕ × ℕ) × Sharpness). c.1) (λ (c : (ℕ × ℕ) × Sharpness). same_edge edge c.0) Smooth mesh.creases none

      go : (b : Bool) → list_any (same_edge edge) (edges_of mesh.faces) ≡ b → edge_sharpness_of (base_level mesh) edge ≡ Smooth
      go true there = interior-edge edge there interior ∙ tagged
      go false absent = base-edge mesh edge ∙ rw absent refl

  pub base-vertex : (v : ℕ) → v < length mesh.points → vertex_sharpness_of (base_level mesh) v ≡ base_vertex_sharpness mesh v
  base-vertex v inside = get_or-map-range_with_len (base_vertex_sharpness mesh) 0 (length mesh.points) v v Smooth inside (omega arith)

  pub end-corner : (v : ℕ) → v < length mesh.points → IsTrue (is_end_corner mesh.boundary mesh.faces v)
      → vertex_sharpness_of (base_level mesh) v ≡ Infinite
  end-corner v inside end = base-vertex v inside ∙ rw end refl

  -- any other vertex has what the corner tags give it
  pub other-vertex : (v : ℕ) → v < length mesh.points → is_end_corner mesh.boundary mesh.faces v ≡ false
      → vertex_sharpness_of (base_level mesh) v ≡ tagged_vertex mesh.corner_tags v
  other-vertex v inside other = base-vertex v inside ∙ rw other refl

  pub last-corner_tag : (v : ℕ) (before : List (ℕ × Sharpness)) (tag : ℕ × Sharpness) (after : List (ℕ × Sharpness))
      → mesh.corner_tags ≡ before ++ (tag ∷ after) → v ≡ tag.0 → list_any (λ other. nat_eq v other.0) after ≡ false
      → v < length mesh.points → is_end_corner mesh.boundary mesh.faces v ≡ false → vertex_sharpness_of (base_level mesh) v ≡ tag.1
  last-corner_tag v before tag after split names none inside other =
      other-vertex v inside other
      ∙ ap (λ tags. tagged_vertex tags v) split
      ∙ last-kept (λ (t : ℕ × Sharpness). t.1) (λ (t : ℕ × Sharpness). nat_eq v t.0) Smooth before tag after (eq-eqb v tag.0 names) none

  pub untagged-vertex : (v : ℕ) → list_any (λ tag. nat_eq v tag.0) mesh.corner_tags ≡ false
      → is_end_corner mesh.boundary mesh.faces v ≡ false → vertex_sharpness_of (base_level mesh) v ≡ Smooth
  untagged-vertex v none other = ⊎_elim within past (cases_lt v (length mesh.points))
    where
      within : v < length mesh.points → vertex_sharpness_of (base_level mesh) v ≡ Smooth
      within inside =
          other-vertex v inside other
          ∙ last-none (λ (t : ℕ × Sharpness). t.1) (λ (t : ℕ × Sharpness). nat_eq v t.0) Smooth mesh.corner_tags none

      past : length mesh.points ≤ v → vertex_sharpness_of (base_level mesh) v ≡ Smooth
      past outside =
          let count = length-map-range_with_len (base_vertex_sharpness mesh) 0 (length mesh.points) in
          get_or_past (map (base_vertex_sharpness mesh) (range_with_len 0 (length mesh.points))) v Smooth (omega (arith, count, outside))

  pub base-hole : (face : ℕ) → face < length mesh.faces
      → is_hole (base_level mesh) face ≡ (is_among mesh.holes face || is_hidden mesh.boundary mesh.faces (polygon_at mesh.faces face))
  base-hole face inside =
      let this = numbered-at mesh.faces face inside in
      get_or-map (is_base_hole mesh) (enumerate_from 0 mesh.faces) face (0, []) false (omega (arith, inside, numbered-length 0 mesh.faces))
      ∙ ap (is_base_hole mesh) this
