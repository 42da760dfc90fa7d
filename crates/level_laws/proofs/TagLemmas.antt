-- The sharpness of an edge at level 0.
use Rattle.std.proofs.Common.{◌≡◌, ℕ, Bool, true, nat_eq, length, map, refl, ap, ◌∙◌, if◌then◌else◌, IsTrue}
use Rattle.std.specs.List.{filter, list_any}
use Rattle.subdiv_model.specs.Lists.{last_of, places}
use Rattle.subdiv_model.specs.Polygons.{Polygon, same_edge, sides_of}
use Rattle.subdiv_model.specs.Edges.{edges_of, is_boundary}
use Rattle.subdiv_model.specs.Sharpness.{Sharpness, Smooth, Infinite}
use Rattle.subdiv_model.specs.ObjMesh.{ObjMesh}
use Rattle.subdiv_model.specs.Level.{edge_sharpness_of}
use Rattle.subdiv_model.specs.Base.{base_edge_sharpness, base_level}
use Rattle.mesh_laws.proofs.SideLemmas.{same_edge-alike}
use Rattle.level_laws.proofs.NumberedLemmas.{listed-at}

module _ (mesh : ObjMesh) where
  -- the sharpness of an edge, from the test that names it
  abbrev by-test : (ℕ × ℕ → Bool) → Sharpness
  by-test test =
      if nat_eq (length (places (λ (polygon : Polygon). list_any test (sides_of polygon)) mesh.faces)) 1 then Infinite
      else last_of Smooth (map (λ (c : (ℕ × ℕ) × Sharpness). c.1) (filter (λ (c : (ℕ × ℕ) × Sharpness). test c.0) mesh.creases))

  pub base-alike : (s t : ℕ × ℕ) → same_edge s t ≡ true → base_edge_sharpness mesh s ≡ base_edge_sharpness mesh t
  base-alike s t h = let tests : same_edge s ≡ same_edge t = λ i u. same_edge-alike s t u h i in ap by-test tests

  pub base-edge : (edge : ℕ × ℕ)
      → edge_sharpness_of (base_level mesh) edge
      ≡ (if list_any (same_edge edge) (edges_of mesh.faces) then base_edge_sharpness mesh edge else Smooth)
  base-edge edge = listed-at (base_edge_sharpness mesh) Smooth base-alike edge (edges_of mesh.faces)

  pub boundary-edge : (edge : ℕ × ℕ) → IsTrue (list_any (same_edge edge) (edges_of mesh.faces)) → IsTrue (is_boundary mesh.faces edge)
      → edge_sharpness_of (base_level mesh) edge ≡ Infinite
  boundary-edge edge there boundary = base-edge edge ∙ rw (there, boundary) refl
