-- Boundary edges are infinitely sharp at level 0 of a mesh, and stay so from level to level.
use Rattle.std.proofs.Common.{◌≡◌, ℕ, zero, suc, Bool, true, false, not, ◌||◌, nat_eq, List, length, get_or, arith, refl, ap, sym, ◌∙◌, IsTrue}
use Rattle.std.specs.List.{list_all, list_any}
use Rattle.std.proofs.lemmas.Bool.{false≢true}
use Rattle.std.proofs.lemmas.Bool.Decides.{nat_tests}
use Rattle.std.proofs.lemmas.List.Sums.{list_all-from_AllPass}
use Rattle.subdiv_model.specs.Polygons.{same_edge, is_over, has_distinct_sides}
use Rattle.subdiv_model.specs.Edges.{all_sides, edges_of, faces_of_edge, is_boundary, is_closed}
use Rattle.subdiv_model.specs.Manifold.{IsManifold, is_simple}
use Rattle.subdiv_model.specs.Sharpness.{Sharpness, Smooth, Semi, Infinite, Method, Normal, Chaikin, half_child}
use Rattle.subdiv_model.specs.Level.{Level, edge_sharpness_of, ring_at}
use Rattle.subdiv_model.specs.Child.{half_sharpness, child_polygons, child_level, refined_level}
use Rattle.number_laws.proofs.CountLemmas.{all-weaker}
use Rattle.mesh_laws.proofs.EdgeLemmas.{any-first_named, position-alike}
use Rattle.mesh_laws.proofs.ClosedLemmas.{any-all}
use Rattle.mesh_laws.proofs.ChildFaceLemmas.{all-child, child-simple, child-over}
use Rattle.mesh_laws.proofs.ChildOnceLemmas.{child-distinct}
use Rattle.mesh_laws.proofs.PointLemmas.{boundary-alike, boundary-side}
use Rattle.mesh_laws.proofs.ChildBoundaryLemmas.{child-boundary}
use Rattle.mesh_laws.proofs.Laws.{all-simple}
use Rattle.level_laws.proofs.HalfLemmas.{half-sharp}
use Rattle.level_laws.proofs.TagLemmas.{boundary-edge}
use Rattle.subdiv_model.specs.ObjMesh.{ObjMesh}
use Rattle.subdiv_model.specs.Base.{base_level}
use Rattle.subdiv_model.specs.Feature.{is_infinite}
use Rattle.mask_laws.specs.SharpBoundary.{has_sharp_boundary}

pub is-infinite : (s : Sharpness) → is_infinite s ≡ true → s ≡ Infinite
is-infinite Smooth h = cc
is-infinite (Semi num den) h = cc
is-infinite Infinite h = refl

implied : (b c : Bool) → (b ≡ true → c ≡ true) → (not b || c) ≡ true
implied true c h = h refl
implied false c h = refl

-- an infinite edge has infinite halves
pub infinite-half : (method : Method) (ring : List Sharpness) (s : Sharpness) → is_infinite s ≡ true
    → is_infinite (half_child method ring s) ≡ true
infinite-half method ring Smooth h = absurd (false≢true h)
infinite-half method ring (Semi num den) h = absurd (false≢true h)
infinite-half Normal ring Infinite h = refl
infinite-half Chaikin ring Infinite h = refl

-- Reading the sharpness of an edge.

edge-alike : (level : Level) (a b : ℕ × ℕ) → same_edge a b ≡ true → edge_sharpness_of level a ≡ edge_sharpness_of level b
edge-alike level a b h = ap (λ n. get_or level.edge_sharpness n Smooth) (position-alike a b (edges_of level.polygons) h)

-- Boundary edges of a level of simple polygons.

module _ (level : Level) (simple : list_all is_simple level.polygons ≡ true) where
  pub boundary-named : (t : ℕ × ℕ) → is_boundary level.polygons t ≡ true → list_any (same_edge t) (edges_of level.polygons) ≡ true
  boundary-named t h = any-first_named t (all_sides level.polygons) ∙ boundary-side level.polygons simple t h

  -- with a sharp boundary each pair that names an edge of one face, in either direction, is infinite
  pub sharp-at : has_sharp_boundary level ≡ true → (t : ℕ × ℕ) → is_boundary level.polygons t ≡ true
      → is_infinite (edge_sharpness_of level t) ≡ true
  sharp-at sharp t h =
      let test = λ (edge : ℕ × ℕ). not (is_boundary level.polygons edge) || is_infinite (edge_sharpness_of level edge) in
      let found = any-all (same_edge t) test (edges_of level.polygons) (boundary-named t h) sharp in
      let one : is_boundary level.polygons found.0 ≡ true = sym (boundary-alike level.polygons simple t found.0 found.1) ∙ h in
      ap is_infinite (edge-alike level t found.0 found.1) ∙ taken (is_boundary level.polygons found.0) _ one found.2
    where
      taken : (b c : Bool) → b ≡ true → (not b || c) ≡ true → c ≡ true
      taken true c h k = k
      taken false c h k = cc

-- a level whose boundary edges are infinitely sharp passes the test
pub sharp-from : (level : Level) → ((t : ℕ × ℕ) → is_boundary level.polygons t ≡ true → is_infinite (edge_sharpness_of level t) ≡ true)
    → has_sharp_boundary level ≡ true
sharp-from level each =
    list_all-from_AllPass (λ edge. not (is_boundary level.polygons edge) || is_infinite (edge_sharpness_of level edge)) (edges_of level.polygons)
    (λ k d h.
    implied _ _ (each (get_or (edges_of level.polygons) k d)))

-- a closed level has no boundary
pub closed-sharp : (level : Level) → is_closed level.polygons ≡ true → has_sharp_boundary level ≡ true
closed-sharp level closed =
    all-weaker (λ edge. nat_eq (length (faces_of_edge level.polygons edge)) 2)
    (λ edge. not (is_boundary level.polygons edge) || is_infinite (edge_sharpness_of level edge))
    (λ edge h. two (length (faces_of_edge level.polygons edge)) (is_infinite (edge_sharpness_of level edge)) h)
    (edges_of level.polygons) closed
  where
    two : (n : ℕ) (c : Bool) → nat_eq n 2 ≡ true → (not (nat_eq n 1) || c) ≡ true
    two n c h = grind (arith, nat_tests)

-- The next level.

-- what a level keeps whose boundary edges are infinitely sharp
pub record IsSharpAtBoundary (level : Level) : Type 0 where
  pub over : is_over level.point_count level.polygons ≡ true
  pub simple : list_all is_simple level.polygons ≡ true
  pub distinct : has_distinct_sides (all_sides level.polygons) ≡ true
  pub sharp : has_sharp_boundary level ≡ true

pub sharp-child : (level : Level) → IsSharpAtBoundary level → IsSharpAtBoundary (child_level level)
sharp-child level is =
    let quads = all-child level.point_count level.polygons is.over is.simple in
    let simple = child-simple level.point_count level.polygons (child_polygons level.point_count level.polygons) quads in
    record {
      over = child-over level.point_count level.polygons (child_polygons level.point_count level.polygons) quads;
      simple = simple;
      distinct = child-distinct level.point_count level.polygons is.over is.simple is.distinct;
      sharp =
          sharp-from (child_level level) (λ t on_boundary.
          let from = child-boundary level.point_count level.polygons is.over is.simple is.distinct t on_boundary in
          let edge : is_infinite (edge_sharpness_of level from.edge) ≡ true = sharp-at level is.simple is.sharp from.edge from.on_boundary in
          let half : edge_sharpness_of (child_level level) t ≡ half_sharpness level from.edge from.end =
          edge-alike (child_level level) t _ from.half ∙ half-sharp level is.over from.edge from.end from.named from.at_end in
          ap is_infinite half ∙ infinite-half level.method (ring_at level from.end) (edge_sharpness_of level from.edge) edge);
    }

pub sharp-levels : (level : Level) (k : ℕ) → IsSharpAtBoundary level → IsSharpAtBoundary (refined_level level k)
sharp-levels level zero is = is
sharp-levels level (suc k) is = sharp-child (refined_level level k) (sharp-levels level k is)

-- Level 0.

-- each boundary edge of a mesh is infinite, whatever its tags
pub boundary-base : (mesh : ObjMesh) → IsManifold (length mesh.points) mesh.faces → IsTrue (has_sharp_boundary (base_level mesh))
boundary-base mesh is =
    sharp-from (base_level mesh) (λ t on_boundary.
    ap is_infinite (boundary-edge mesh t (boundary-named (base_level mesh) (all-simple (length mesh.points) mesh.faces is) t on_boundary) on_boundary))
