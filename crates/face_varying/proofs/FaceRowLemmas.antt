-- The corners, the edges and the texture numbers of one face of a level and a mesh.
use Rattle.std.proofs.Common.{◌≡◌, ℕ, ◌+◌, ◌<◌, nat_eq, List, [], length, get_or, Some, slice_get, slice_set, arith, ap, sym, ◌∙◌, subst, if◌then◌else◌}
use Rattle.std.proofs.lemmas.Option.{get_or_from_slice_get}
use Rattle.subdiv_model.specs.Polygons.{polygon_at}
use Rattle.subdiv_model.specs.Edges.{edges_of, edge_number}
use Rattle.subdiv_model.specs.ObjMesh.{ObjMesh}
use Rattle.level_topology.specs.Topology.{Topology, IsTopology, edge_at, face_edges_of, side_at, corner_after}
use Rattle.level_topology.proofs.LawLemmas.{edges-as-many, edge-exists}
use Rattle.face_varying.specs.CornerPlaces.{start_of}
use Rattle.face_varying.specs.Cut.{IsCuttable}
use Rattle.face_varying.specs.Sides.{AreNoted, is_along}
use Rattle.face_varying.proofs.CuttableLemmas.{texture-length}
use Rattle.face_varying.proofs.EdgeSideLemmas.{side-number, after-within}
use Rattle.face_varying.proofs.NotedLemmas.{noted-more}

module _ (mesh : ObjMesh) (base : Topology) (cuttable : IsCuttable mesh base) (f : ℕ) (vertices edges texture : List ℕ)
    (vertices_are : vertices ≡ polygon_at base.level.polygons f) (edges_are : edges ≡ face_edges_of base.level.polygons (polygon_at base.level.polygons f))
    (texture_is : slice_get mesh.texture_corners f ≡ Some texture) (c : ℕ) (inside : c < length vertices) where
  corner : c < length (polygon_at base.level.polygons f)
  corner = omega (arith, ap (λ (xs : List ℕ). length xs) vertices_are)

  row : texture ≡ polygon_at mesh.texture_corners f
  row = sym (get_or_from_slice_get mesh.texture_corners f texture [] texture_is)

  -- there are as many edges and texture numbers as corners
  pub edge-there : c < length edges
  edge-there = omega (arith, ap (λ (xs : List ℕ). length xs) edges_are, edges-as-many base.level.polygons f, corner)

  as-many : length texture ≡ length vertices
  as-many = ap (λ (xs : List ℕ). length xs) row ∙ texture-length mesh base cuttable f ∙ sym (ap (λ (xs : List ℕ). length xs) vertices_are)

  pub texture-there : c < length texture
  texture-there = omega (arith, as-many)

  pub next-there : (next : ℕ) → next ≡ corner_after (length vertices) c → next < length texture
  next-there next e = omega (arith, as-many, after-within (length vertices) c inside, e)

  -- each edge is one of the level
  pub edge-listed : get_or edges c 0 < length (edges_of base.level.polygons)
  edge-listed = subst (λ (xs : List ℕ). get_or xs c 0 < length (edges_of base.level.polygons)) (sym edges_are) (edge-exists base.level.polygons f c corner)

  number : get_or edges c 0 ≡ edge_number base.level.polygons (side_at (polygon_at base.level.polygons f) c)
  number = ap (λ (xs : List ℕ). get_or xs c 0) edges_are ∙ side-number base.level.polygons f c corner

  -- the side at the corner is noted
  pub noted-corner : IsTopology base → (along against next_along next_against : List (ℕ × ℕ)) (ends : ℕ × ℕ) (next : ℕ) → f < length base.level.polygons
      → ends ≡ edge_at base.level.polygons (get_or edges c 0) → next ≡ corner_after (length vertices) c
      → AreNoted base.level.polygons mesh.texture_corners along against (start_of base.level.polygons f + c)
      → next_along ≡ (if nat_eq ends.0 (get_or vertices c 0) then slice_set along (get_or edges c 0) (get_or texture c 0, get_or texture next 0) else along)
      → next_against ≡ (if nat_eq ends.0 (get_or vertices c 0) then against else slice_set against (get_or edges c 0) (get_or texture next 0, get_or texture c 0))
      → AreNoted base.level.polygons mesh.texture_corners next_along next_against (start_of base.level.polygons f + (c + 1))
  noted-corner is along against next_along next_against ends next exists ends_are next_is before p q =
      noted-more base.level.polygons mesh.texture_corners is.simple is.sides_once along against next_along next_against f c (get_or edges c 0) (get_or texture c 0) (get_or texture next 0) (nat_eq ends.0 (get_or vertices c 0)) exists corner before number edge-listed direction numbers p q
    where
      direction : nat_eq ends.0 (get_or vertices c 0) ≡ is_along base.level.polygons (side_at (polygon_at base.level.polygons f) c)
      direction =
          ap (λ (pair : ℕ × ℕ). nat_eq pair.0 (get_or vertices c 0)) ends_are
          ∙ ap (λ (n : ℕ). nat_eq (edge_at base.level.polygons n).0 (get_or vertices c 0)) number
          ∙ ap (λ (xs : List ℕ). nat_eq (edge_at base.level.polygons (edge_number base.level.polygons (side_at (polygon_at base.level.polygons f) c))).0 (get_or xs c 0)) vertices_are

      numbers : (get_or texture c 0, get_or texture next 0) ≡ side_at (polygon_at mesh.texture_corners f) c
      numbers =
          ap (λ (k : ℕ). (get_or texture c 0, get_or texture k 0)) (next_is ∙ ap (λ (n : ℕ). corner_after n c) (sym as-many))
          ∙ ap (λ (xs : List ℕ). side_at xs c) row
