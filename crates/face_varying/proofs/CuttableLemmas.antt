-- The facts of an accepted mesh with texture.
use Rattle.std.proofs.Common.{◌≡◌, ℕ, List, [], length, map, get_or, ap, sym, ◌∙◌}
use Rattle.std.proofs.Math.ListN.{get_or-map}
use Rattle.subdiv_model.specs.Polygons.{Polygon, polygon_at}
use Rattle.subdiv_model.specs.Level.{Level}
use Rattle.subdiv_model.specs.ObjMesh.{ObjMesh}
use Rattle.level_topology.specs.Topology.{Topology}
use Rattle.face_varying.specs.Cut.{IsCuttable}

module _ (mesh : ObjMesh) (base : Topology) (cuttable : IsCuttable mesh base) where
  -- the level has the faces and the points of the mesh
  pub same-faces : base.level.polygons ≡ mesh.faces
  same-faces = ap (λ (l : Level). l.polygons) cuttable.accepted.level_is

  pub same-points : base.level.point_count ≡ length mesh.points
  same-points = ap (λ (l : Level). l.point_count) cuttable.accepted.level_is

  -- each face has as many texture numbers as corners
  pub texture-length : (f : ℕ) → length (polygon_at mesh.texture_corners f) ≡ length (polygon_at base.level.polygons f)
  texture-length f =
      rows mesh.texture_corners mesh.faces f (cuttable.within.textured cuttable.textured)
      ∙ ap (λ (faces : List Polygon). length (polygon_at faces f)) (sym same-faces)
    where
      rows : (xs ys : List (List ℕ)) (f : ℕ) → map length xs ≡ map length ys → length (get_or xs f []) ≡ length (get_or ys f [])
      rows xs ys f e = sym (get_or-map length xs f []) ∙ ap (λ (ns : List ℕ). get_or ns f 0) e ∙ get_or-map length ys f []
