-- A mesh that has the tags and the points of a level goes on from there.
use Rattle.std.proofs.Common.{◌≡◌, ℕ, ◌+◌, ◌<◌, ◌++◌, Bool, true, List, [], ◌∷◌, ℤ, length, map, None, refl, ap, sym, ◌∙◌, subst, IsTrue}
use Rattle.std.specs.List.{All, flat_map, list_all}
use Rattle.subdiv_model.specs.MeshFault.{first_mesh_fault}
use Rattle.subdiv_model.specs.ObjMesh.{ObjMesh, has_faces_over_points}
use Rattle.subdiv_model.specs.Level.{Level, edge_sharpness_of, vertex_sharpness_of}
use Rattle.subdiv_model.specs.Sharpness.{Sharpness, is_proper_sharpness}
use Rattle.subdiv_model.specs.Base.{base_level}
use Rattle.subdiv_model.specs.Child.{refined_level, faces_after}
use Rattle.subdiv_model.specs.Mask.{Scheme}
use Rattle.subdiv_model.specs.Refined.{refined_coordinates}
use Rattle.subdiv_model.specs.Text.{face_line, shown}
use Rattle.sharpness_laws.proofs.ProperLemmas.{proper-well_formed, proper-edge, proper-vertex}
use Rattle.level_laws.proofs.FaceLemmas.{faces-after}
use Rattle.level_laws.proofs.WellFormedLemmas.{first-of-six}
use Rattle.level_laws.specs.Tags.{HasProperTags}
use Rattle.mask_laws.specs.Laws.{IsManifoldMesh, IsManifoldWithSharpBoundary, mesh_level}
use Rattle.continued_laws.specs.Laws.{AreSameValues, HasDenominator, Columns, values_over, mesh_coordinates, mesh_points, point_lines, text_after, IsContinuation}
use Rattle.continued_laws.proofs.TagLemmas.{base-again}
use Rattle.continued_laws.proofs.StepLemmas.{steps-on, sharp-mesh, no-fault}
use Rattle.continued_laws.proofs.ScaledLemmas.{values-on}
use Rattle.continued_laws.proofs.PositiveLemmas.{coordinates-positive}
use Rattle.continued_laws.proofs.PointLemmas.{mesh-axes}
use Rattle.continued_laws.proofs.LineLemmas.{columns-same}

-- tags whose sharpnesses are well formed
all-given : {X : Type 0} (value : X → Sharpness) → ((x : X) → is_proper_sharpness (value x) ≡ true) → (xs : List X)
    → list_all (λ (tag : X × Sharpness). is_proper_sharpness tag.1) (map (λ x. (x, value x)) xs) ≡ true
all-given value proper [] = refl
all-given value proper (x ∷ xs) = rw (proper x) (all-given value proper xs)

above : (axis : ℤ × ℤ × ℤ → ℤ) (scheme : Scheme) (mesh : ObjMesh) (k : ℕ) → IsManifoldWithSharpBoundary (base_level mesh) → 0 < mesh.common
    → All HasDenominator (mesh_coordinates axis scheme mesh k)
above axis scheme mesh k is some = coordinates-positive (base_level mesh) scheme mesh.common (map axis mesh.points) k is some

-- the coordinates of the mesh after k steps
abbrev columns : (scheme : Scheme) (mesh : ObjMesh) → ℕ → IsManifoldWithSharpBoundary (base_level mesh) → 0 < mesh.common → Columns
columns scheme mesh k is some = record {
  xs = mesh_coordinates (λ p. p.0) scheme mesh k;
  ys = mesh_coordinates (λ p. p.1) scheme mesh k;
  zs = mesh_coordinates (λ p. p.2) scheme mesh k;
  above_x = above (λ p. p.0) scheme mesh k is some;
  above_y = above (λ p. p.1) scheme mesh k is some;
  above_z = above (λ p. p.2) scheme mesh k is some;
}

module _ (scheme : Scheme) (k : ℕ) (first second : ObjMesh) (is : IsContinuation scheme k first second) where
  sharp-first : IsManifoldWithSharpBoundary (base_level first)
  sharp-first = sharp-mesh first 0 is.manifold is.proper

  start : IsManifoldWithSharpBoundary (mesh_level first k)
  start = sharp-mesh first k is.manifold is.proper

  pub second-base : base_level second ≡ mesh_level first k
  second-base = base-again (mesh_level first k) second start is.tags

  pub sharp-second : IsManifoldWithSharpBoundary (base_level second)
  sharp-second = subst IsManifoldWithSharpBoundary (sym second-base) start

  over-second : IsTrue (has_faces_over_points second)
  over-second = first-of-six (has_faces_over_points second) _ _ _ _ _ sharp-second.formed

  -- the second mesh is a manifold with proper tags
  pub second-manifold : IsManifoldMesh second
  second-manifold = record { manifold = sharp-second.manifold; over_points = over-second }

  pub second-proper : HasProperTags second
  second-proper =
      let proper = proper-well_formed (mesh_level first k) start.formed in
      record {
        creases =
            ap (list_all (λ crease. is_proper_sharpness crease.1)) is.tags.creases
            ∙ all-given (edge_sharpness_of (mesh_level first k)) (proper-edge (mesh_level first k) proper) _;
        corner_tags =
            ap (list_all (λ tag. is_proper_sharpness tag.1)) is.tags.corner_tags
            ∙ all-given (vertex_sharpness_of (mesh_level first k)) (proper-vertex (mesh_level first k) proper) _;
      }

  pub second-fault : first_mesh_fault (length second.points) second.faces ≡ None
  second-fault = no-fault (base_level second) 0 (record { over = over-second; manifold = sharp-second.manifold })

  pub levels-on : (j : ℕ) → mesh_level second j ≡ mesh_level first (k + j)
  levels-on j = ap (λ level. refined_level level j) second-base ∙ steps-on (base_level first) k j

  pub faces-on : (j : ℕ) → faces_after second.faces j ≡ faces_after first.faces (k + j)
  faces-on j =
      sym (faces-after (base_level second) j)
      ∙ ap (λ (level : Level). length level.polygons) (levels-on j)
      ∙ faces-after (base_level first) (k + j)

  -- a coordinate goes on
  axis-on : (axis : ℤ × ℤ × ℤ → ℤ) (j : ℕ) → AreSameValues (mesh_coordinates axis scheme first k) (values_over second.common (map axis second.points))
      → AreSameValues (mesh_coordinates axis scheme first (k + j)) (mesh_coordinates axis scheme second j)
  axis-on axis j same =
      subst (λ level. AreSameValues (mesh_coordinates axis scheme first (k + j))
      (refined_coordinates level scheme second.common (map axis second.points) j)) (sym second-base)
      (values-on (base_level first) scheme first.common second.common (map axis first.points) (map axis second.points) k j same)

  pub lines-on : (j : ℕ) → point_lines (mesh_points scheme second j) ≡ point_lines (mesh_points scheme first (k + j))
  lines-on j =
      let axes = mesh-axes scheme first second k is.points in
      sym (columns-same (columns scheme first (k + j) sharp-first is.first_common) (columns scheme second j sharp-second is.second_common) (record {
        x = axis-on (λ p. p.0) j axes.x;
        y = axis-on (λ p. p.1) j axes.y;
        z = axis-on (λ p. p.2) j axes.z;
      }))

  pub texts-on : (holes : Bool) (j : ℕ) → text_after scheme holes second j ≡ text_after scheme holes first (k + j)
  texts-on holes j =
      ap (λ lines. lines ++ flat_map face_line (shown holes (mesh_level second j) (mesh_level second j).polygons)) (lines-on j)
      ∙ ap (λ (level : Level). point_lines (mesh_points scheme first (k + j)) ++ flat_map face_line (shown holes level level.polygons))
      (levels-on j)
