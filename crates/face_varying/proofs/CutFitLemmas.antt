-- The faces of the cut mesh, from the numbers of all corners, and the conditions on them.
use Rattle.std.proofs.Common.{◌≡◌, ℕ, ◌+◌, ◌<◌, ◌≤◌, Bool, true, not, nat_lt, List, [], ◌∷◌, length, map, get_or, slice_range, arith, refl, ap, sym, ◌∙◌, None}
use Rattle.std.specs.List.{All, list_all, position_or_len, enumerate_from, sum_by}
use Rattle.std.proofs.lemmas.Bool.{lt-ltb, ltb-true}
use Rattle.std.proofs.lemmas.Grind.{common_steps}
use Rattle.std.proofs.lemmas.List.{get_or-map, length-map, ext_get_or, get_or_default}
use Rattle.std.proofs.lemmas.List.FromFn.{length-map-range_with_len}
use Rattle.std.proofs.lemmas.List.Sums.{sum_by-cons, list_all-from_AllPass, length-filter, count_by-le-length}
use Rattle.subdiv_model.specs.Lists.{each_once_by}
use Rattle.subdiv_model.specs.Polygons.{Polygon, same_side, has_distinct_sides, is_over, polygon_at}
use Rattle.subdiv_model.specs.Edges.{all_sides, edges_of}
use Rattle.subdiv_model.specs.Manifold.{IsManifold, is_simple, has_one_fan}
use Rattle.subdiv_model.specs.Level.{Level}
use Rattle.subdiv_model.specs.MeshFault.{first_mesh_fault}
use Rattle.subdiv_model.specs.ObjMesh.{ObjMesh}
use Rattle.subdiv_model.specs.Base.{base_level, is_base_hole}
use Rattle.subdiv_model.specs.Cut.{channel_point, channel_points}
use Rattle.mesh_laws.proofs.ChildClosedLemmas.{numbered-length}
use Rattle.mesh_laws.proofs.ChildCornerLemmas.{corner-point}
use Rattle.mesh_laws.proofs.FaultLemmas.{fault-decides}
use Rattle.mesh_laws.proofs.Laws.{all-simple}
use Rattle.mesh_laws.proofs.WalkLemmas.{manifold-decides, one_fan-test}
use Rattle.raw_mesh.specs.Laws.{IsWithin}
use Rattle.level_topology.specs.Topology.{IsSmallEnough}
use Rattle.point_fans.specs.Built.{Built, AreFans}
use Rattle.texture_laws.specs.CutMesh.{cut_faces, cut_point_count, point_of, vertex_of}
use Rattle.texture_laws.proofs.ChannelLemmas.{cut-at, cut-count, cut-corners, cut-over, cut-whole, channel-used, channel-vertex}
use Rattle.texture_laws.proofs.CutFanLemmas.{cut-manifold}
use Rattle.face_varying.specs.Corners.{corner_points, corner_numbers, apart_marks}
use Rattle.face_varying.specs.CornerPlaces.{start_of}
use Rattle.face_varying.specs.Built.{AreFit, cut_face, cut_by}
use Rattle.face_varying.proofs.CornerLemmas.{corners-length, place-of-corner, place-below, start-next}
use Rattle.face_varying.proofs.BuiltLemmas.{cut-length, cut-there}

-- an item of a part of a list
part-at : (xs : List ℕ) (a b i : ℕ) → a + i < b → get_or (slice_range xs a b) i 0 ≡ get_or xs (a + i) 0
part-at xs a b i h = grind (arith, common_steps)

-- other names leave the sizes
sum-named : (name : ℕ → ℕ) (polygons : List Polygon) → sum_by length (map (map name) polygons) ≡ sum_by length polygons
sum-named name [] = refl
sum-named name (polygon ∷ polygons) = omega (arith, sum_by-cons length (map name polygon) (map (map name) polygons), sum_by-cons length polygon polygons, length-map polygon name, sum-named name polygons)

-- a list without repetitions is no longer than the list
once-length : (xs : List (ℕ × ℕ)) → length (each_once_by same_side xs) ≤ length xs
once-length [] = omega arith
once-length (x ∷ xs) =
    omega (arith, length-filter (λ y. not (same_side x y)) (each_once_by same_side xs), count_by-le-length (λ y. not (same_side x y)) (each_once_by same_side xs), once-length xs)

-- corners of faces are points
pub within-over : (mesh : ObjMesh) → IsWithin mesh → is_over (length mesh.points) mesh.faces ≡ true
within-over mesh within = list_all-from_AllPass (list_all (λ v. nat_lt v (length mesh.points))) mesh.faces (λ k d h. list_all-from_AllPass (λ v. nat_lt v (length mesh.points)) (get_or mesh.faces k d) (λ i e g. lt-ltb _ _ (within.faces k d h i e g)))

module _ (mesh : ObjMesh) where
  pub corner-count : length (corner_numbers mesh) ≡ sum_by length mesh.faces
  corner-count = length-map (corner_points mesh) (λ point. position_or_len (same_side point) (channel_points mesh)) ∙ corners-length (channel_point mesh) 0 mesh.faces

  -- there are no more channel points than corners
  pub point-few : cut_point_count mesh ≤ sum_by length mesh.faces
  point-few = omega (arith, once-length (corner_points mesh), corners-length (channel_point mesh) 0 mesh.faces)

  -- the number at a place is that of the corner's point
  number-there : (f c : ℕ) → f < length mesh.faces → c < length (polygon_at mesh.faces f) → get_or (corner_numbers mesh) (start_of mesh.faces f + c) 0 ≡ point_of mesh f (get_or (polygon_at mesh.faces f) c 0)
  number-there f c inside corner =
      let within : start_of mesh.faces f + c < length (corner_points mesh) = omega (arith, place-below mesh.faces f c inside corner, corners-length (channel_point mesh) 0 mesh.faces) in
      get_or-map (λ point. position_or_len (same_side point) (channel_points mesh)) (corner_points mesh) (start_of mesh.faces f + c) (0, 0) 0 within
      ∙ ap (λ (point : ℕ × ℕ). position_or_len (same_side point) (channel_points mesh)) (place-of-corner (channel_point mesh) mesh.faces f c (0, 0) inside corner)

  -- the list has the number of a corner's point at the place of the corner
  pub corner-there : (f c : ℕ) → f < length mesh.faces → c < length (polygon_at mesh.faces f) → get_or (corner_numbers mesh) (start_of mesh.faces f + c) 0 ≡ get_or (polygon_at (cut_faces mesh) f) c 0
  corner-there f c inside corner = number-there f c inside corner ∙ sym (ap (λ (polygon : Polygon). get_or polygon c 0) (cut-at mesh f) ∙ get_or-map (point_of mesh f) (polygon_at mesh.faces f) c 0 0 corner)

  -- the part of a face among the numbers of all corners
  pub face-there : (f : ℕ) → f < length mesh.faces → cut_face mesh.faces (corner_numbers mesh) f ≡ polygon_at (cut_faces mesh) f
  face-there f inside =
      let size = cut-length mesh.faces (corner_numbers mesh) f inside corner-count in
      ext_get_or 0 (cut_face mesh.faces (corner_numbers mesh) f) (polygon_at (cut_faces mesh) f) (size ∙ sym (cut-corners mesh f)) (λ c h.
      part-at (corner_numbers mesh) (start_of mesh.faces f) (start_of mesh.faces (f + 1)) c (omega (arith, h, size, start-next mesh.faces f inside))
      ∙ corner-there f c inside (omega (arith, h, size)))

  -- the parts of all faces are the faces of the cut mesh
  faces-there : cut_by mesh.faces (corner_numbers mesh) ≡ cut_faces mesh
  faces-there =
      let size = length-map-range_with_len (cut_face mesh.faces (corner_numbers mesh)) 0 (length mesh.faces) in
      ext_get_or [] (cut_by mesh.faces (corner_numbers mesh)) (cut_faces mesh) (size ∙ sym (cut-count mesh)) (λ f h.
      cut-there mesh.faces (corner_numbers mesh) f (omega (arith, h, size)) ∙ face-there f (omega (arith, h, size)))

  -- the facts of an accepted mesh
  module _ (level : Level) (base : level ≡ base_level mesh) where
    -- the level has the faces of the mesh
    base-faces : level.polygons ≡ mesh.faces
    base-faces = ap (λ (l : Level). l.polygons) base

    -- the parts of the numbers of all corners are the faces of the cut mesh
    pub cut-is-faces : (numbers : List ℕ) → numbers ≡ corner_numbers mesh → cut_by level.polygons numbers ≡ cut_faces mesh
    cut-is-faces numbers are = ap (λ (faces : List Polygon). cut_by faces numbers) base-faces ∙ ap (cut_by mesh.faces) are ∙ faces-there

    -- there is a number for each corner
    pub numbers-all : (numbers : List ℕ) → numbers ≡ corner_numbers mesh → length numbers ≡ sum_by length level.polygons
    numbers-all numbers are = ap length are ∙ corner-count ∙ ap (λ (faces : List Polygon). sum_by length faces) (sym base-faces)

    -- there is a mark for each edge
    pub marks-all : (apart : List Bool) → apart ≡ apart_marks mesh → length apart ≡ length (edges_of level.polygons)
    marks-all apart are = ap length are ∙ length-map (edges_of mesh.faces) _ ∙ ap (λ (faces : List Polygon). length (edges_of faces)) (sym base-faces)

    -- there is a mark for each face
    pub holes-all : length level.holes ≡ length level.polygons
    holes-all = ap (λ (l : Level). length l.holes) base ∙ length-map (enumerate_from 0 mesh.faces) (is_base_hole mesh) ∙ numbered-length 0 mesh.faces ∙ ap (λ (faces : List Polygon). length faces) (sym base-faces)

    -- the vertex of a channel point is a point of the mesh
    pub vertices-within : (vertices : List ℕ) → IsWithin mesh → vertices ≡ map (λ point. point.0) (channel_points mesh) → All (λ v. v < level.point_count) vertices
    vertices-within vertices within are k d h =
        let size : length vertices ≡ cut_point_count mesh = ap length are ∙ length-map (channel_points mesh) _ in
        let found = channel-used mesh k (omega (arith, h, size)) in
        let vertex : get_or vertices k d ≡ vertex_of mesh k = ap (λ (vs : List ℕ). get_or vs k d) are ∙ get_or-map _ (channel_points mesh) k (0, 0) d (omega (arith, h, size)) in
        let same : vertex_of mesh k ≡ found.1 = ap (vertex_of mesh) (sym found.3) ∙ channel-vertex mesh found.0 found.1 found.2 in
        omega (arith, vertex, same, ltb-true _ _ (corner-point (length mesh.points) mesh.faces found.0 found.1 (within-over mesh within) found.2), ap (λ (l : Level). l.point_count) base)

    -- the faces of the cut mesh are fit to be put together
    pub cut-fit : (numbers : List ℕ) (points : ℕ) → IsManifold (length mesh.points) mesh.faces → IsSmallEnough level → numbers ≡ corner_numbers mesh → points ≡ cut_point_count mesh → AreFit points (cut_by level.polygons numbers)
    cut-fit numbers points manifold small are count =
        let faces = cut-is-faces numbers are in
        let cut = cut-manifold mesh manifold.simple manifold.sides_once in
        let sizes : sum_by length (cut_faces mesh) ≡ sum_by length mesh.faces = sym (sum-named (vertex_of mesh) (cut_faces mesh)) ∙ ap (λ (ps : List Polygon). sum_by length ps) (cut-whole mesh) in
        record {
          over = ap (λ (n : ℕ). is_over n (cut_by level.polygons numbers)) count ∙ ap (is_over (cut_point_count mesh)) faces ∙ cut-over mesh;
          simple = ap (list_all is_simple) faces ∙ all-simple (cut_point_count mesh) (cut_faces mesh) cut;
          sides_once = ap (λ (ps : List Polygon). has_distinct_sides (all_sides ps)) faces ∙ cut.sides_once;
          faces = omega (arith, ap (λ (ps : List Polygon). length ps) faces, cut-count mesh, ap (λ (ps : List Polygon). length ps) base-faces, small.faces);
          corners = omega (arith, ap (λ (ps : List Polygon). sum_by length ps) faces, sizes, ap (λ (ps : List Polygon). sum_by length ps) base-faces, small.corners);
          sizes = λ k d h.
              let inside : k < length level.polygons = omega (arith, h, ap (λ (ps : List Polygon). length ps) faces, cut-count mesh, ap (λ (ps : List Polygon). length ps) base-faces) in
              omega (
                arith,
                ap (λ (p : Polygon). length p) (get_or_default (cut_by level.polygons numbers) k d [] h),
                ap (λ (ps : List Polygon). length (polygon_at ps k)) faces,
                cut-corners mesh k,
                ap (λ (ps : List Polygon). length (polygon_at ps k)) base-faces,
                small.sizes k [] inside,
              );
        }

  -- a mesh without fault is a manifold
  pub accepted-manifold : first_mesh_fault (length mesh.points) mesh.faces ≡ None → IsManifold (length mesh.points) mesh.faces
  accepted-manifold sound = (manifold-decides (length mesh.points) mesh.faces).0 ((fault-decides (length mesh.points) mesh.faces).0 sound)

  -- the faces at each point are one fan
  pub cut-fans : (built : Built) → IsManifold (length mesh.points) mesh.faces → built.level.polygons ≡ cut_faces mesh → built.level.point_count ≡ cut_point_count mesh → AreFans built
  cut-fans built manifold faces count = λ v h marked.
      let cut = cut-manifold mesh manifold.simple manifold.sides_once in
      ap (λ (ps : List Polygon). has_one_fan ps v) faces ∙ one_fan-test (cut_faces mesh) (all-simple (cut_point_count mesh) (cut_faces mesh) cut) cut.sides_once v (cut.fans v (omega (arith, h, count)))
