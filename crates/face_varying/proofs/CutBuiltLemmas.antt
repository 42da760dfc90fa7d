-- Level 0 of the cut mesh out of its parts: the faces, the sharpness of their sides, and the points.
use Rattle.std.proofs.Common.{◌≡◌, ℕ, zero, suc, ◌+◌, ◌<◌, ◌^◌, Bool, true, false, List, [], ◌∷◌, ◌++◌, length, map, get_or, drop, replicate, append-nil, arith, refl, ap, sym, ◌∙◌, if◌then◌else◌}
use Rattle.std.specs.List.{All, list_all, range_with_len, sum_by}
use Rattle.std.proofs.lemmas.List.{get_or-map, length-map, length-replicate, drop_all}
use Rattle.std.proofs.lemmas.List.FromFn.{length-map-range_with_len, get_or-map-range_with_len}
use Rattle.subdiv_model.specs.Polygons.{Polygon, has_distinct_sides}
use Rattle.subdiv_model.specs.Edges.{all_sides, edges_of}
use Rattle.subdiv_model.specs.Manifold.{IsManifold, is_simple}
use Rattle.subdiv_model.specs.Sharpness.{Sharpness, Smooth, Infinite}
use Rattle.subdiv_model.specs.Level.{Level}
use Rattle.subdiv_model.specs.ObjMesh.{ObjMesh}
use Rattle.subdiv_model.specs.Base.{base_level}
use Rattle.subdiv_model.specs.Cut.{SeamMode, channel_points, channel_vertex, stays_sharp, cut_vertex_sharpness, cut_level}
use Rattle.mesh_laws.proofs.Laws.{all-simple}
use Rattle.raw_mesh.specs.Laws.{IsWithin}
use Rattle.level_topology.specs.Topology.{Topology, IsTopology, IsSmallEnough}
use Rattle.point_fans.specs.Built.{Built, AreFans, built_of}
use Rattle.level_builder.specs.Builder.{only_points}
use Rattle.mesh_check.specs.Base.{smooth_built}
use Rattle.texture_laws.specs.CutMesh.{cut_faces, cut_point_count}
use Rattle.face_varying.specs.Corners.{apart_marks, corner_numbers}
use Rattle.face_varying.specs.Cut.{IsCuttable}
use Rattle.face_varying.specs.Built.{AreFit, cut_by, sides_before, with_sides, point_sharpness, with_points}
use Rattle.face_varying.proofs.CutFitLemmas.{point-few, cut-is-faces, numbers-all, marks-all, holes-all, vertices-within, cut-fit, cut-fans, accepted-manifold}
use Rattle.face_varying.proofs.CutSharpLemmas.{own_sharpness, own-alike, sides-own, sides-set}

-- two functions that agree on a range give the same list
range-agree : {X : Type 0} (f g : ℕ → X) (a n : ℕ) → ((k : ℕ) → k < a + n → f k ≡ g k) → map f (range_with_len a n) ≡ map g (range_with_len a n)
range-agree f g a zero same = refl
range-agree f g a (suc n) same = ap (λ x. x ∷ map f (range_with_len (a + 1) n)) (same a (omega arith)) ∙ ap (λ xs. g a ∷ xs) (range-agree f g (a + 1) n (λ k h. same k (omega (arith, h))))

module _ (mesh : ObjMesh) (mode : SeamMode) (level : Level) (base : level ≡ base_level mesh) where
  -- only the faces, all smooth
  abbrev faced : Built
  faced = smooth_built (cut_point_count mesh) (base_level mesh).method (cut_faces mesh) (base_level mesh).holes

  -- the faces with the sharpness of their edges
  abbrev sided : Built
  sided =
      built_of (cut_point_count mesh) (cut_faces mesh) (base_level mesh).holes (map (own_sharpness mesh) (edges_of (cut_faces mesh))) (replicate (cut_point_count mesh) Smooth) (base_level mesh).method
      (replicate (cut_point_count mesh) false)

  -- only the points
  pub points-there : (points : ℕ) (points_only : Built) → points ≡ cut_point_count mesh → points_only ≡ only_points points level.method → points_only ≡ only_points (cut_point_count mesh) (base_level mesh).method
  points-there points points_only count is = is ∙ ap (λ (n : ℕ). only_points n level.method) count ∙ ap (λ (l : Level). only_points (cut_point_count mesh) l.method) base

  -- with the faces
  pub faces-there : (numbers : List ℕ) (points_only faces : Built) → numbers ≡ corner_numbers mesh → points_only ≡ only_points (cut_point_count mesh) (base_level mesh).method
      → faces ≡ smooth_built points_only.level.point_count points_only.level.method (cut_by level.polygons numbers) level.holes → faces ≡ faced
  faces-there numbers points_only faces are before is =
      is
      ∙ ap (λ (b : Built). smooth_built b.level.point_count b.level.method (cut_by level.polygons numbers) level.holes) before
      ∙ ap (λ (ps : List Polygon). smooth_built (cut_point_count mesh) (base_level mesh).method ps level.holes) (cut-is-faces mesh level base numbers are)
      ∙ ap (λ (l : Level). smooth_built (cut_point_count mesh) (base_level mesh).method (cut_faces mesh) l.holes) base

  -- with the sharpness of the sides
  pub sides-there : (apart : List Bool) (numbers : List ℕ) (faces sides : Built) → list_all is_simple mesh.faces ≡ true → has_distinct_sides (all_sides mesh.faces) ≡ true → apart ≡ apart_marks mesh → numbers ≡ corner_numbers mesh
      → faces ≡ faced → sides ≡ with_sides (sides_before level apart numbers (length level.polygons)) faces → sides ≡ sided
  sides-there apart numbers faces sides simple once are_apart are before is =
      let points = cut_point_count mesh in
      is
      ∙ ap (with_sides (sides_before level apart numbers (length level.polygons))) before
      ∙ ap (λ (l : Level). with_sides (sides_before l apart numbers (length l.polygons)) faced) base
      ∙ ap (λ (bs : List Bool). with_sides (sides_before (base_level mesh) bs numbers (length mesh.faces)) faced) are_apart
      ∙ ap (λ (ns : List ℕ). with_sides (sides_before (base_level mesh) (apart_marks mesh) ns (length mesh.faces)) faced) are
      ∙ ap (λ (tags : List ((ℕ × ℕ) × Sharpness)). with_sides tags faced) (sides-own mesh simple once)
      ∙ sides-set (own_sharpness mesh) (own-alike mesh) points (cut_faces mesh) (base_level mesh).holes (replicate points Smooth) (base_level mesh).method (replicate points false)

  -- the sharpness of each point is that of the cut mesh
  points-own : (vertices : List ℕ) (kept : List Bool) → vertices ≡ map (λ point. point.0) (channel_points mesh) → kept ≡ map (stays_sharp mode (cut_faces mesh)) (range_with_len 0 (cut_point_count mesh))
      → map (point_sharpness level vertices kept) (range_with_len 0 (cut_point_count mesh)) ≡ (cut_level mode mesh).vertex_sharpness
  points-own vertices kept are are_kept =
      range-agree (point_sharpness level vertices kept) (cut_vertex_sharpness mode (base_level mesh) (channel_points mesh) (cut_faces mesh)) 0 (cut_point_count mesh) (λ p h.
      let inside : p < cut_point_count mesh = omega (arith, h) in
      let mark : get_or kept p false ≡ stays_sharp mode (cut_faces mesh) p =
      ap (λ (bs : List Bool). get_or bs p false) are_kept ∙ get_or-map-range_with_len (stays_sharp mode (cut_faces mesh)) 0 (cut_point_count mesh) p p false inside (omega arith) in
      let vertex : get_or vertices p 0 ≡ channel_vertex (channel_points mesh) p = ap (λ (vs : List ℕ). get_or vs p 0) are ∙ get_or-map _ (channel_points mesh) p (0, 0) 0 inside in
      ap (λ (b : Bool). if b then Infinite else get_or level.vertex_sharpness (get_or vertices p 0) Smooth) mark
      ∙ ap (λ (v : ℕ). if stays_sharp mode (cut_faces mesh) p then Infinite else get_or level.vertex_sharpness v Smooth) vertex
      ∙ ap (λ (l : Level). if stays_sharp mode (cut_faces mesh) p then Infinite else get_or l.vertex_sharpness (channel_vertex (channel_points mesh) p) Smooth) base)

  -- the points with their sharpness, each complete
  pub all-there : (vertices : List ℕ) (kept : List Bool) (sides built : Built) → vertices ≡ map (λ point. point.0) (channel_points mesh) → kept ≡ map (stays_sharp mode (cut_faces mesh)) (range_with_len 0 (cut_point_count mesh))
      → sides ≡ sided → built ≡ with_points (point_sharpness level vertices kept) (length vertices) sides → built ≡ record { level = cut_level mode mesh; complete = replicate (cut_point_count mesh) true }
  all-there vertices kept sides built are are_kept before is =
      let points = cut_point_count mesh in
      let size : length vertices ≡ points = ap length are ∙ length-map (channel_points mesh) _ in
      let no_sharp : drop points (replicate points Smooth) ≡ [] = drop_all points (replicate points Smooth) (omega (arith, length-replicate points Smooth)) in
      let no_marks : drop points (replicate points false) ≡ [] = drop_all points (replicate points false) (omega (arith, length-replicate points false)) in
      let sharp : map (point_sharpness level vertices kept) (range_with_len 0 points) ++ drop points (replicate points Smooth) ≡ (cut_level mode mesh).vertex_sharpness =
      ap (λ (xs : List Sharpness). map (point_sharpness level vertices kept) (range_with_len 0 points) ++ xs) no_sharp ∙ append-nil (map (point_sharpness level vertices kept) (range_with_len 0 points)) ∙ points-own vertices kept are are_kept in
      let marks : replicate points true ++ drop points (replicate points false) ≡ replicate points true = ap (λ (xs : List Bool). replicate points true ++ xs) no_marks ∙ append-nil (replicate points true) in
      is
      ∙ ap (λ (n : ℕ). with_points (point_sharpness level vertices kept) n sides) size
      ∙ ap (with_points (point_sharpness level vertices kept) points) before
      ∙ ap (λ (xs : List Sharpness). finished xs (replicate points true ++ drop points (replicate points false))) sharp
      ∙ ap (finished (cut_level mode mesh).vertex_sharpness) marks
    where
      finished : List Sharpness → List Bool → Built
      finished sharpness complete =
          built_of (cut_point_count mesh) (cut_faces mesh) (base_level mesh).holes (map (own_sharpness mesh) (edges_of (cut_faces mesh))) sharpness (base_level mesh).method complete

-- the parts from which the cut mesh of an accepted mesh is made
pub record AreParts (mesh : ObjMesh) (mode : SeamMode) (level : Level) (apart : List Bool) (numbers vertices : List ℕ) (kept : List Bool) : Type 0 where
  pub within : IsWithin mesh
  pub base : level ≡ base_level mesh
  pub manifold : IsManifold (length mesh.points) mesh.faces
  pub small : IsSmallEnough level
  pub apart_are : apart ≡ apart_marks mesh
  pub numbers_are : numbers ≡ corner_numbers mesh
  pub vertices_are : vertices ≡ map (λ point. point.0) (channel_points mesh)
  pub kept_are : kept ≡ map (stays_sharp mode (cut_faces mesh)) (range_with_len 0 (cut_point_count mesh))

-- the parts are those of the clauses
pub parts-of : {mesh : ObjMesh} {t : Topology} {apart : List Bool} {numbers vertices : List ℕ} {kept : List Bool} (mode : SeamMode) → IsCuttable mesh t → IsTopology t → apart ≡ apart_marks mesh → numbers ≡ corner_numbers mesh
    → vertices ≡ map (λ point. point.0) (channel_points mesh) → kept ≡ map (stays_sharp mode (cut_faces mesh)) (range_with_len 0 (cut_point_count mesh)) → AreParts mesh mode t.level apart numbers vertices kept
parts-of {mesh = mesh} mode cuttable facts are_apart are_numbers are_vertices are_kept = record {
  within = cuttable.within;
  base = cuttable.accepted.level_is;
  manifold = accepted-manifold mesh cuttable.accepted.manifold;
  small = facts.small;
  apart_are = are_apart;
  numbers_are = are_numbers;
  vertices_are = are_vertices;
  kept_are = are_kept;
}

module _ {mesh : ObjMesh} {mode : SeamMode} {level : Level} {apart : List Bool} {numbers vertices : List ℕ} {kept : List Bool} (are : AreParts mesh mode level apart numbers vertices kept) where
  faces-are : level.polygons ≡ mesh.faces
  faces-are = ap (λ (l : Level). l.polygons) are.base

  -- there is a vertex for each channel point
  pub point-count : length vertices ≡ cut_point_count mesh
  point-count = ap length are.vertices_are ∙ length-map (channel_points mesh) _

  -- there are few corners
  pub few-numbers : length numbers < 2 ^ 28
  few-numbers = omega (arith, numbers-all mesh level are.base numbers are.numbers_are, are.small.corners)

  -- there are few points
  pub few-points : length vertices < 2 ^ 28
  few-points = omega (arith, point-count, point-few mesh, ap (λ (faces : List Polygon). sum_by length faces) faces-are, are.small.corners)

  -- the conditions on the faces
  pub parts-fit : (points_only : Built) → points_only ≡ only_points (length vertices) level.method → AreFit points_only.level.point_count (cut_by level.polygons numbers)
  parts-fit points_only is = cut-fit mesh level are.base numbers points_only.level.point_count are.manifold are.small are.numbers_are (ap (λ (b : Built). b.level.point_count) is ∙ point-count)

  -- there is a number for each corner
  pub parts-numbers : length numbers ≡ sum_by length level.polygons
  parts-numbers = numbers-all mesh level are.base numbers are.numbers_are

  -- there is a mark for each face
  pub parts-holes : length level.holes ≡ length level.polygons
  parts-holes = holes-all mesh level are.base

  -- there is a mark for each edge
  pub parts-apart : length apart ≡ length (edges_of level.polygons)
  parts-apart = marks-all mesh level are.base apart are.apart_are

  -- there is a mark for each point
  pub parts-kept : length kept ≡ length vertices
  parts-kept = ap length are.kept_are ∙ length-map-range_with_len (stays_sharp mode (cut_faces mesh)) 0 (cut_point_count mesh) ∙ sym point-count

  -- each vertex is a point of the mesh
  pub parts-vertices : All (λ v. v < level.point_count) vertices
  parts-vertices = vertices-within mesh level are.base vertices are.within are.vertices_are

  -- the builder that has only the points is the one with their number
  pub points-only-itself : (points_only : Built) → points_only ≡ only_points (length vertices) level.method → points_only ≡ only_points points_only.level.point_count points_only.level.method
  points-only-itself points_only is = is ∙ ap (λ (b : Built). only_points b.level.point_count b.level.method) (sym is)

  -- the sides with their sharpness
  pub with-sides : (points_only faces sides : Built) → points_only ≡ only_points (length vertices) level.method → faces ≡ smooth_built points_only.level.point_count points_only.level.method (cut_by level.polygons numbers) level.holes
      → sides ≡ with_sides (sides_before level apart numbers (length level.polygons)) faces → sides ≡ sided mesh mode level are.base
  with-sides points_only faces sides is_points is_faces is_sides =
      sides-there mesh mode level are.base apart numbers faces sides (all-simple (length mesh.points) mesh.faces are.manifold) are.manifold.sides_once are.apart_are are.numbers_are
      (faces-there mesh mode level are.base numbers points_only faces are.numbers_are (points-there mesh mode level are.base (length vertices) points_only point-count is_points) is_faces) is_sides

  -- the sides change no number of points
  pub sides-points : (sides : Built) → sides ≡ sided mesh mode level are.base → sides.level.point_count ≡ length vertices
  sides-points sides is = ap (λ (b : Built). b.level.point_count) is ∙ sym point-count

  -- each has a sharpness
  pub sides-sharp : (sides : Built) → sides ≡ sided mesh mode level are.base → length sides.level.vertex_sharpness ≡ length vertices
  sides-sharp sides is = ap (λ (b : Built). length b.level.vertex_sharpness) is ∙ length-replicate (cut_point_count mesh) Smooth ∙ sym point-count

  -- each point has a mark
  pub sides-marks : (sides : Built) → sides ≡ sided mesh mode level are.base → length sides.complete ≡ length vertices
  sides-marks sides is = ap (λ (b : Built). length b.complete) is ∙ length-replicate (cut_point_count mesh) false ∙ sym point-count

  -- all together
  pub with-all : (sides built : Built) → sides ≡ sided mesh mode level are.base → built ≡ with_points (point_sharpness level vertices kept) (length vertices) sides → built ≡ record { level = cut_level mode mesh; complete = replicate (cut_point_count mesh) true }
  with-all sides built before is = all-there mesh mode level are.base vertices kept sides built are.vertices_are are.kept_are before is

  -- the faces at each point are one fan
  pub all-fans : (built : Built) → built ≡ record { level = cut_level mode mesh; complete = replicate (cut_point_count mesh) true } → AreFans built
  all-fans built is = cut-fans mesh built are.manifold (ap (λ (b : Built). b.level.polygons) is) (ap (λ (b : Built). b.level.point_count) is)
