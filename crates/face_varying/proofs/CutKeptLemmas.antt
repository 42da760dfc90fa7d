-- The points of the cut mesh that each mode keeps sharp.
use Rattle.std.proofs.Common.{◌≡◌, ℕ, ◌+◌, ◌<◌, Bool, true, false, ◌&&◌, ◌||◌, nat_eq, List, length, map, get_or, replicate, arith, ap, sym, ◌∙◌, ◌⊎◌, inl, inr}
use Rattle.std.specs.List.{list_any, count_by, sum_by, range_with_len, position_or_len}
use Rattle.std.proofs.lemmas.Bool.Decides.{nat_tests}
use Rattle.std.proofs.lemmas.List.{length-replicate, get_or-replicate}
use Rattle.std.proofs.lemmas.List.FromFn.{length-map-range_with_len, get_or-map-range_with_len}
use Rattle.subdiv_model.specs.Polygons.{Polygon, same_side, same_edge, sides_of, polygon_at}
use Rattle.subdiv_model.specs.Edges.{all_sides, is_boundary, has_end}
use Rattle.subdiv_model.specs.Manifold.{IsManifold}
use Rattle.subdiv_model.specs.Level.{Level}
use Rattle.subdiv_model.specs.ObjMesh.{ObjMesh}
use Rattle.subdiv_model.specs.Base.{base_level, is_at_boundary}
use Rattle.subdiv_model.specs.Cut.{SmoothSeams, CornerSeams, BoundarySeams, channel_point, channel_points, stays_sharp}
use Rattle.mesh_laws.proofs.Laws.{all-simple}
use Rattle.level_topology.specs.Topology.{face_edges_of, side_at, corner_after}
use Rattle.level_topology.proofs.NumberingLemmas.{faces-alike}
use Rattle.level_topology.proofs.LawLemmas.{edges-as-many}
use Rattle.mesh_check.proofs.BaseMarkLemmas.{corners-faces}
use Rattle.texture_laws.specs.CutMesh.{cut_faces, cut_point_count}
use Rattle.texture_laws.proofs.ChannelLemmas.{any-mapped, cut-count, cut-corners}
use Rattle.texture_laws.proofs.CutFanLemmas.{cut-manifold}
use Rattle.texture_laws.proofs.JoinLemmas.{edge-cases}
use Rattle.face_varying.specs.Corners.{apart_marks, corner_numbers}
use Rattle.face_varying.specs.CornerPlaces.{start_of}
use Rattle.face_varying.specs.Kept.{side_from, ends_at, ends_before, with_ends}
use Rattle.face_varying.proofs.EdgeSideLemmas.{after-within}
use Rattle.face_varying.proofs.SideListLemmas.{with_own, sides-listed, all-listed}
use Rattle.face_varying.proofs.CutFitLemmas.{corner-there}
use Rattle.face_varying.proofs.CutSharpLemmas.{side-mark}
use Rattle.face_varying.proofs.KeptLemmas.{marks-are, ends-length, ends-marked, corners-counted, sides-edges}

-- two numbers as a pair
abbrev pair : ℕ → ℕ → ℕ × ℕ
pair a b = (a, b)

-- a side with its mark
abbrev marked : ℕ × ℕ → Bool → (ℕ × ℕ) × Bool
marked side mark = (side, mark)

-- an edge has the same ends in both directions
end-alike : (v : ℕ) (s t : ℕ × ℕ) → same_edge s t ≡ true → has_end v s ≡ has_end v t
end-alike v s t h = here (edge-cases s t h)
  where
    turn : (a b : Bool) → (a || b) ≡ (b || a)
    turn a b = grind (arith, nat_tests)

    here : (s ≡ t) ⊎ (s ≡ (t.1, t.0)) → has_end v s ≡ has_end v t
    here (inl same) = ap (has_end v) same
    here (inr turned) = ap (has_end v) turned ∙ turn (nat_eq v t.1) (nat_eq v t.0)

module _ (mesh : ObjMesh) (points : ℕ) (count : points ≡ cut_point_count mesh) where
  -- without a mode none is kept sharp
  pub kept-smooth : (marks : List Bool) → marks ≡ replicate points false → marks ≡ map (stays_sharp SmoothSeams (cut_faces mesh)) (range_with_len 0 (cut_point_count mesh))
  kept-smooth marks are =
      marks-are (stays_sharp SmoothSeams (cut_faces mesh)) (cut_point_count mesh) marks (ap length are ∙ length-replicate points false ∙ count) (λ p h.
      ap (λ (ms : List Bool). get_or ms p false) are ∙ get_or-replicate points p false false (omega (arith, h, count)))

  module _ (manifold : IsManifold (length mesh.points) mesh.faces) where
    -- the corners at a point are its faces
    point-corners : (p : ℕ) → count_by (nat_eq p) (corner_numbers mesh) ≡ sum_by (count_by (nat_eq p)) (cut_faces mesh)
    point-corners p = corners-counted (nat_eq p) (channel_point mesh) (λ point. position_or_len (same_side point) (channel_points mesh)) 0 mesh.faces

    -- the points of one corner are those of one face
    pub kept-corners : (numbers : List ℕ) (marks : List Bool) → numbers ≡ corner_numbers mesh → marks ≡ map (λ p. nat_eq (count_by (nat_eq p) numbers) 1) (range_with_len 0 points)
        → marks ≡ map (stays_sharp CornerSeams (cut_faces mesh)) (range_with_len 0 (cut_point_count mesh))
    kept-corners numbers marks are is =
        let simple = all-simple (cut_point_count mesh) (cut_faces mesh) (cut-manifold mesh manifold.simple manifold.sides_once) in
        let single : ℕ → Bool = λ p. nat_eq (count_by (nat_eq p) numbers) 1 in
        marks-are (stays_sharp CornerSeams (cut_faces mesh)) (cut_point_count mesh) marks (ap length is ∙ length-map-range_with_len single 0 points ∙ count) (λ p h.
        ap (λ (ms : List Bool). get_or ms p false) is
        ∙ get_or-map-range_with_len single 0 points p p false (omega (arith, h, count)) (omega arith)
        ∙ ap (λ (ns : List ℕ). nat_eq (count_by (nat_eq p) ns) 1) are
        ∙ ap (λ (n : ℕ). nat_eq n 1) (point-corners p ∙ sym (corners-faces p 0 (cut_faces mesh) simple)))

    -- a side by the places of its corners is that of the face
    side-from : (f c : ℕ) → f < length mesh.faces → c < length (polygon_at mesh.faces f) → side_from (corner_numbers mesh) (start_of mesh.faces f) (length (polygon_at (cut_faces mesh) f)) c ≡ side_at (polygon_at (cut_faces mesh) f) c
    side-from f c inside corner =
        let size = cut-corners mesh f in
        let after : ℕ = corner_after (length (polygon_at (cut_faces mesh) f)) c in
        let within : after < length (polygon_at mesh.faces f) = omega (arith, after-within (length (polygon_at (cut_faces mesh) f)) c (omega (arith, corner, size)), size) in
        ap (λ (a : ℕ). pair a (get_or (corner_numbers mesh) (start_of mesh.faces f + after) 0)) (corner-there mesh f c inside corner) ∙ ap (pair (get_or (polygon_at (cut_faces mesh) f) c 0)) (corner-there mesh f after inside within)

    -- the sides of a face by the places of its corners are marked where they are at the boundary
    face-ends : (f : ℕ) → f < length mesh.faces → ends_at (base_level mesh) (apart_marks mesh) (corner_numbers mesh) f ≡ map (with_own (is_boundary (cut_faces mesh))) (sides_of (polygon_at (cut_faces mesh) f))
    face-ends f inside =
        let polygon : Polygon = polygon_at (cut_faces mesh) f in
        let edges = face_edges_of mesh.faces (polygon_at mesh.faces f) in
        let size : length edges ≡ length polygon = edges-as-many mesh.faces f ∙ sym (cut-corners mesh f) in
        ap (λ (n : ℕ). map (λ c. marked (side_from (corner_numbers mesh) (start_of mesh.faces f) n c) (get_or (apart_marks mesh) (get_or edges c 0) false)) (range_with_len 0 n)) size
        ∙ sides-listed (is_boundary (cut_faces mesh)) (λ c. marked (side_from (corner_numbers mesh) (start_of mesh.faces f) (length polygon) c) (get_or (apart_marks mesh) (get_or edges c 0) false)) (marked (0, 0) false) polygon (λ c h.
        let corner : c < length (polygon_at mesh.faces f) = omega (arith, h, cut-corners mesh f) in
        ap (λ (s : ℕ × ℕ). marked s (get_or (apart_marks mesh) (get_or edges c 0) false)) (side-from f c inside corner)
        ∙ ap (marked (side_at polygon c)) (side-mark mesh (all-simple (length mesh.points) mesh.faces manifold) manifold.sides_once f c corner))

    -- the sides of all faces with their marks
    sides-ends : ends_before (base_level mesh) (apart_marks mesh) (corner_numbers mesh) (length mesh.faces) ≡ map (with_own (is_boundary (cut_faces mesh))) (all_sides (cut_faces mesh))
    sides-ends = all-listed (is_boundary (cut_faces mesh)) (ends_at (base_level mesh) (apart_marks mesh) (corner_numbers mesh)) (length mesh.faces) (cut_faces mesh) (cut-count mesh) face-ends

    -- a point is an end of such a side where it is at the boundary
    boundary-end : (p : ℕ) → list_any (λ side. side.1 && has_end p side.0) (map (with_own (is_boundary (cut_faces mesh))) (all_sides (cut_faces mesh))) ≡ is_at_boundary (cut_faces mesh) p
    boundary-end p =
        any-mapped (λ (side : (ℕ × ℕ) × Bool). side.1 && has_end p side.0) (with_own (is_boundary (cut_faces mesh))) (all_sides (cut_faces mesh))
        ∙ sym (sides-edges (λ s. is_boundary (cut_faces mesh) s && has_end p s) (all_sides (cut_faces mesh)) (λ s t same.
        ap (λ (faces : List ℕ). nat_eq (length faces) 1 && has_end p s) (faces-alike s t 0 (cut_faces mesh) same) ∙ ap (λ (b : Bool). is_boundary (cut_faces mesh) t && b) (end-alike p s t same)))

    -- the ends of the sides at which faces are apart are the points at the boundary
    pub kept-ends : (level : Level) (apart : List Bool) (numbers : List ℕ) (marks : List Bool) → level ≡ base_level mesh → apart ≡ apart_marks mesh → numbers ≡ corner_numbers mesh
        → marks ≡ with_ends (ends_before level apart numbers (length level.polygons)) (replicate points false) → marks ≡ map (stays_sharp BoundarySeams (cut_faces mesh)) (range_with_len 0 (cut_point_count mesh))
    kept-ends level apart numbers marks base are_apart are is =
        let sides = map (with_own (is_boundary (cut_faces mesh))) (all_sides (cut_faces mesh)) in
        let whole : marks ≡ with_ends sides (replicate points false) =
        is
        ∙ ap (λ (l : Level). with_ends (ends_before l apart numbers (length l.polygons)) (replicate points false)) base
        ∙ ap (λ (bs : List Bool). with_ends (ends_before (base_level mesh) bs numbers (length mesh.faces)) (replicate points false)) are_apart
        ∙ ap (λ (ns : List ℕ). with_ends (ends_before (base_level mesh) (apart_marks mesh) ns (length mesh.faces)) (replicate points false)) are
        ∙ ap (λ (ss : List ((ℕ × ℕ) × Bool)). with_ends ss (replicate points false)) sides-ends in
        marks-are (stays_sharp BoundarySeams (cut_faces mesh)) (cut_point_count mesh) marks (ap length whole ∙ ends-length sides (replicate points false) ∙ length-replicate points false ∙ count) (λ p h.
        ap (λ (ms : List Bool). get_or ms p false) whole
        ∙ ends-marked sides (replicate points false) p (omega (arith, h, count, length-replicate points false))
        ∙ ap (λ (b : Bool). b || list_any (λ side. side.1 && has_end p side.0) sides) (get_or-replicate points p false false (omega (arith, h, count)))
        ∙ boundary-end p)
