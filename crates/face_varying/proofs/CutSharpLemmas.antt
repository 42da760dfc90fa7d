-- The sharpness of the sides and points of the cut mesh, as they are set one after another.
use Rattle.std.proofs.Common.{◌≡◌, ◌≢◌, ℕ, ◌<◌, Bool, true, false, ◌||◌, nat_eq, List, [], ◌∷◌, length, map, get_or, slice_set, replicate, arith, refl, ap, sym, ◌∙◌, if◌then◌else◌}
use Rattle.std.specs.List.{list_any, list_all}
use Rattle.std.proofs.lemmas.Bool.{and_parts}
use Rattle.std.proofs.lemmas.List.{get_or-map, length-map, ext_get_or, get_or-set_same, get_or-set_other, length-set}
use Rattle.std.proofs.lemmas.List.Folds.{list_any_at}
use Rattle.std.proofs.lemmas.List.Sums.{passes_at_first}
use Rattle.subdiv_model.specs.Polygons.{Polygon, same_edge, sides_of, has_distinct_sides, polygon_at}
use Rattle.subdiv_model.specs.Edges.{all_sides, edges_of, edge_number, is_boundary}
use Rattle.subdiv_model.specs.Manifold.{is_simple}
use Rattle.subdiv_model.specs.Sharpness.{Sharpness, Smooth, Semi, Infinite, Method, is_sharp}
use Rattle.subdiv_model.specs.Level.{edge_sharpness_of}
use Rattle.subdiv_model.specs.ObjMesh.{ObjMesh}
use Rattle.subdiv_model.specs.Base.{base_level}
use Rattle.subdiv_model.specs.Cut.{channel_points, cut_edge_sharpness}
use Rattle.mesh_laws.proofs.SideLemmas.{same_edge-refl, same_edge-sym}
use Rattle.mesh_laws.proofs.EdgeLemmas.{any-first_named, all-named, position-within, position-alike}
use Rattle.level_topology.specs.Topology.{edge_at, face_edges_of, side_at}
use Rattle.point_fans.specs.Built.{Built, built_of}
use Rattle.level_topology.proofs.NumberingLemmas.{faces-alike}
use Rattle.level_topology.proofs.LawLemmas.{edge-exists, edge-joins, either-number}
use Rattle.texture_laws.specs.CutMesh.{cut_faces, vertex_of, vertices_of}
use Rattle.texture_laws.proofs.ChannelLemmas.{cut-count, cut-corners}
use Rattle.texture_laws.proofs.RenamedLemmas.{renamed-alike}
use Rattle.face_varying.specs.Corners.{is_apart, apart_marks, corner_numbers}
use Rattle.face_varying.specs.Built.{side_sharpness, first_sides, sides_at, sides_before, with_side, with_sides}
use Rattle.face_varying.proofs.CutEdgeLemmas.{side-apart, side-vertices, apart-alike}
use Rattle.face_varying.proofs.SideListLemmas.{map-at, with_own, sides-listed, all-listed}
use Rattle.face_varying.proofs.CutFitLemmas.{face-there}

-- the edges that are done have their sharpness, and the others are smooth
abbrev reached : (ℕ × ℕ → Sharpness) → (ℕ × ℕ → Bool) → ℕ × ℕ → Sharpness
reached target done edge = if done edge then target edge else Smooth

-- a side with a sharpness
abbrev tagged : ℕ × ℕ → Sharpness → (ℕ × ℕ) × Sharpness
tagged side sharpness = (side, sharpness)

-- a sharpness that is not sharp is smooth
not-sharp : (s : Sharpness) → is_sharp s ≡ false → s ≡ Smooth
not-sharp Smooth h = refl
not-sharp (Semi num den) h = absurd (cc)
not-sharp Infinite h = absurd (cc)

module _ (target : ℕ × ℕ → Sharpness) (alike : (s t : ℕ × ℕ) → same_edge s t ≡ true → target s ≡ target t) (points : ℕ) (polygons : List Polygon) (holes : List Bool) (vertices : List Sharpness) (method : Method) (complete : List Bool) where
  abbrev with_edges : List Sharpness → Built
  with_edges sharpness = built_of points polygons holes sharpness vertices method complete

  -- the sharpness of one edge more
  set-edge : (s : ℕ × ℕ) (done : ℕ × ℕ → Bool) → list_any (same_edge s) (edges_of polygons) ≡ true
      → slice_set (map (reached target done) (edges_of polygons)) (edge_number polygons s) (target s) ≡ map (reached target (λ e. same_edge e s || done e)) (edges_of polygons)
  set-edge s done there =
      let edges = edges_of polygons in
      let now : List Sharpness = map (reached target done) edges in
      let n : ℕ = edge_number polygons s in
      let inside : n < length edges = position-within s edges there in
      let size : length (slice_set now n (target s)) ≡ length edges = length-set now n (target s) ∙ length-map edges (reached target done) in
      ext_get_or Smooth (slice_set now n (target s)) (map (reached target (λ e. same_edge e s || done e)) edges) (size ∙ sym (length-map edges (reached target (λ e. same_edge e s || done e)))) (λ k h.
      let k_in : k < length edges = omega (arith, h, size) in
      here k k_in (same_edge (edge_at polygons k) s) refl ∙ sym (get_or-map (reached target (λ e. same_edge e s || done e)) edges k (0, 0) Smooth k_in))
    where
      here : (k : ℕ) → k < length (edges_of polygons) → (b : Bool) → same_edge (edge_at polygons k) s ≡ b
          → get_or (slice_set (map (reached target done) (edges_of polygons)) (edge_number polygons s) (target s)) k Smooth ≡ reached target (λ e. same_edge e s || done e) (edge_at polygons k)
      here k h true e =
          let number : edge_number polygons s ≡ k = either-number polygons k s h (same_edge-sym s (edge_at polygons k) ∙ e) in
          ap (λ (n : ℕ). get_or (slice_set (map (reached target done) (edges_of polygons)) n (target s)) k Smooth) number
          ∙ get_or-set_same (map (reached target done) (edges_of polygons)) k (target s) Smooth (omega (arith, h, length-map (edges_of polygons) (reached target done)))
          ∙ alike s (edge_at polygons k) (same_edge-sym s (edge_at polygons k) ∙ e)
          ∙ ap (λ (b : Bool). if b || done (edge_at polygons k) then target (edge_at polygons k) else Smooth) (sym e)
      here k h false e =
          let found = passes_at_first (same_edge s) (edges_of polygons) (0, 0) (position-within s (edges_of polygons) there) in
          let apart : k ≢ edge_number polygons s = λ number.
          let same : same_edge (edge_at polygons k) s ≡ true = ap (λ (n : ℕ). same_edge (edge_at polygons n) s) number ∙ same_edge-sym (edge_at polygons (edge_number polygons s)) s ∙ found in
          cc in
          get_or-set_other (map (reached target done) (edges_of polygons)) (edge_number polygons s) k (target s) Smooth apart
          ∙ get_or-map (reached target done) (edges_of polygons) k (0, 0) Smooth h
          ∙ ap (λ (b : Bool). if b || done (edge_at polygons k) then target (edge_at polygons k) else Smooth) (sym e)

  -- one side more
  add-one : (s : ℕ × ℕ) (done : ℕ × ℕ → Bool) → list_any (same_edge s) (edges_of polygons) ≡ true
      → with_side (with_own target s) (with_edges (map (reached target done) (edges_of polygons))) ≡ with_edges (map (reached target (λ e. same_edge e s || done e)) (edges_of polygons))
  add-one s done there = here (is_sharp (target s)) refl
    where
      stays : target s ≡ Smooth → (e : ℕ × ℕ) (b c : Bool) → same_edge e s ≡ b → (if c then target e else Smooth) ≡ (if b || c then target e else Smooth)
      stays smooth e false c is = refl
      stays smooth e true true is = refl
      stays smooth e true false is = sym (alike e s is ∙ smooth)

      here : (b : Bool) → is_sharp (target s) ≡ b → with_side (with_own target s) (with_edges (map (reached target done) (edges_of polygons))) ≡ with_edges (map (reached target (λ e. same_edge e s || done e)) (edges_of polygons))
      here true e = rw e (ap with_edges (set-edge s done there))
      here false e =
          let smooth = not-sharp (target s) e in
          rw e (ap with_edges (map-at (0, 0) (reached target done) (reached target (λ t. same_edge t s || done t)) (edges_of polygons) (λ k h.
          stays smooth (edge_at polygons k) (same_edge (edge_at polygons k) s) (done (edge_at polygons k)) refl)))

  -- some sides more
  add-all : (sides : List (ℕ × ℕ)) (done : ℕ × ℕ → Bool) → list_all (λ s. list_any (same_edge s) (edges_of polygons)) sides ≡ true
      → with_sides (map (with_own target) sides) (with_edges (map (reached target done) (edges_of polygons))) ≡ with_edges (map (reached target (λ e. list_any (same_edge e) sides || done e)) (edges_of polygons))
  add-all [] done all = refl
  add-all (s ∷ sides) done all =
      let parts = and_parts (list_any (same_edge s) (edges_of polygons)) (list_all (λ t. list_any (same_edge t) (edges_of polygons)) sides) all in
      ap (with_sides (map (with_own target) sides)) (add-one s done parts.0)
      ∙ add-all sides (λ e. same_edge e s || done e) parts.1
      ∙ ap with_edges (map-at (0, 0) _ _ (edges_of polygons) (λ k h. either (list_any (same_edge (edge_at polygons k)) sides) (same_edge (edge_at polygons k) s) (done (edge_at polygons k)) (target (edge_at polygons k))))
    where
      either : (a b c : Bool) (t : Sharpness) → (if a || (b || c) then t else Smooth) ≡ (if (b || a) || c then t else Smooth)
      either true true c t = refl
      either true false c t = refl
      either false true c t = refl
      either false false c t = refl

  -- all sides with their own sharpness
  pub sides-set : with_sides (map (with_own target) (all_sides polygons)) (with_edges (replicate (length (edges_of polygons)) Smooth)) ≡ with_edges (map target (edges_of polygons))
  sides-set =
      ap (λ (xs : List Sharpness). with_sides (map (with_own target) (all_sides polygons)) (with_edges xs)) (all-smooth (edges_of polygons))
      ∙ add-all (all_sides polygons) (λ e. false) (all-named (all_sides polygons))
      ∙ ap with_edges (map-at (0, 0) (reached target (λ e. list_any (same_edge e) (all_sides polygons) || false)) target (edges_of polygons) (λ k h.
      let there : list_any (same_edge (edge_at polygons k)) (all_sides polygons) ≡ true =
      sym (any-first_named (edge_at polygons k) (all_sides polygons)) ∙ list_any_at (same_edge (edge_at polygons k)) (edges_of polygons) k (0, 0) h (same_edge-refl (edge_at polygons k)) in
      ap (λ (b : Bool). if b || false then target (edge_at polygons k) else Smooth) there))
    where
      all-smooth : (edges : List (ℕ × ℕ)) → replicate (length edges) Smooth ≡ map (reached target (λ e. false)) edges
      all-smooth [] = refl
      all-smooth (e ∷ edges) = ap (λ xs. Smooth ∷ xs) (all-smooth edges)

module _ (mesh : ObjMesh) where
  -- the sharpness of an edge of the cut mesh
  abbrev pub own_sharpness : ℕ × ℕ → Sharpness
  own_sharpness = cut_edge_sharpness (base_level mesh) (channel_points mesh) (cut_faces mesh)

  -- an edge is as sharp in both directions
  pub own-alike : (s t : ℕ × ℕ) → same_edge s t ≡ true → own_sharpness s ≡ own_sharpness t
  own-alike s t h =
      ap (λ (faces : List ℕ). if nat_eq (length faces) 1 then Infinite else edge_sharpness_of (base_level mesh) (vertices_of mesh s)) (faces-alike s t 0 (cut_faces mesh) h)
      ∙ ap (λ (n : ℕ). if is_boundary (cut_faces mesh) t then Infinite else get_or (base_level mesh).edge_sharpness n Smooth) (position-alike (vertices_of mesh s) (vertices_of mesh t) (edges_of mesh.faces) (renamed-alike (vertex_of mesh) s t h))

  module _ (simple : list_all is_simple mesh.faces ≡ true) (once : has_distinct_sides (all_sides mesh.faces) ≡ true) where
    -- the faces at the edge of a side are apart where the side is at the boundary of the cut mesh
    pub side-mark : (f c : ℕ) → c < length (polygon_at mesh.faces f)
        → get_or (apart_marks mesh) (get_or (face_edges_of mesh.faces (polygon_at mesh.faces f)) c 0) false ≡ is_boundary (cut_faces mesh) (side_at (polygon_at (cut_faces mesh) f) c)
    side-mark f c h =
        let e : ℕ = get_or (face_edges_of mesh.faces (polygon_at mesh.faces f)) c 0 in
        get_or-map (is_apart mesh) (edges_of mesh.faces) e (0, 0) false (edge-exists mesh.faces f c h) ∙ sym (apart-alike mesh (side_at (polygon_at mesh.faces f) c) (edge_at mesh.faces e) (edge-joins mesh.faces f c h)) ∙ sym (side-apart mesh simple once f c h)

    -- the sharpness of a side is that of its edge in the cut mesh
    side-own : (f c : ℕ) → c < length (polygon_at mesh.faces f)
        → side_sharpness (base_level mesh) (apart_marks mesh) (get_or (face_edges_of mesh.faces (polygon_at mesh.faces f)) c 0) ≡ own_sharpness (side_at (polygon_at (cut_faces mesh) f) c)
    side-own f c h =
        let s : ℕ × ℕ = side_at (polygon_at mesh.faces f) c in
        let t : ℕ × ℕ = side_at (polygon_at (cut_faces mesh) f) c in
        let e : ℕ = get_or (face_edges_of mesh.faces (polygon_at mesh.faces f)) c 0 in
        let number : edge_number mesh.faces (vertices_of mesh t) ≡ e = ap (edge_number mesh.faces) (side-vertices mesh simple once f c h) ∙ either-number mesh.faces e s (edge-exists mesh.faces f c h) (edge-joins mesh.faces f c h) in
        ap (λ (b : Bool). if b then Infinite else get_or (base_level mesh).edge_sharpness e Smooth) (side-mark f c h)
        ∙ ap (λ (n : ℕ). if is_boundary (cut_faces mesh) t then Infinite else get_or (base_level mesh).edge_sharpness n Smooth) (sym number)

    -- the sides of a face, each with the sharpness of its edge in the cut mesh
    face-own : (f : ℕ) → f < length mesh.faces → sides_at (base_level mesh) (apart_marks mesh) (corner_numbers mesh) f ≡ map (with_own own_sharpness) (sides_of (polygon_at (cut_faces mesh) f))
    face-own f inside =
        let polygon : Polygon = polygon_at (cut_faces mesh) f in
        let edges = face_edges_of mesh.faces (polygon_at mesh.faces f) in
        ap (λ (p : Polygon). first_sides (base_level mesh) (apart_marks mesh) p edges (length p)) (face-there mesh f inside)
        ∙ sides-listed own_sharpness (λ c. (side_at polygon c, side_sharpness (base_level mesh) (apart_marks mesh) (get_or edges c 0))) ((0, 0), Smooth) polygon (λ c h. ap (tagged (side_at polygon c)) (side-own f c (omega (arith, h, cut-corners mesh f))))

    -- the sides of all faces, each with the sharpness of its edge in the cut mesh
    pub sides-own : sides_before (base_level mesh) (apart_marks mesh) (corner_numbers mesh) (length mesh.faces) ≡ map (with_own own_sharpness) (all_sides (cut_faces mesh))
    sides-own = all-listed own_sharpness (sides_at (base_level mesh) (apart_marks mesh) (corner_numbers mesh)) (length mesh.faces) (cut_faces mesh) (cut-count mesh) face-own
