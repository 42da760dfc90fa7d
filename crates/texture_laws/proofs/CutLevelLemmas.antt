-- Level 0 of the cut mesh against level 0 of the mesh.
use Rattle.std.proofs.Common.{◌≡◌, ℕ, zero, suc, ◌<◌, Bool, true, false, ◌&&◌, nat_eq, List, [], ◌∷◌, length, map, get_or, arith, refl, ap, sym, ◌∙◌, if◌then◌else◌, IsTrue}
use Rattle.std.specs.List.{list_any, list_all, position_or_len, range_with_len}
use Rattle.std.proofs.Math.Numerals.{one-add}
use Rattle.std.proofs.lemmas.Bool.Decides.{nat_tests}
use Rattle.std.proofs.lemmas.Bool.{and_parts, and_from, lt-ltb, eqb-true, eq-eqb, cond-true, cond-false, cond_both}
use Rattle.std.proofs.lemmas.List.{length-map}
use Rattle.std.proofs.lemmas.List.Elements.{filter_agree}
use Rattle.std.proofs.lemmas.List.FromFn.{length-map-range_with_len, get_or-map-range_with_len}
use Rattle.std.proofs.lemmas.Simd.{map-map}
use Rattle.subdiv_model.specs.Lists.{last_of}
use Rattle.subdiv_model.specs.Polygons.{Polygon, same_edge, sides_of, has_edge}
use Rattle.subdiv_model.specs.Edges.{all_sides, edges_of, edge_number, faces_of_edge, is_boundary}
use Rattle.subdiv_model.specs.Sharpness.{Sharpness, Smooth, Infinite, is_proper_sharpness}
use Rattle.subdiv_model.specs.Level.{edge_sharpness_of, vertex_sharpness_of, is_well_formed}
use Rattle.subdiv_model.specs.ObjMesh.{ObjMesh}
use Rattle.subdiv_model.specs.Base.{tagged_edge, base_edge_sharpness, base_level}
use Rattle.subdiv_model.specs.Cut.{SeamMode, SmoothSeams, stays_sharp, channel_points, cut_edge_sharpness, cut_vertex_sharpness, cut_level}
use Rattle.mesh_laws.proofs.SideLemmas.{same_edge-alike}
use Rattle.mesh_laws.proofs.EdgeLemmas.{all-named, position-alike}
use Rattle.mesh_laws.proofs.ClosedLemmas.{first_named-all}
use Rattle.mesh_laws.proofs.ChildCountLemmas.{is_inside, sides-inside}
use Rattle.texture_laws.specs.CutMesh.{cut_faces, cut_point_count, vertex_of, vertices_of}
use Rattle.texture_laws.specs.Seamless.{IsSeamlessManifold}
use Rattle.texture_laws.proofs.ChannelLemmas.{cut-count, cut-over, cut-whole}
use Rattle.texture_laws.proofs.JoinLemmas.{places-agree, edge-same}
use Rattle.texture_laws.proofs.SeamlessLemmas.{seamless-once}
use Rattle.texture_laws.proofs.RenamedLemmas.{renamed-alike, renamed-edges, renamed-faces, renamed-number, renamed-listed}
use Rattle.mesh_laws.proofs.ChildFaceLemmas.{both-all}

-- an item listed for each edge in order is at the number of the edge
listed-at : {Y : Type 0} (f : ℕ × ℕ → Y) (d : Y) → ((s t : ℕ × ℕ) → same_edge s t ≡ true → f s ≡ f t) → (edge : ℕ × ℕ) (edges : List (ℕ × ℕ)) → list_any (same_edge edge) edges ≡ true → get_or (map f edges) (position_or_len (same_edge edge) edges) d ≡ f edge
listed-at f d alike edge [] there = absurd (cc)
listed-at f d alike edge (e ∷ edges) there = here (same_edge edge e) refl (λ k. listed-at f d alike edge edges k)
  where
    here : (b : Bool) → same_edge edge e ≡ b → (list_any (same_edge edge) edges ≡ true → get_or (map f edges) (position_or_len (same_edge edge) edges) d ≡ f edge) → get_or (map f (e ∷ edges)) (position_or_len (same_edge edge) (e ∷ edges)) d ≡ f edge
    here true is behind = rw is (sym (alike edge e is))
    here false is behind = rw (is, one-add) (behind (rw is at there))

boundary-alike : (polygons : List Polygon) (s t : ℕ × ℕ) → same_edge s t ≡ true → is_boundary polygons s ≡ is_boundary polygons t
boundary-alike polygons s t h = ap (λ (faces : List ℕ). nat_eq (length faces) 1) (places-agree (has_edge s) (has_edge t) (λ polygon. edge-same s t h (sides_of polygon)) 0 polygons)

tagged-alike : (creases : List ((ℕ × ℕ) × Sharpness)) (s t : ℕ × ℕ) → same_edge s t ≡ true → tagged_edge creases s ≡ tagged_edge creases t
tagged-alike creases s t h = ap (λ (kept : List ((ℕ × ℕ) × Sharpness)). last_of Smooth (map (λ crease. crease.1) kept)) (filter_agree (λ crease. same_edge s crease.0) (λ crease. same_edge t crease.0) (λ crease. same_edge-alike s t crease.0 h) creases)

twice : (b : Bool) (s t : Sharpness) → (if b then s else (if b then s else t)) ≡ (if b then s else t)
twice true s t = refl
twice false s t = refl

all-or : {X : Type 0} (p : X → Bool) (d : X) → p d ≡ true → (n : ℕ) (xs : List X) → list_all p xs ≡ true → p (get_or xs n d) ≡ true
all-or p d given n [] all = given
all-or p d given zero (x ∷ xs) all = (and_parts (p x) (list_all p xs) all).0
all-or p d given (suc n) (x ∷ xs) all = all-or p d given n xs (and_parts (p x) (list_all p xs) all).1

all-mapped : {X Y : Type 0} (p : Y → Bool) (f : X → Y) → ((x : X) → p (f x) ≡ true) → (xs : List X) → list_all p (map f xs) ≡ true
all-mapped p f each [] = refl
all-mapped p f each (x ∷ xs) = and_from _ _ (each x) (all-mapped p f each xs)

second-and-last-two : (a b c d e f : Bool) → (a && b && c && d && e && f) ≡ true → (b ≡ true) × (e ≡ true) × (f ≡ true)
second-and-last-two a b c d e f h = (grind (arith, nat_tests), grind (arith, nat_tests), grind (arith, nat_tests))

mapped-agree : {Y : Type 0} (f g : ℕ × ℕ → Y) (q : ℕ × ℕ → Bool) → ((s : ℕ × ℕ) → q s ≡ true → f s ≡ g s) → (sides : List (ℕ × ℕ)) → list_all q sides ≡ true → map f sides ≡ map g sides
mapped-agree f g q alike [] all = refl
mapped-agree f g q alike (s ∷ sides) all =
    let parts = and_parts (q s) (list_all q sides) all in
    rw (alike s parts.0, mapped-agree f g q alike sides parts.1) refl

module _ (mesh : ObjMesh) where
  base-alike : (s t : ℕ × ℕ) → same_edge s t ≡ true → base_edge_sharpness mesh s ≡ base_edge_sharpness mesh t
  base-alike s t h =
      ap (λ (b : Bool). if b then Infinite else tagged_edge mesh.creases s) (boundary-alike mesh.faces s t h) ∙ ap (λ (x : Sharpness). if is_boundary mesh.faces t then Infinite else x) (tagged-alike mesh.creases s t h)

  base-listed : (edge : ℕ × ℕ) → list_any (same_edge edge) (edges_of mesh.faces) ≡ true → edge_sharpness_of (base_level mesh) edge ≡ base_edge_sharpness mesh edge
  base-listed edge there = listed-at (base_edge_sharpness mesh) Smooth base-alike edge (edges_of mesh.faces) there

  cut-alike : (s t : ℕ × ℕ) → same_edge s t ≡ true → cut_edge_sharpness (base_level mesh) (channel_points mesh) (cut_faces mesh) s ≡ cut_edge_sharpness (base_level mesh) (channel_points mesh) (cut_faces mesh) t
  cut-alike s t h =
      ap (λ (b : Bool). if b then Infinite else edge_sharpness_of (base_level mesh) (vertices_of mesh s)) (boundary-alike (cut_faces mesh) s t h)
      ∙ ap (λ (n : ℕ). if is_boundary (cut_faces mesh) t then Infinite else get_or (base_level mesh).edge_sharpness n Smooth) (position-alike (vertices_of mesh s) (vertices_of mesh t) (edges_of mesh.faces) (renamed-alike (vertex_of mesh) s t h))

  cut-listed : (mode : SeamMode) (edge : ℕ × ℕ) → list_any (same_edge edge) (edges_of (cut_faces mesh)) ≡ true → edge_sharpness_of (cut_level mode mesh) edge ≡ cut_edge_sharpness (base_level mesh) (channel_points mesh) (cut_faces mesh) edge
  cut-listed mode edge there = listed-at (cut_edge_sharpness (base_level mesh) (channel_points mesh) (cut_faces mesh)) Smooth cut-alike edge (edges_of (cut_faces mesh)) there

  -- a boundary edge of the cut mesh is infinitely sharp, and another edge is as sharp as its edge in the mesh
  pub cut-boundary : (mode : SeamMode) (edge : ℕ × ℕ) → IsTrue (list_any (same_edge edge) (edges_of (cut_faces mesh))) → IsTrue (is_boundary (cut_faces mesh) edge) → edge_sharpness_of (cut_level mode mesh) edge ≡ Infinite
  cut-boundary mode edge there h = cut-listed mode edge there ∙ cond-true _ _ _ h

  pub cut-inside : (mode : SeamMode) (edge : ℕ × ℕ) → IsTrue (list_any (same_edge edge) (edges_of (cut_faces mesh))) → is_boundary (cut_faces mesh) edge ≡ false → edge_sharpness_of (cut_level mode mesh) edge ≡ edge_sharpness_of (base_level mesh) (vertices_of mesh edge)
  cut-inside mode edge there h = cut-listed mode edge there ∙ cond-false _ _ _ h

  cut-vertex : (mode : SeamMode) (p : ℕ) → p < cut_point_count mesh → vertex_sharpness_of (cut_level mode mesh) p ≡ cut_vertex_sharpness mode (base_level mesh) (channel_points mesh) (cut_faces mesh) p
  cut-vertex mode p h =
      get_or-map-range_with_len (cut_vertex_sharpness mode (base_level mesh) (channel_points mesh) (cut_faces mesh)) 0 (cut_point_count mesh) p p Smooth h (omega arith)

  -- a point that the mode keeps sharp is infinitely sharp, and another is as sharp as its vertex
  pub cut-vertex-sharp : (mode : SeamMode) (p : ℕ) → p < cut_point_count mesh → IsTrue (stays_sharp mode (cut_faces mesh) p) → vertex_sharpness_of (cut_level mode mesh) p ≡ Infinite
  cut-vertex-sharp mode p inside h = cut-vertex mode p inside ∙ cond-true _ _ _ h

  pub cut-vertex-plain : (mode : SeamMode) (p : ℕ) → p < cut_point_count mesh → stays_sharp mode (cut_faces mesh) p ≡ false → vertex_sharpness_of (cut_level mode mesh) p ≡ vertex_sharpness_of (base_level mesh) (vertex_of mesh p)
  cut-vertex-plain mode p inside h = cut-vertex mode p inside ∙ cond-false _ _ _ h

  pub cut-vertex-smooth : (p : ℕ) → p < cut_point_count mesh → vertex_sharpness_of (cut_level SmoothSeams mesh) p ≡ vertex_sharpness_of (base_level mesh) (vertex_of mesh p)
  cut-vertex-smooth p inside = cut-vertex SmoothSeams p inside

  proper-edge : list_all is_proper_sharpness (base_level mesh).edge_sharpness ≡ true → (edge : ℕ × ℕ) → is_proper_sharpness (cut_edge_sharpness (base_level mesh) (channel_points mesh) (cut_faces mesh) edge) ≡ true
  proper-edge all edge =
      cond_both (is_boundary (cut_faces mesh) edge) Infinite (edge_sharpness_of (base_level mesh) (vertices_of mesh edge)) (λ s. is_proper_sharpness s ≡ true) (λ h. refl)
      (λ h. all-or is_proper_sharpness Smooth refl (edge_number mesh.faces (vertices_of mesh edge)) (base_level mesh).edge_sharpness all)

  proper-vertex : list_all is_proper_sharpness (base_level mesh).vertex_sharpness ≡ true → (mode : SeamMode) (p : ℕ) → is_proper_sharpness (cut_vertex_sharpness mode (base_level mesh) (channel_points mesh) (cut_faces mesh) p) ≡ true
  proper-vertex all mode p =
      cond_both (stays_sharp mode (cut_faces mesh) p) Infinite (vertex_sharpness_of (base_level mesh) (vertex_of mesh p)) (λ s. is_proper_sharpness s ≡ true) (λ h. refl)
      (λ h. all-or is_proper_sharpness Smooth refl (vertex_of mesh p) (base_level mesh).vertex_sharpness all)

  -- level 0 of the cut mesh is well formed where that of the mesh is
  pub cut-well-formed : (mode : SeamMode) → IsTrue (is_well_formed (base_level mesh)) → IsTrue (is_well_formed (cut_level mode mesh))
  cut-well-formed mode h =
      let base = base_level mesh in
      let polygons = cut_faces mesh in
      let parts = second-and-last-two _ _ _ _ _ _ h in
      and_from _ _ (and_from _ _ (and_from _ _ (and_from _ _ (and_from _ _
      (cut-over mesh)
      (eq-eqb _ _ (eqb-true _ _ parts.0 ∙ sym (cut-count mesh))))
      (eq-eqb _ _ (length-map (edges_of polygons) (cut_edge_sharpness base (channel_points mesh) polygons))))
      (eq-eqb _ _ (length-map-range_with_len (cut_vertex_sharpness mode base (channel_points mesh) polygons) 0 (cut_point_count mesh))))
      (all-mapped is_proper_sharpness (cut_edge_sharpness base (channel_points mesh) polygons) (proper-edge parts.1) (edges_of polygons)))
      (all-mapped is_proper_sharpness (cut_vertex_sharpness mode base (channel_points mesh) polygons) (proper-vertex parts.2 mode) (range_with_len 0 (cut_point_count mesh)))

  module _ (is : IsSeamlessManifold mesh) where
    seamless-one : (p q : ℕ) → p < cut_point_count mesh → q < cut_point_count mesh → vertex_of mesh p ≡ vertex_of mesh q → p ≡ q
    seamless-one = seamless-once mesh is

    pub seamless-edges : map (vertices_of mesh) (edges_of (cut_faces mesh)) ≡ edges_of mesh.faces
    seamless-edges =
        sym (renamed-edges (vertex_of mesh) (cut_point_count mesh) seamless-one (cut_faces mesh) (cut-over mesh)) ∙ ap edges_of (cut-whole mesh)

    pub seamless-faces : (s : ℕ × ℕ) → is_inside (cut_point_count mesh) s ≡ true → faces_of_edge (cut_faces mesh) s ≡ faces_of_edge mesh.faces (vertices_of mesh s)
    seamless-faces s h =
        sym (renamed-faces (vertex_of mesh) (cut_point_count mesh) seamless-one (cut_faces mesh) (cut-over mesh) s h)
        ∙ ap (λ (polygons : List Polygon). faces_of_edge polygons (vertices_of mesh s)) (cut-whole mesh)

    pub seamless-number : (s : ℕ × ℕ) → is_inside (cut_point_count mesh) s ≡ true → edge_number (cut_faces mesh) s ≡ edge_number mesh.faces (vertices_of mesh s)
    seamless-number s h =
        sym (renamed-number (vertex_of mesh) (cut_point_count mesh) seamless-one (cut_faces mesh) (cut-over mesh) s h)
        ∙ ap (λ (polygons : List Polygon). edge_number polygons (vertices_of mesh s)) (cut-whole mesh)

    pub seamless-listed : (s : ℕ × ℕ) → is_inside (cut_point_count mesh) s ≡ true → list_any (same_edge (vertices_of mesh s)) (edges_of mesh.faces) ≡ list_any (same_edge s) (edges_of (cut_faces mesh))
    seamless-listed s h =
        ap (λ (polygons : List Polygon). list_any (same_edge (vertices_of mesh s)) (edges_of polygons)) (sym (cut-whole mesh))
        ∙ renamed-listed (vertex_of mesh) (cut_point_count mesh) seamless-one (cut_faces mesh) (cut-over mesh) s h

    one-edge : (s : ℕ × ℕ) → (is_inside (cut_point_count mesh) s && list_any (same_edge s) (edges_of (cut_faces mesh))) ≡ true → cut_edge_sharpness (base_level mesh) (channel_points mesh) (cut_faces mesh) s ≡ base_edge_sharpness mesh (vertices_of mesh s)
    one-edge s h =
        let parts = and_parts (is_inside (cut_point_count mesh) s) (list_any (same_edge s) (edges_of (cut_faces mesh))) h in
        let base : edge_sharpness_of (base_level mesh) (vertices_of mesh s) ≡ base_edge_sharpness mesh (vertices_of mesh s) = base-listed (vertices_of mesh s) (seamless-listed s parts.0 ∙ parts.1) in
        ap (λ (faces : List ℕ). if nat_eq (length faces) 1 then Infinite else edge_sharpness_of (base_level mesh) (vertices_of mesh s)) (seamless-faces s parts.0)
        ∙ ap (λ (x : Sharpness). if is_boundary mesh.faces (vertices_of mesh s) then Infinite else x) base
        ∙ twice (is_boundary mesh.faces (vertices_of mesh s)) Infinite (tagged_edge mesh.creases (vertices_of mesh s))

    -- the edges of the cut mesh are as sharp as those of the mesh, in the same order
    pub seamless-sharpness : (cut_level SmoothSeams mesh).edge_sharpness ≡ (base_level mesh).edge_sharpness
    seamless-sharpness =
        let polygons = cut_faces mesh in
        mapped-agree (cut_edge_sharpness (base_level mesh) (channel_points mesh) polygons) (λ s. base_edge_sharpness mesh (vertices_of mesh s)) (λ s. is_inside (cut_point_count mesh) s && list_any (same_edge s) (edges_of polygons)) one-edge (edges_of polygons)
        (both-all (is_inside (cut_point_count mesh)) (λ s. list_any (same_edge s) (edges_of polygons)) (edges_of polygons) (first_named-all (is_inside (cut_point_count mesh)) (all_sides polygons) (sides-inside (cut_point_count mesh) polygons (cut-over mesh)))
        (first_named-all (λ s. list_any (same_edge s) (edges_of polygons)) (all_sides polygons) (all-named (all_sides polygons))))
        ∙ sym (map-map (base_edge_sharpness mesh) (vertices_of mesh) (edges_of polygons))
        ∙ ap (map (base_edge_sharpness mesh)) seamless-edges

    pub seamless-edge : (p q : ℕ) → p < cut_point_count mesh → q < cut_point_count mesh → edge_sharpness_of (cut_level SmoothSeams mesh) (p, q) ≡ edge_sharpness_of (base_level mesh) (vertices_of mesh (p, q))
    seamless-edge p q hp hq =
        ap (λ (n : ℕ). get_or (cut_level SmoothSeams mesh).edge_sharpness n Smooth) (seamless-number (p, q) (and_from _ _ (lt-ltb _ _ hp) (lt-ltb _ _ hq)))
        ∙ ap (λ (xs : List Sharpness). get_or xs (edge_number mesh.faces (vertices_of mesh (p, q))) Smooth) seamless-sharpness

    pub seamless-edge-faces : (p q : ℕ) → p < cut_point_count mesh → q < cut_point_count mesh → faces_of_edge (cut_faces mesh) (p, q) ≡ faces_of_edge mesh.faces (vertices_of mesh (p, q))
    seamless-edge-faces p q hp hq = seamless-faces (p, q) (and_from _ _ (lt-ltb _ _ hp) (lt-ltb _ _ hq))
