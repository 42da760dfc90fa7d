-- Level 0 out of its parts: the faces, the creases, the boundary, the corner tags, and the corners of one face.
use Rattle.std.proofs.Common.{◌≡◌, ℕ, zero, suc, ◌+◌, ◌<◌, Bool, true, false, ◌&&◌, nat_eq, nat_lt, List, [], ◌∷◌, length, map, get_or, replicate, arith, refl, ap, sym, ◌∙◌, if◌then◌else◌}
use Rattle.std.specs.List.{All, filter, list_any, list_all, range_with_len, enumerate_from}
use Rattle.std.proofs.lemmas.Bool.Decides.{nat_tests}
use Rattle.std.proofs.lemmas.Bool.{eq-eqb}
use Rattle.std.proofs.lemmas.List.{get_or-map, length-map}
use Rattle.std.proofs.lemmas.List.Sums.{list_all-from_AllPass}
use Rattle.std.proofs.lemmas.List.Folds.{list_any_at}
use Rattle.std.proofs.lemmas.List.FromFn.{length-range_with_len, get_or-range_with_len}
use Rattle.number_laws.proofs.ListLemmas.{any-both}
use Rattle.subdiv_model.specs.Polygons.{same_edge, is_among}
use Rattle.subdiv_model.specs.Edges.{all_sides, edges_of, is_boundary}
use Rattle.subdiv_model.specs.Sharpness.{Sharpness, Smooth, Infinite}
use Rattle.subdiv_model.specs.ObjMesh.{ObjMesh}
use Rattle.subdiv_model.specs.Base.{base_level, base_edge_sharpness, base_vertex_sharpness, tagged_edge, tagged_vertex, is_end_corner, is_base_hole}
use Rattle.subdiv_model.specs.Manifold.{has_one_fan}
use Rattle.mesh_laws.proofs.ChildClosedLemmas.{numbered-length}
use Rattle.raw_mesh.specs.View.{corner_tag_of}
use Rattle.raw_mesh.specs.declared.tags.CornerTag.{CornerTag}
use Rattle.point_fans.specs.Built.{Built, built_of, AreFans}
use Rattle.mesh_check.specs.Base.{IsFit, smooth_built, with_edge_tags, with_vertex_tags, infinite, tagged_built, all_complete}
use Rattle.mesh_check.proofs.BaseFaceLemmas.{fit-fans}
use Rattle.mesh_check.proofs.BaseEdgeLemmas.{boundary-named}
use Rattle.mesh_check.proofs.BaseTagLemmas.{map-alike, last_tag, last-infinite, edge-tags, vertex-tags}

-- the mesh with a sharpness for each edge and each vertex, and a mark for each point
abbrev pub stage : ObjMesh → List Bool → (ℕ × ℕ → Sharpness) → (ℕ → Sharpness) → List Bool → Built
stage mesh holes edge vertex complete =
    built_of (length mesh.points) mesh.faces holes (map edge (edges_of mesh.faces)) (map vertex (range_with_len 0 (length mesh.points))) mesh.method complete

abbrev pub all_smooth : {K : Type 0} → K → Sharpness
all_smooth k = Smooth

smooth-map : {K : Type 0} (keys : List K) → replicate (length keys) Smooth ≡ map all_smooth keys
smooth-map [] = refl
smooth-map (k ∷ keys) = ap (λ xs. Smooth ∷ xs) (smooth-map keys)

-- only the faces, all smooth
pub faced : (mesh : ObjMesh) (holes : List Bool) → smooth_built (length mesh.points) mesh.method mesh.faces holes ≡ stage mesh holes all_smooth all_smooth (replicate (length mesh.points) false)
faced mesh holes =
    let n = length mesh.points in
    ap (λ xs. built_of n mesh.faces holes xs (replicate n Smooth) mesh.method (replicate n false)) (smooth-map (edges_of mesh.faces))
    ∙ ap (λ xs. built_of n mesh.faces holes (map all_smooth (edges_of mesh.faces)) xs mesh.method (replicate n false))
    (ap (λ k. replicate k Smooth) (sym (length-range_with_len 0 n)) ∙ smooth-map (range_with_len 0 n))

-- the creases in their order
pub creased : (mesh : ObjMesh) (holes : List Bool) (vertex : ℕ → Sharpness) (complete : List Bool)
    → with_edge_tags mesh.creases (stage mesh holes all_smooth vertex complete) ≡ stage mesh holes (tagged_edge mesh.creases) vertex complete
creased mesh holes vertex complete =
    edge-tags (length mesh.points) mesh.faces holes (map vertex (range_with_len 0 (length mesh.points))) mesh.method complete mesh.creases all_smooth

-- a boundary edge is infinitely sharp, whatever its tags
pub bounded : (mesh : ObjMesh) (holes : List Bool) (vertex : ℕ → Sharpness) (complete : List Bool)
    → with_edge_tags (infinite (filter (is_boundary mesh.faces) (all_sides mesh.faces))) (stage mesh holes (tagged_edge mesh.creases) vertex complete) ≡ stage mesh holes (base_edge_sharpness mesh) vertex complete
bounded mesh holes vertex complete =
    let sides = filter (is_boundary mesh.faces) (all_sides mesh.faces) in
    let vertices = map vertex (range_with_len 0 (length mesh.points)) in
    edge-tags (length mesh.points) mesh.faces holes vertices mesh.method complete (infinite sides) (tagged_edge mesh.creases)
    ∙ ap (λ xs. built_of (length mesh.points) mesh.faces holes xs vertices mesh.method complete)
    (map-alike (last_tag same_edge (infinite sides) (tagged_edge mesh.creases)) (base_edge_sharpness mesh)
    (λ e. last-infinite same_edge sides (tagged_edge mesh.creases) e ∙ ap (λ b. if b then Infinite else tagged_edge mesh.creases e) (boundary-named mesh.faces e))
    (edges_of mesh.faces))

-- the corner tags in their order
pub tagged : (mesh : ObjMesh) (holes : List Bool) (edge : ℕ × ℕ → Sharpness) (complete : List Bool)
    → with_vertex_tags mesh.corner_tags (stage mesh holes edge all_smooth complete) ≡ stage mesh holes edge (tagged_vertex mesh.corner_tags) complete
tagged mesh holes edge complete =
    vertex-tags (length mesh.points) mesh.faces holes (map edge (edges_of mesh.faces)) mesh.method complete mesh.corner_tags all_smooth

-- a filter keeps the numbers of a range that pass
kept-among : (keep : ℕ → Bool) (n v : ℕ) → v < n → is_among (filter keep (range_with_len 0 n)) v ≡ keep v
kept-among keep n v h =
    any-both keep (nat_eq v) (range_with_len 0 n) ∙ each (range_with_len 0 n) ∙ ap (λ b. keep v && b) there ∙ stays (keep v)
  where
    same : (x : ℕ) → nat_eq v x ≡ true → keep x ≡ keep v
    same x is = let e : x ≡ v = grind (arith, nat_tests) in ap keep e

    each : (xs : List ℕ) → list_any (λ x. keep x && nat_eq v x) xs ≡ (keep v && list_any (nat_eq v) xs)
    each [] = grind (arith, nat_tests)
    each (x ∷ xs) = grind (arith, nat_tests, same x, each xs)

    there : list_any (nat_eq v) (range_with_len 0 n) ≡ true
    there = list_any_at (nat_eq v) (range_with_len 0 n) v 0 (omega (arith, h, length-range_with_len 0 n)) (eq-eqb v _ (omega (arith, get_or-range_with_len 0 n v 0 h)))

    stays : (b : Bool) → (b && true) ≡ b
    stays true = refl
    stays false = refl

map-within : (f g : ℕ → Sharpness) (a n : ℕ) → ((v : ℕ) → v < a + n → f v ≡ g v) → map f (range_with_len a n) ≡ map g (range_with_len a n)
map-within f g a zero same = refl
map-within f g a (suc n) same =
    ap (λ y. y ∷ map f (range_with_len (a + 1) n)) (same a (omega arith)) ∙ ap (λ ys. g a ∷ ys) (map-within f g (a + 1) n (λ v h. same v (omega (arith, h))))

-- the corner of one face is infinitely sharp, where the mode says so, whatever its tags
pub cornered : (mesh : ObjMesh) (holes : List Bool) (edge : ℕ × ℕ → Sharpness) (complete : List Bool)
    → with_vertex_tags (infinite (filter (is_end_corner mesh.boundary mesh.faces) (range_with_len 0 (length mesh.points)))) (stage mesh holes edge (tagged_vertex mesh.corner_tags) complete)
    ≡ stage mesh holes edge (base_vertex_sharpness mesh) complete
cornered mesh holes edge complete =
    let n = length mesh.points in
    let keep = is_end_corner mesh.boundary mesh.faces in
    let edges = map edge (edges_of mesh.faces) in
    vertex-tags n mesh.faces holes edges mesh.method complete (infinite (filter keep (range_with_len 0 n))) (tagged_vertex mesh.corner_tags)
    ∙ ap (λ xs. built_of n mesh.faces holes edges xs mesh.method complete)
    (map-within (last_tag nat_eq (infinite (filter keep (range_with_len 0 n))) (tagged_vertex mesh.corner_tags)) (base_vertex_sharpness mesh) 0 n
    (λ v h. last-infinite nat_eq (filter keep (range_with_len 0 n)) (tagged_vertex mesh.corner_tags) v
    ∙ ap (λ b. if b then Infinite else tagged_vertex mesh.corner_tags v) (kept-among keep n v (omega (arith, h)))))

-- the tags are at points
pub tags-inside : (tags : List CornerTag) (points : ℕ) (seen : List (ℕ × Sharpness)) → map corner_tag_of tags ≡ seen → All (λ tag. tag.0 < points) seen → list_all (λ (tag : CornerTag). nat_lt tag.vertex points) tags ≡ true
tags-inside tags points seen is inside = list_all-from_AllPass (λ (tag : CornerTag). nat_lt tag.vertex points) tags (λ k d h.
    let at : get_or seen k (corner_tag_of d) ≡ corner_tag_of (get_or tags k d) = ap (λ xs. get_or xs k (corner_tag_of d)) (sym is) ∙ get_or-map corner_tag_of tags k d (corner_tag_of d) h in
    let size : k < length seen = omega (arith, h, ap length (sym is), length-map tags corner_tag_of) in
    below (get_or tags k d).vertex (omega (arith, inside k (corner_tag_of d) size, ap (λ (tag : ℕ × Sharpness). tag.0) at)))
  where
    below : (v : ℕ) → v < points → nat_lt v points ≡ true
    below v h = grind (arith, nat_tests)

-- the creases, the boundary, the corner tags and the corners of one face, each after the one before it
pub after-creases : (mesh : ObjMesh) (holes : List Bool) (tags : List ((ℕ × ℕ) × Sharpness)) (old new : Built) → old ≡ smooth_built (length mesh.points) mesh.method mesh.faces holes → tags ≡ mesh.creases
    → new ≡ with_edge_tags tags old → new ≡ stage mesh holes (tagged_edge mesh.creases) all_smooth (replicate (length mesh.points) false)
after-creases mesh holes tags old new before are after =
    after ∙ ap (λ ts. with_edge_tags ts old) are ∙ ap (with_edge_tags mesh.creases) (before ∙ faced mesh holes) ∙ creased mesh holes all_smooth (replicate (length mesh.points) false)

pub after-boundary : (mesh : ObjMesh) (holes : List Bool) (sides : List (ℕ × ℕ)) (old new : Built) → old ≡ stage mesh holes (tagged_edge mesh.creases) all_smooth (replicate (length mesh.points) false)
    → sides ≡ filter (is_boundary mesh.faces) (all_sides mesh.faces) → new ≡ with_edge_tags (infinite sides) old → new ≡ stage mesh holes (base_edge_sharpness mesh) all_smooth (replicate (length mesh.points) false)
after-boundary mesh holes sides old new before are after =
    after ∙ ap (λ ss. with_edge_tags (infinite ss) old) are ∙ ap (with_edge_tags (infinite (filter (is_boundary mesh.faces) (all_sides mesh.faces)))) before ∙ bounded mesh holes all_smooth (replicate (length mesh.points) false)

pub after-tags : (mesh : ObjMesh) (holes : List Bool) (tags : List (ℕ × Sharpness)) (old new : Built) → old ≡ stage mesh holes (base_edge_sharpness mesh) all_smooth (replicate (length mesh.points) false)
    → tags ≡ mesh.corner_tags → new ≡ with_vertex_tags tags old → new ≡ stage mesh holes (base_edge_sharpness mesh) (tagged_vertex mesh.corner_tags) (replicate (length mesh.points) false)
after-tags mesh holes tags old new before are after =
    after ∙ ap (λ ts. with_vertex_tags ts old) are ∙ ap (with_vertex_tags mesh.corner_tags) before ∙ tagged mesh holes (base_edge_sharpness mesh) (replicate (length mesh.points) false)

pub after-corners : (mesh : ObjMesh) (holes : List Bool) (old new : Built) → old ≡ stage mesh holes (base_edge_sharpness mesh) (tagged_vertex mesh.corner_tags) (replicate (length mesh.points) false)
    → new ≡ with_vertex_tags (infinite (filter (is_end_corner mesh.boundary mesh.faces) (range_with_len 0 (length mesh.points)))) old → new ≡ tagged_built mesh holes
after-corners mesh holes old new before after =
    after ∙ ap (with_vertex_tags (infinite (filter (is_end_corner mesh.boundary mesh.faces) (range_with_len 0 (length mesh.points))))) before
    ∙ cornered mesh holes (base_edge_sharpness mesh) (replicate (length mesh.points) false)

-- the faces at each point are one fan
pub base-fans : (mesh : ObjMesh) (holes : List Bool) (built : Built) → IsFit mesh → built ≡ all_complete (tagged_built mesh holes) → AreFans built
base-fans mesh holes built fit is = λ v h marked.
    ap (λ (b : Built). has_one_fan b.level.polygons v) is ∙ fit-fans mesh v fit (omega (arith, h, ap (λ (b : Built). b.level.point_count) is))

-- the marks of the faces are those of the builder
pub own-marks : (mesh : ObjMesh) (holes : List Bool) (built : Built) → built ≡ smooth_built (length mesh.points) mesh.method mesh.faces holes → built ≡ smooth_built (length mesh.points) mesh.method mesh.faces built.level.holes
own-marks mesh holes built is = is ∙ ap (λ (hs : List Bool). smooth_built (length mesh.points) mesh.method mesh.faces hs) (sym (ap (λ (b : Built). b.level.holes) is))

-- the level that is built is level 0
pub base-level : (mesh : ObjMesh) (holes : List Bool) → holes ≡ map (is_base_hole mesh) (enumerate_from 0 mesh.faces) → (tagged_built mesh holes).level ≡ base_level mesh
base-level mesh holes are = ap (λ (hs : List Bool). (tagged_built mesh hs).level) are

-- there is a mark for each face
pub base-marks : (mesh : ObjMesh) (holes : List Bool) → holes ≡ map (is_base_hole mesh) (enumerate_from 0 mesh.faces) → length holes ≡ length mesh.faces
base-marks mesh holes are = ap length are ∙ length-map (enumerate_from 0 mesh.faces) (is_base_hole mesh) ∙ numbered-length 0 mesh.faces
