-- The faces of a manifold, added one after another.
use Rattle.std.proofs.Common.{◌≡◌, ℕ, ◌+◌, ◌-◌, ◌<◌, ◌≤◌, ◌^◌, Bool, true, false, not, ◌&&◌, List, [], ◌∷◌, ◌++◌, length, get_or, take, drop, replicate, arith, ap, sym, ◌∙◌, Some, None, length-append, if◌then◌else◌}
use Rattle.std.specs.List.{slice_get, list_all, list_any, sum_by, range_with_len}
use Rattle.std.proofs.lemmas.Bool.{and_parts, false_from_ne_true}
use Rattle.std.proofs.lemmas.List.{take_more, take_all, replicate-append-replicate, take-append-drop}
use Rattle.std.proofs.lemmas.List.Folds.{list_any_at, list_all-append}
use Rattle.std.proofs.lemmas.List.Sums.{list_all-from_AllPass, sum_by_more_le, sum_by_more}
use Rattle.std.proofs.lemmas.Grind.{flat_map-append}
use Rattle.std.proofs.lemmas.Option.{get_or_from_slice_get, slice_get_within}
use Rattle.number_laws.proofs.CountLemmas.{count-append, count-some}
use Rattle.subdiv_model.specs.Polygons.{Polygon, same_side, same_edge, sides_of, has_distinct_sides}
use Rattle.subdiv_model.specs.Edges.{all_sides, edges_of, first_named}
use Rattle.subdiv_model.specs.Manifold.{is_simple, has_one_fan, is_manifold}
use Rattle.subdiv_model.specs.MeshFault.{first_mesh_fault}
use Rattle.subdiv_model.specs.Sharpness.{Sharpness, Smooth, Method}
use Rattle.subdiv_model.specs.ObjMesh.{ObjMesh}
use Rattle.mesh_laws.proofs.SideLemmas.{same_side-refl, distinct-count}
use Rattle.mesh_laws.proofs.ClosedLemmas.{all-at}
use Rattle.mesh_laws.proofs.FaultLemmas.{fault-decides}
use Rattle.mesh_laws.proofs.WalkLemmas.{range-at}
use Rattle.level_topology.specs.Numbering.{named_with}
use Rattle.level_builder.specs.NumberedEdges.{named_with_all}
use Rattle.point_fans.specs.Built.{Built, built_of}
use Rattle.level_builder.specs.Builder.{has_new_sides, with_polygon}
use Rattle.level_builder.proofs.EdgeNumberLemmas.{first_named-all}
use Rattle.mesh_check.specs.Base.{IsFit, smooth_built}
use Rattle.mesh_check.proofs.PlaceLemmas.{drop-here}

-- faces without fault are simple, no side of them occurs twice, and those at each point are one fan
sound-parts : (points : ℕ) (polygons : List Polygon) → first_mesh_fault points polygons ≡ None → (list_all is_simple polygons ≡ true) × (has_distinct_sides (all_sides polygons) ≡ true) × (list_all (has_one_fan polygons) (range_with_len 0 points) ≡ true)
sound-parts points polygons sound =
    let whole : is_manifold points polygons ≡ true = (fault-decides points polygons).0 sound in
    let outer = and_parts (list_all is_simple polygons && has_distinct_sides (all_sides polygons)) (list_all (has_one_fan polygons) (range_with_len 0 points)) whole in
    let inner = and_parts (list_all is_simple polygons) (has_distinct_sides (all_sides polygons)) outer.0 in
    (inner.0, inner.1, outer.1)

-- the faces of a mesh without fault are simple
pub sound-simple : (points : ℕ) (polygons : List Polygon) → first_mesh_fault points polygons ≡ None → list_all is_simple polygons ≡ true
sound-simple points polygons sound = (sound-parts points polygons sound).0

-- no side of them occurs twice
pub sound-sides : (points : ℕ) (polygons : List Polygon) → first_mesh_fault points polygons ≡ None → has_distinct_sides (all_sides polygons) ≡ true
sound-sides points polygons sound = (sound-parts points polygons sound).1

-- the faces at each point of a mesh without fault are one fan
pub fit-fans : (mesh : ObjMesh) (v : ℕ) → IsFit mesh → v < length mesh.points → has_one_fan mesh.faces v ≡ true
fit-fans mesh v fit h = range-at (has_one_fan mesh.faces) 0 (length mesh.points) v (sound-parts (length mesh.points) mesh.faces fit.sound).2 (omega arith) (omega (arith, h))

-- a list up to one place more
taken : {X : Type 0} (xs : List X) (i : ℕ) (x : X) → slice_get xs i ≡ Some x → take (i + 1) xs ≡ take i xs ++ x ∷ []
taken xs i x at = take_more xs i x (slice_get_within xs i x at) ∙ ap (λ y. take i xs ++ y ∷ []) (get_or_from_slice_get xs i x x at)

-- no side of the second list is among the first where none occurs twice in both
sides-apart : (xs ys : List (ℕ × ℕ)) → has_distinct_sides (xs ++ ys) ≡ true → list_all (λ s. not (list_any (same_side s) xs)) ys ≡ true
sides-apart xs ys once = list_all-from_AllPass (λ s. not (list_any (same_side s) xs)) ys (λ k d h.
    ap not (false_from_ne_true (list_any (same_side (get_or ys k d)) xs) (λ there.
    absurd (omega (
      arith,
      distinct-count (get_or ys k d) (xs ++ ys) once,
      count-append (same_side (get_or ys k d)) xs ys,
      count-some (same_side (get_or ys k d)) xs there,
      count-some (same_side (get_or ys k d)) ys (list_any_at (same_side (get_or ys k d)) ys k d h (same_side-refl (get_or ys k d))),
    )))))

-- the sides of a face are none of those before it
pub sides-new : (polygons : List Polygon) (f : ℕ) (polygon : Polygon) → has_distinct_sides (all_sides polygons) ≡ true → slice_get polygons f ≡ Some polygon → has_new_sides (take f polygons) polygon ≡ true
sides-new polygons f polygon once at =
    let split : polygons ≡ take f polygons ++ (polygon ∷ drop (f + 1) polygons) =
    sym (take-append-drop f polygons) ∙ ap (λ (ps : List Polygon). take f polygons ++ ps) (drop-here polygons f polygon at) in
    let sides : all_sides polygons ≡ all_sides (take f polygons) ++ (sides_of polygon ++ all_sides (drop (f + 1) polygons)) =
    ap all_sides split ∙ flat_map-append sides_of (take f polygons) (polygon ∷ drop (f + 1) polygons) in
    let apart = sides-apart (all_sides (take f polygons)) (sides_of polygon ++ all_sides (drop (f + 1) polygons)) (ap has_distinct_sides (sym sides) ∙ once) in
    (and_parts (has_new_sides (take f polygons) polygon) _ (sym (list_all-append (λ s. not (list_any (same_side s) (all_sides (take f polygons)))) (sides_of polygon) (all_sides (drop (f + 1) polygons))) ∙ apart)).0

-- the conditions on a face before it is added
pub face-simple : (mesh : ObjMesh) (f : ℕ) (polygon : Polygon) → IsFit mesh → slice_get mesh.faces f ≡ Some polygon → is_simple polygon ≡ true
face-simple mesh f polygon fit at =
    ap is_simple (sym (get_or_from_slice_get mesh.faces f polygon [] at)) ∙ all-at is_simple mesh.faces f [] (slice_get_within mesh.faces f polygon at) (sound-simple (length mesh.points) mesh.faces fit.sound)

pub face-size : (mesh : ObjMesh) (f : ℕ) (polygon : Polygon) → IsFit mesh → slice_get mesh.faces f ≡ Some polygon → length polygon ≤ 2 ^ 16
face-size mesh f polygon fit at =
    omega (arith, ap (λ (p : Polygon). length p) (get_or_from_slice_get mesh.faces f polygon [] at), fit.sizes f [] (slice_get_within mesh.faces f polygon at))

pub face-inside : (mesh : ObjMesh) (f : ℕ) (polygon : Polygon) (k d : ℕ) → IsFit mesh → slice_get mesh.faces f ≡ Some polygon → k < length polygon → get_or polygon k d < length mesh.points
face-inside mesh f polygon k d fit at h =
    let e = get_or_from_slice_get mesh.faces f polygon [] at in
    omega (arith, ap (λ (p : Polygon). get_or p k d) e, fit.within.faces f [] (slice_get_within mesh.faces f polygon at) k d (omega (arith, h, ap (λ (p : Polygon). length p) e)))

-- the corners of a face come after those of the faces before it
pub corners-room : (polygons : List Polygon) (f : ℕ) (polygon : Polygon) → slice_get polygons f ≡ Some polygon → sum_by length (take f polygons) + length polygon ≤ sum_by length polygons
corners-room polygons f polygon at =
    omega (arith, ap (λ (p : Polygon). length p) (get_or_from_slice_get polygons f polygon [] at), sum_by_more_le length polygons f [] (slice_get_within polygons f polygon at))

pub corners-more : (polygons : List Polygon) (f : ℕ) (polygon : Polygon) (count : ℕ) → slice_get polygons f ≡ Some polygon → count ≡ sum_by length (take f polygons) → count + length polygon ≡ sum_by length (take (f + 1) polygons)
corners-more polygons f polygon count at is =
    omega (arith, is, ap (λ (p : Polygon). length p) (get_or_from_slice_get polygons f polygon [] at), sum_by_more length polygons f [] (slice_get_within polygons f polygon at))

pub face-short : (mesh : ObjMesh) (f : ℕ) (polygon : Polygon) → IsFit mesh → slice_get mesh.faces f ≡ Some polygon → sum_by length (take f mesh.faces) + length polygon < 2 ^ 27
face-short mesh f polygon fit at = omega (arith, corners-room mesh.faces f polygon at, fit.within.few_corners)

-- edges only become more
named-more : (edges sides : List (ℕ × ℕ)) → length edges ≤ length (named_with_all edges sides)
named-more edges [] = omega arith
named-more edges (s ∷ sides) = omega (arith, one (list_any (same_edge s) edges), named-more (named_with edges s) sides)
  where
    one : (b : Bool) → length edges ≤ length (if b then edges else edges ++ s ∷ [])
    one true = omega arith
    one false = omega (arith, length-append edges (s ∷ []))

edges-more : (polygons : List Polygon) (polygon : Polygon) → length (edges_of polygons) ≤ length (edges_of (polygons ++ polygon ∷ []))
edges-more polygons polygon =
    let e : all_sides (polygons ++ polygon ∷ []) ≡ all_sides polygons ++ all_sides (polygon ∷ []) = flat_map-append sides_of polygons (polygon ∷ []) in
    omega (arith, named-more (first_named (all_sides polygons)) (all_sides (polygon ∷ [])), ap length (first_named-all (all_sides polygons) (all_sides (polygon ∷ [])) ∙ ap first_named (sym e)))

-- one face more, with its mark
pub faces-more : (points : ℕ) (method : Method) (polygons : List Polygon) (holes : List Bool) (f : ℕ) (polygon : Polygon) (old new : Built) → slice_get polygons f ≡ Some polygon → length holes ≡ length polygons → old ≡ smooth_built points method (take f polygons) (take f holes) → new ≡ with_polygon polygon (get_or holes f false) old → new ≡ smooth_built points method (take (f + 1) polygons) (take (f + 1) holes)
faces-more points method polygons holes f polygon old new at marks before after =
    let hole = get_or holes f false in
    let before_edges = length (edges_of (take f polygons)) in
    let edges = length (edges_of (take f polygons ++ polygon ∷ [])) in
    let count : before_edges + (edges - before_edges) ≡ edges = omega (arith, edges-more (take f polygons) polygon) in
    let smooth : replicate before_edges Smooth ++ replicate (edges - before_edges) Smooth ≡ replicate edges Smooth =
    replicate-append-replicate before_edges (edges - before_edges) Smooth ∙ ap (λ n. replicate n Smooth) count in
    after ∙ ap (with_polygon polygon hole) before
    ∙ ap (λ (xs : List Sharpness). built_of points (take f polygons ++ polygon ∷ []) (take f holes ++ hole ∷ []) xs (replicate points Smooth) method (replicate points false)) smooth
    ∙ ap (λ (ps : List Polygon). smooth_built points method ps (take f holes ++ hole ∷ [])) (sym (taken polygons f polygon at))
    ∙ ap (λ (hs : List Bool). smooth_built points method (take (f + 1) polygons) hs) (sym (take_more holes f false (omega (arith, slice_get_within polygons f polygon at, marks))))

-- at the end all faces are there
pub faces-all : (points : ℕ) (method : Method) (polygons : List Polygon) (holes : List Bool) (f : ℕ) (built : Built) → length polygons ≤ f → length holes ≤ f → built ≡ smooth_built points method (take f polygons) (take f holes) → built ≡ smooth_built points method polygons holes
faces-all points method polygons holes f built all marks is =
    is ∙ ap (λ (ps : List Polygon). smooth_built points method ps (take f holes)) (take_all f polygons all) ∙ ap (λ (hs : List Bool). smooth_built points method polygons hs) (take_all f holes marks)
