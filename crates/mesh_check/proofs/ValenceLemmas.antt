-- The first vertex of too many edges, and the first of all counts of a mesh.
use Rattle.std.proofs.Common.{◌≡◌, ℕ, suc, ◌+◌, ◌-◌, ◌<◌, ◌≤◌, ◌^◌, Bool, true, false, nat_le, nat_lt, List, [], ◌∷◌, ◌++◌, length, map, get_or, arith, refl, ap, sym, ◌∙◌, Option, Some, None, append_assoc}
use Rattle.std.specs.List.{All, filter, list_all, range_with_len, enumerate_from}
use Rattle.std.proofs.lemmas.Bool.{and_from}
use Rattle.std.proofs.lemmas.Bool.Decides.{nat_tests}
use Rattle.std.proofs.lemmas.List.Sums.{AllPass-from_list_all}
use Rattle.subdiv_model.specs.Lists.{first_of}
use Rattle.subdiv_model.specs.Polygons.{Polygon}
use Rattle.subdiv_model.specs.Edges.{edges_of_point}
use Rattle.subdiv_model.specs.Level.{Level}
use Rattle.subdiv_model.specs.ObjMesh.{ObjMesh}
use Rattle.subdiv_model.specs.Base.{base_level}
use Rattle.subdiv_model.specs.Fault.{Fault, TooLarge, Points, Faces, FaceSize, Valence}
use Rattle.subdiv_model.specs.Channel.{fault_where}
use Rattle.subdiv_model.specs.Limits.{mesh_limit, size_limit, large_faces, count_faults}
use Rattle.level_topology.specs.declared.counted.Counted.{Counted}
use Rattle.mesh_check.specs.Counts.{size_faults, valence_faults, count_named}
use Rattle.mesh_check.proofs.FaultLemmas.{first-behind}

-- the vertices from one on
abbrev pub valence_faults_from : Level → ℕ → List Fault
valence_faults_from level v =
    map (λ w. TooLarge (Valence w (length (edges_of_point level.polygons w))))
    (filter (λ w. nat_lt size_limit (length (edges_of_point level.polygons w))) (range_with_len v (level.point_count - v)))

range-here : (v n : ℕ) → v < n → range_with_len v (n - v) ≡ v ∷ range_with_len (v + 1) (n - (v + 1))
range-here v n h = let e : n - v ≡ suc (n - (v + 1)) = omega arith in ap (range_with_len v) e

-- a vertex of too many edges is the first one from its place on
pub valence-found : (level : Level) (v count : ℕ) → v < level.point_count → count ≡ length (edges_of_point level.polygons v) → 2 ^ 16 < count → first_of (valence_faults_from level v) ≡ Some (TooLarge (Valence v count))
valence-found level v count h is large =
    let e : nat_lt size_limit (length (edges_of_point level.polygons v)) ≡ true = ap (nat_lt size_limit) (sym is) ∙ above count large in
    rw (range-here v level.point_count h, e) (ap (λ n. Some (TooLarge (Valence v n))) (sym is))
  where
    above : (n : ℕ) → 2 ^ 16 < n → nat_lt size_limit n ≡ true
    above n k = grind (arith, nat_tests)

-- a vertex of few edges is passed over
pub valence-passed : (level : Level) (v count : ℕ) → v < level.point_count → count ≡ length (edges_of_point level.polygons v) → count ≤ 2 ^ 16 → first_of (valence_faults_from level v) ≡ first_of (valence_faults_from level (v + 1))
valence-passed level v count h is small =
    let e : nat_lt size_limit (length (edges_of_point level.polygons v)) ≡ false = ap (nat_lt size_limit) (sym is) ∙ below count small in
    rw (range-here v level.point_count h, e) refl
  where
    below : (n : ℕ) → n ≤ 2 ^ 16 → nat_lt size_limit n ≡ false
    below n k = grind (arith, nat_tests)

-- the faults of the counts are those of the mesh, and then those of its level
counts-joined : (mesh : ObjMesh) → count_faults mesh ≡ size_faults mesh ++ valence_faults (base_level mesh)
counts-joined mesh =
    let points = fault_where (nat_lt mesh_limit (length mesh.points)) (TooLarge (Points (length mesh.points))) in
    let faces = fault_where (nat_lt mesh_limit (length mesh.faces)) (TooLarge (Faces (length mesh.faces))) in
    let large = map (λ (face : ℕ × Polygon). TooLarge (FaceSize face.0 (length face.1))) (large_faces mesh) in
    let valences = valence_faults (base_level mesh) in
    sym (append_assoc points (faces ++ large) valences ∙ ap (λ faults. points ++ faults) (append_assoc faces large valences))

-- if neither the sizes nor the vertices exceed a limit, no count does
pub counts-small : (mesh : ObjMesh) (found : Option Counted) → first_of (size_faults mesh) ≡ None → found ≡ None → count_named found ≡ first_of (valence_faults (base_level mesh)) → first_of (count_faults mesh) ≡ None
counts-small mesh found few at first =
    ap first_of (counts-joined mesh)
    ∙ first-behind (size_faults mesh) (valence_faults (base_level mesh)) few
    ∙ sym first ∙ ap count_named at

-- no fault of its counts was found in the mesh
pub sizes-fine : (mesh : ObjMesh) (found : Option Counted) → found ≡ None → count_named found ≡ first_of (size_faults mesh) → first_of (size_faults mesh) ≡ None
sizes-fine mesh found at first = sym first ∙ ap count_named at

-- the faults of the faces of too many corners, where the first face has this number
abbrev sized : ℕ → List Polygon → List Fault
sized place polygons = map (λ (face : ℕ × Polygon). TooLarge (FaceSize face.0 (length face.1))) (filter (λ face. nat_lt size_limit (length face.1)) (enumerate_from place polygons))

-- a fault that applies is the first
stands-not : (stands : Bool) (fault : Fault) (rest : List Fault) → first_of (fault_where stands fault ++ rest) ≡ None → (stands ≡ false) × (first_of rest ≡ None)
stands-not true fault rest h = absurd (cc)
stands-not false fault rest h = (refl, h)

all-small : (place : ℕ) (polygons : List Polygon) → first_of (sized place polygons) ≡ None → list_all (λ polygon. nat_le (length polygon) (2 ^ 16)) polygons ≡ true
all-small place [] h = refl
all-small place (polygon ∷ polygons) h = go (nat_lt size_limit (length polygon)) refl h (λ k. all-small (place + 1) polygons k)
  where
    few : (n : ℕ) → nat_lt size_limit n ≡ false → nat_le n (2 ^ 16) ≡ true
    few n k = grind (arith, nat_tests)

    found : nat_lt size_limit (length polygon) ≡ true → first_of (sized place (polygon ∷ polygons)) ≡ Some (TooLarge (FaceSize place (length polygon)))
    found e = rw e refl

    passed : nat_lt size_limit (length polygon) ≡ false → first_of (sized (place + 1) polygons) ≡ first_of (sized place (polygon ∷ polygons))
    passed e = rw e refl

    go : (b : Bool) → nat_lt size_limit (length polygon) ≡ b → first_of (sized place (polygon ∷ polygons)) ≡ None → (first_of (sized (place + 1) polygons) ≡ None → list_all (λ polygon. nat_le (length polygon) (2 ^ 16)) polygons ≡ true) → list_all (λ polygon. nat_le (length polygon) (2 ^ 16)) (polygon ∷ polygons) ≡ true
    go true e k behind = let some = found e in absurd (cc)
    go false e k behind = and_from _ _ (few (length polygon) e) (behind (passed e ∙ k))

-- a mesh without such faults has few points, few faces, and no face of many corners
pub sizes-small : (mesh : ObjMesh) → first_of (size_faults mesh) ≡ None → (length mesh.points ≤ 2 ^ 20) × (length mesh.faces ≤ 2 ^ 20) × All (λ polygon. length polygon ≤ 2 ^ 16) mesh.faces
sizes-small mesh few =
    let points = stands-not (nat_lt mesh_limit (length mesh.points)) _ _ few in
    let faces = stands-not (nat_lt mesh_limit (length mesh.faces)) _ _ points.1 in (
      least (length mesh.points) points.0,
      least (length mesh.faces) faces.0,
      (λ k d h. at (length (get_or mesh.faces k d)) (AllPass-from_list_all (λ polygon. nat_le (length polygon) (2 ^ 16)) mesh.faces (all-small 0 mesh.faces faces.1) k d h)),
    )
  where
    least : (n : ℕ) → nat_lt mesh_limit n ≡ false → n ≤ 2 ^ 20
    least n h = grind (arith, nat_tests)

    at : (n : ℕ) → nat_le n (2 ^ 16) ≡ true → n ≤ 2 ^ 16
    at n h = grind (arith, nat_tests)
