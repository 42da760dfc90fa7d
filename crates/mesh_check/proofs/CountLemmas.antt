-- The first face of too many corners, and the first count that is too great.
use Rattle.std.proofs.Common.{◌≡◌, ℕ, ◌+◌, ◌<◌, ◌≤◌, ◌^◌, ℤ, true, false, nat_lt, List, [], ◌∷◌, length, map, drop, arith, refl, ap, sym, ◌∙◌, Option, Some, None}
use Rattle.std.specs.List.{filter, slice_get, enumerate_from}
use Rattle.std.proofs.lemmas.Bool.Decides.{nat_tests}
use Rattle.std.proofs.lemmas.List.{length-map}
use Rattle.ratio128.specs.declared.point.Point3.{Point3}
use Rattle.raw_mesh.specs.View.{point_of}
use Rattle.subdiv_model.specs.Lists.{first_of}
use Rattle.subdiv_model.specs.Polygons.{Polygon}
use Rattle.subdiv_model.specs.ObjMesh.{ObjMesh}
use Rattle.subdiv_model.specs.Fault.{TooLarge, FaceSize}
use Rattle.subdiv_model.specs.Limits.{mesh_limit, size_limit, large_faces}
use Rattle.mesh_check.specs.Counts.{size_faults}
use Rattle.mesh_check.proofs.PlaceLemmas.{drop-here}

abbrev sized : List (ℕ × Polygon) → Option (ℕ × ℕ)
sized faces = first_of {X = ℕ × ℕ} (map (λ face. (face.0, length face.1)) faces)

abbrev large_from : ℕ → List Polygon → List (ℕ × Polygon)
large_from f faces = filter (λ face. nat_lt size_limit (length face.1)) (enumerate_from f (drop f faces))

-- a face of too many corners is the first one from its place on
pub large-found : (faces : List Polygon) (f : ℕ) (face : Polygon) → slice_get faces f ≡ Some face → 2 ^ 16 < length face → sized (large_from f faces) ≡ Some (f, length face)
large-found faces f face at large =
    let e : nat_lt size_limit (length face) ≡ true = grind (arith, nat_tests) in
    rw (drop-here faces f face at, e) refl

-- a face of few corners is passed over
pub large-passed : (faces : List Polygon) (f : ℕ) (face : Polygon) → slice_get faces f ≡ Some face → length face ≤ 2 ^ 16 → sized (large_from f faces) ≡ sized (large_from (f + 1) faces)
large-passed faces f face at small =
    let e : nat_lt size_limit (length face) ≡ false = grind (arith, nat_tests) in
    rw (drop-here faces f face at, e) refl

named-some : (faces : List (ℕ × Polygon)) (found : ℕ × ℕ) → sized faces ≡ Some found → Some (TooLarge (FaceSize found.0 found.1)) ≡ first_of (map (λ (face : ℕ × Polygon). TooLarge (FaceSize face.0 (length face.1))) faces)
named-some [] found h = absurd (cc)
named-some (face ∷ faces) found h =
    let e : Some (face.0, length face.1) ≡ Some found = h in
    let same : (face.0, length face.1) ≡ found = cc in
    ap (λ (s : ℕ × ℕ). Some (TooLarge (FaceSize s.0 s.1))) (sym same)

named-none : (faces : List (ℕ × Polygon)) → sized faces ≡ None → None ≡ first_of (map (λ (face : ℕ × Polygon). TooLarge (FaceSize face.0 (length face.1))) faces)
named-none [] h = refl
named-none (face ∷ faces) h = absurd (cc)

few : (mesh : ObjMesh) → length mesh.points ≤ 2 ^ 20 → length mesh.faces ≤ 2 ^ 20 → size_faults mesh ≡ map (λ (face : ℕ × Polygon). TooLarge (FaceSize face.0 (length face.1))) (large_faces mesh)
few mesh h k =
    let p : nat_lt mesh_limit (length mesh.points) ≡ false = grind (arith, nat_tests) in
    let q : nat_lt mesh_limit (length mesh.faces) ≡ false = grind (arith, nat_tests) in
    rw (p, q) refl

-- if there are few points and faces, a face with too many corners is the fault
pub size-some : (mesh : ObjMesh) (found : ℕ × ℕ) → length mesh.points ≤ 2 ^ 20 → length mesh.faces ≤ 2 ^ 20 → sized (large_faces mesh) ≡ Some found → Some (TooLarge (FaceSize found.0 found.1)) ≡ first_of (size_faults mesh)
size-some mesh found h k e = named-some (large_faces mesh) found e ∙ ap first_of (sym (few mesh h k))

pub size-none : (mesh : ObjMesh) → length mesh.points ≤ 2 ^ 20 → length mesh.faces ≤ 2 ^ 20 → sized (large_faces mesh) ≡ None → None ≡ first_of (size_faults mesh)
size-none mesh h k e = named-none (large_faces mesh) e ∙ ap first_of (sym (few mesh h k))

-- as many points are kept as the mesh has
pub point-count : (points : List Point3) (seen : List (ℤ × ℤ × ℤ)) → map point_of points ≡ seen → length points ≡ length seen
point-count points seen h = sym (length-map points point_of) ∙ ap length h
