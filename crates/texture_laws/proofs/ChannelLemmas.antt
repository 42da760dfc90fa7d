-- The channel points of a mesh and the faces over them.
use Rattle.std.proofs.Common.{◌≡◌, ℕ, zero, suc, ◌+◌, ◌<◌, Bool, true, false, ◌||◌, nat_eq, nat_lt, List, [], ◌∷◌, length, map, get_or, arith, refl, ap, sym, ◌∙◌, ◌⊎◌, inl, inr, IsTrue}
use Rattle.std.specs.List.{list_any, list_all, flat_map, enumerate_from, position_or_len}
use Rattle.std.proofs.lemmas.Bool.{and_from, or_cases, or_left, or_right, eq-eqb, lt-ltb}
use Rattle.std.proofs.lemmas.List.{length-map, get_or-map}
use Rattle.std.proofs.lemmas.List.FromFn.{length-enumerate_from}
use Rattle.std.proofs.lemmas.List.Folds.{list_any-append, list_any_at}
use Rattle.subdiv_model.specs.Polygons.{Polygon, polygon_at, has_corner, is_over, same_side}
use Rattle.subdiv_model.specs.Lists.{each_once_by}
use Rattle.subdiv_model.specs.ObjMesh.{ObjMesh}
use Rattle.subdiv_model.specs.Cut.{channel_point, channel_points}
use Rattle.mesh_laws.proofs.SideLemmas.{same_side-refl, among-place}
use Rattle.mesh_laws.proofs.FanLemmas.{any-number, number-any}
use Rattle.mesh_laws.proofs.ChildClosedLemmas.{same-pair}
use Rattle.mesh_laws.proofs.TurnedLemmas.{map-among}
use Rattle.texture_laws.specs.CutMesh.{cut_faces, cut_point_count, point_of, vertex_of}
use Rattle.texture_laws.proofs.OnceLemmas.{any-once, once-distinct, first-within, side-at, distinct-side-places}

pub any-mapped : {X Y : Type 0} (test : Y → Bool) (f : X → Y) (xs : List X) → list_any test (map f xs) ≡ list_any (λ x. test (f x)) xs
any-mapped test f [] = refl
any-mapped test f (x ∷ xs) = ap (λ b. test (f x) || b) (any-mapped test f xs)

-- an item for each face and corner, if the first face has the number n
module _ {X : Type 0} (f : ℕ → ℕ → X) where
  abbrev pub over_corners : ℕ → List Polygon → List X
  over_corners n polygons = flat_map (λ face. map (f face.0) face.1) (enumerate_from n polygons)

  abbrev pub each_corner : ℕ → List Polygon → List (List X)
  each_corner n polygons = map (λ face. map (f face.0) face.1) (enumerate_from n polygons)

  pub corner-listed : (test : X → Bool) (n face k v : ℕ) (polygons : List Polygon) → n + face ≡ k → has_corner v (polygon_at polygons face) ≡ true → test (f k v) ≡ true → list_any test (over_corners n polygons) ≡ true
  corner-listed test n face k v [] e there h = absurd (cc)
  corner-listed test n zero k v (polygon ∷ polygons) e there h =
      let same : n ≡ k = omega arith in
      list_any-append test (map (f n) polygon) (over_corners (n + 1) polygons) ∙ or_left _ _ (any-mapped test (f n) polygon ∙ number-any (λ w. test (f n w)) polygon v (ap (λ j. test (f j v)) same ∙ h) there)
  corner-listed test n (suc face) k v (polygon ∷ polygons) e there h =
      list_any-append test (map (f n) polygon) (over_corners (n + 1) polygons) ∙ or_right _ _ (corner-listed test (n + 1) face k v polygons (omega arith) there h)

  pub listed-corner : (test : X → Bool) (n : ℕ) (polygons : List Polygon) → list_any test (over_corners n polygons) ≡ true → (face k v : ℕ) × (n + face ≡ k) × (has_corner v (polygon_at polygons face) ≡ true) × (test (f k v) ≡ true)
  listed-corner test n [] h = absurd (cc)
  listed-corner test n (polygon ∷ polygons) h =
      here (or_cases (list_any test (map (f n) polygon)) (list_any test (over_corners (n + 1) polygons)) (sym (list_any-append test (map (f n) polygon) (over_corners (n + 1) polygons)) ∙ h)) (λ m. listed-corner test (n + 1) polygons m)
    where
      here : (list_any test (map (f n) polygon) ≡ true) ⊎ (list_any test (over_corners (n + 1) polygons) ≡ true) → (list_any test (over_corners (n + 1) polygons) ≡ true → (face k v : ℕ) × (n + 1 + face ≡ k) × (has_corner v (polygon_at polygons face) ≡ true) × (test (f k v) ≡ true)) → (face k v : ℕ) × (n + face ≡ k) × (has_corner v (polygon_at (polygon ∷ polygons) face) ≡ true) × (test (f k v) ≡ true)
      here (inl first) behind = let found = any-number (λ w. test (f n w)) polygon (sym (any-mapped test (f n) polygon) ∙ first) in (0, n, found.0, omega arith, found.2, found.1)
      here (inr further) behind = let found = behind further in (suc found.0, found.1, found.2, omega (arith, found.3), found.4, found.5)

  pub corners-of : (n face k : ℕ) (polygons : List Polygon) → n + face ≡ k → get_or (each_corner n polygons) face [] ≡ map (f k) (polygon_at polygons face)
  corners-of n face k [] e = refl
  corners-of n zero k (polygon ∷ polygons) e = let same : n ≡ k = omega arith in ap (λ j. map (f j) polygon) same
  corners-of n (suc face) k (polygon ∷ polygons) e = corners-of (n + 1) face k polygons (omega arith)

  pub each_corner-length : (n : ℕ) (polygons : List Polygon) → length (each_corner n polygons) ≡ length polygons
  each_corner-length n polygons = length-map (enumerate_from n polygons) (λ (face : ℕ × Polygon). map (f face.0) face.1) ∙ length-enumerate_from n polygons

  all-corners : (test : X → Bool) (k : ℕ) (polygon : Polygon) → ((v : ℕ) → has_corner v polygon ≡ true → test (f k v) ≡ true) → list_all test (map (f k) polygon) ≡ true
  all-corners test k [] each = refl
  all-corners test k (v ∷ polygon) each =
      and_from _ _ (each v (or_left _ _ (eq-eqb v v refl))) (all-corners test k polygon (λ w h. each w (or_right (nat_eq w v) _ h)))

  -- a property of each corner
  pub each_corner-all : (test : X → Bool) (n : ℕ) (polygons : List Polygon) → ((face k v : ℕ) → n + face ≡ k → has_corner v (polygon_at polygons face) ≡ true → test (f k v) ≡ true) → list_all (list_all test) (each_corner n polygons) ≡ true
  each_corner-all test n [] each = refl
  each_corner-all test n (polygon ∷ polygons) each =
      and_from _ _ (all-corners test n polygon (λ v h. each 0 n v (omega arith) h)) (each_corner-all test (n + 1) polygons (λ face k v e h. each (suc face) k v (omega arith) h))

  each-back : (back : X → ℕ) (k : ℕ) (polygon : Polygon) → ((v : ℕ) → has_corner v polygon ≡ true → back (f k v) ≡ v) → map back (map (f k) polygon) ≡ polygon
  each-back back k [] each = refl
  each-back back k (v ∷ polygon) each =
      ap (λ w. w ∷ map back (map (f k) polygon)) (each v (or_left _ _ (eq-eqb v v refl))) ∙ ap (λ (xs : Polygon). v ∷ xs) (each-back back k polygon (λ w h. each w (or_right (nat_eq w v) _ h)))

  -- what leads each corner back to itself gives the polygons again
  pub each_corner-back : (back : X → ℕ) (n : ℕ) (polygons : List Polygon) → ((face k v : ℕ) → n + face ≡ k → has_corner v (polygon_at polygons face) ≡ true → back (f k v) ≡ v) → map (map back) (each_corner n polygons) ≡ polygons
  each_corner-back back n [] each = refl
  each_corner-back back n (polygon ∷ polygons) each =
      ap (λ (xs : Polygon). xs ∷ map (map back) (each_corner (n + 1) polygons)) (each-back back n polygon (λ v h. each 0 n v (omega arith) h))
      ∙ ap (λ (xss : List Polygon). polygon ∷ xss) (each_corner-back back (n + 1) polygons (λ face k v e h. each (suc face) k v (omega arith) h))

-- some item passes if the item at a place does, and the empty polygon does not
any-at-place : (test : Polygon → Bool) (polygons : List Polygon) (k : ℕ) → test [] ≡ false → test (polygon_at polygons k) ≡ true → list_any test polygons ≡ true
any-at-place test [] k none h = absurd (cc)
any-at-place test (polygon ∷ polygons) zero none h = or_left _ _ h
any-at-place test (polygon ∷ polygons) (suc k) none h = or_right _ _ (any-at-place test polygons k none h)

none_before : (k : ℕ) → 0 + k ≡ k
none_before k = omega arith

-- points by first appearance, and their numbers
module _ (point : ℕ → ℕ → ℕ × ℕ) (polygons : List Polygon) where
  abbrev pub points_of : List (ℕ × ℕ)
  points_of = each_once_by same_side (over_corners point 0 polygons)

  abbrev pub number_of : ℕ → ℕ → ℕ
  number_of face v = position_or_len (same_side (point face v)) points_of

  pub point-listed : (face v : ℕ) → has_corner v (polygon_at polygons face) ≡ true → list_any (same_side (point face v)) points_of ≡ true
  point-listed face v h = any-once (point face v) (over_corners point 0 polygons) ∙ corner-listed point (same_side (point face v)) 0 face face v polygons (none_before face) h (same_side-refl (point face v))

  pub number-within : (face v : ℕ) → has_corner v (polygon_at polygons face) ≡ true → number_of face v < length points_of
  number-within face v h = first-within (same_side (point face v)) points_of (point-listed face v h)

  pub number-at : (face v : ℕ) → has_corner v (polygon_at polygons face) ≡ true → get_or points_of (number_of face v) (0, 0) ≡ point face v
  number-at face v h = side-at (point face v) points_of (point-listed face v h)

  -- each point is that of a corner
  pub point-corner : (p : ℕ) → p < length points_of → (face v : ℕ) × (has_corner v (polygon_at polygons face) ≡ true) × (point face v ≡ get_or points_of p (0, 0))
  point-corner p h =
      let s : ℕ × ℕ = get_or points_of p (0, 0) in
      let there : list_any (same_side s) (over_corners point 0 polygons) ≡ true = sym (any-once s (over_corners point 0 polygons)) ∙ list_any_at (same_side s) points_of p (0, 0) h (same_side-refl s) in
      let found = listed-corner point (same_side s) 0 polygons there in
      let same : found.0 ≡ found.1 = sym (none_before found.0) ∙ found.3 in
      (found.0, found.2, found.4, ap (λ k. point k found.2) same ∙ sym (same-pair s (point found.1 found.2) found.5))

  pub points-once : (p q : ℕ) → p < length points_of → q < length points_of → get_or points_of p (0, 0) ≡ get_or points_of q (0, 0) → p ≡ q
  points-once p q hp hq e = distinct-side-places points_of p q (once-distinct (over_corners point 0 polygons)) hp hq e

  -- each point is a corner with its number
  pub number-used : (p : ℕ) → p < length points_of → (face v : ℕ) × (has_corner v (polygon_at polygons face) ≡ true) × (number_of face v ≡ p)
  number-used p h =
      let found = point-corner p h in
      (found.0, found.1, found.2, points-once (number_of found.0 found.1) p (number-within found.0 found.1 found.2) h (number-at found.0 found.1 found.2 ∙ found.3))

module _ (mesh : ObjMesh) where
  pub channel-within : (face v : ℕ) → has_corner v (polygon_at mesh.faces face) ≡ true → point_of mesh face v < cut_point_count mesh
  channel-within = number-within (channel_point mesh) mesh.faces

  pub channel-at : (face v : ℕ) → has_corner v (polygon_at mesh.faces face) ≡ true → get_or (channel_points mesh) (point_of mesh face v) (0, 0) ≡ channel_point mesh face v
  channel-at = number-at (channel_point mesh) mesh.faces

  pub channel-vertex : (face v : ℕ) → has_corner v (polygon_at mesh.faces face) ≡ true → vertex_of mesh (point_of mesh face v) ≡ v
  channel-vertex face v h = ap (λ (s : ℕ × ℕ). s.0) (channel-at face v h)

  pub channel-once : (p q : ℕ) → p < cut_point_count mesh → q < cut_point_count mesh → get_or (channel_points mesh) p (0, 0) ≡ get_or (channel_points mesh) q (0, 0) → p ≡ q
  channel-once = points-once (channel_point mesh) mesh.faces

  pub channel-used : (p : ℕ) → p < cut_point_count mesh → (face v : ℕ) × (has_corner v (polygon_at mesh.faces face) ≡ true) × (point_of mesh face v ≡ p)
  channel-used = number-used (channel_point mesh) mesh.faces

  pub cut-at : (face : ℕ) → polygon_at (cut_faces mesh) face ≡ map (point_of mesh face) (polygon_at mesh.faces face)
  cut-at face = corners-of (point_of mesh) 0 face face mesh.faces (none_before face)

  pub cut-count : length (cut_faces mesh) ≡ length mesh.faces
  cut-count = each_corner-length (point_of mesh) 0 mesh.faces

  pub cut-corners : (face : ℕ) → length (polygon_at (cut_faces mesh) face) ≡ length (polygon_at mesh.faces face)
  cut-corners face = ap length (cut-at face) ∙ length-map (polygon_at mesh.faces face) (point_of mesh face)

  pub cut-over : IsTrue (is_over (cut_point_count mesh) (cut_faces mesh))
  cut-over = each_corner-all (point_of mesh) (λ p. nat_lt p (cut_point_count mesh)) 0 mesh.faces (λ face k v e h. let same : face ≡ k = sym (none_before face) ∙ e in ap (λ j. nat_lt (point_of mesh j v) (cut_point_count mesh)) (sym same) ∙ lt-ltb _ _ (channel-within face v h))

  pub cut-vertices : (face corner : ℕ) → corner < length (polygon_at mesh.faces face) → vertex_of mesh (get_or (polygon_at (cut_faces mesh) face) corner 0) ≡ get_or (polygon_at mesh.faces face) corner 0
  cut-vertices face corner h =
      let v : ℕ = get_or (polygon_at mesh.faces face) corner 0 in
      ap (λ (polygon : Polygon). vertex_of mesh (get_or polygon corner 0)) (cut-at face)
      ∙ ap (vertex_of mesh) (get_or-map (point_of mesh face) (polygon_at mesh.faces face) corner 0 0 h)
      ∙ channel-vertex face v (among-place v (polygon_at mesh.faces face) corner h refl)

  pub cut-whole : map (map (vertex_of mesh)) (cut_faces mesh) ≡ mesh.faces
  cut-whole = each_corner-back (point_of mesh) (vertex_of mesh) 0 mesh.faces (λ face k v e h. let same : face ≡ k = sym (none_before face) ∙ e in ap (λ j. vertex_of mesh (point_of mesh j v)) (sym same) ∙ channel-vertex face v h)

  pub cut-used : (p : ℕ) → p < cut_point_count mesh → IsTrue (list_any (has_corner p) (cut_faces mesh))
  cut-used p h =
      let found = channel-used p h in
      any-at-place (has_corner p) (cut_faces mesh) found.0 refl
      (ap (has_corner p) (cut-at found.0) ∙ map-among (point_of mesh found.0) (polygon_at mesh.faces found.0) found.1 p found.2 found.3)
