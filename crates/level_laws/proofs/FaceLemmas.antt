-- The child faces of a level: their number, their places, and which are holes.
use Rattle.std.proofs.Common.{◌≡◌, ℕ, zero, suc, ◌+◌, ◌*◌, ◌<◌, true, false, nat_eq, List, [], ◌∷◌, length, get_or, take, replicate, arith, refl, ap, sym, ◌∙◌, subst}
use Rattle.std.specs.List.{list_all, flat_map, sum_by, enumerate_from}
use Rattle.std.proofs.lemmas.Bool.{and_parts, eqb-true}
use Rattle.std.proofs.lemmas.List.{length-append, length-replicate, get_or-replicate}
use Rattle.std.proofs.lemmas.List.Concat.{get_or-flat_map}
use Rattle.std.proofs.lemmas.List.Folds.{list_all-append}
use Rattle.std.proofs.lemmas.List.Sums.{sum_by-cons}
use Rattle.subdiv_model.specs.Polygons.{Polygon, sides_of, sides_back_to, polygon_at}
use Rattle.subdiv_model.specs.Level.{Level, is_hole}
use Rattle.subdiv_model.specs.Child.{child_face, child_faces_along, child_faces, child_polygons, child_holes, child_level, refined_level, faces_after}
use Rattle.subdiv_model.specs.Lists.{last_of}
use Rattle.mesh_laws.proofs.ChildLemmas.{children_from}
use Rattle.mesh_laws.proofs.ChildClosedLemmas.{numbered-length}
use Rattle.level_laws.proofs.NumberedLemmas.{numbered-at}

sides-length : (first : ℕ) (path : Polygon) → length (sides_back_to first path) ≡ length path
sides-length first [] = refl
sides-length first (v ∷ rest) = ap suc (sides-length first rest)

-- a polygon has as many sides as corners
pub sides_of-length : (polygon : Polygon) → length (sides_of polygon) ≡ length polygon
sides_of-length [] = refl
sides_of-length (v ∷ rest) = sides-length v (v ∷ rest)

module _ (points : ℕ) (polygons : List Polygon) where
  along-length : (face : ℕ) (before : ℕ × ℕ) (sides : List (ℕ × ℕ))
      → length (child_faces_along points polygons face before sides) ≡ length sides
  along-length face before [] = refl
  along-length face before (side ∷ sides) = ap suc (along-length face side sides)

  -- a face has as many child faces as corners
  pub child_faces-length : (face : ℕ) (polygon : Polygon) → length (child_faces points polygons face polygon) ≡ length polygon
  child_faces-length face polygon = along-length face (last_of (0, 0) (sides_of polygon)) (sides_of polygon) ∙ sides_of-length polygon

  -- the child face at a place along the sides has the side there and the one before it
  along-at : (face : ℕ) (before : ℕ × ℕ) (sides : List (ℕ × ℕ)) (c : ℕ) → c < length sides
      → get_or (child_faces_along points polygons face before sides) c [] ≡ child_face points polygons face (get_or (before ∷ sides) c (0, 0)) (get_or sides c (0, 0))
  along-at face before [] c h = absurd (omega arith)
  along-at face before (side ∷ sides) zero h = refl
  along-at face before (side ∷ sides) (suc c) h = along-at face side sides c (omega arith)

  along-quads : (face : ℕ) (before : ℕ × ℕ) (sides : List (ℕ × ℕ))
      → list_all (λ quad. nat_eq (length quad) 4) (child_faces_along points polygons face before sides) ≡ true
  along-quads face before [] = refl
  along-quads face before (side ∷ sides) = along-quads face side sides

  children-quads : (place : ℕ) (some : List Polygon)
      → list_all (λ quad. nat_eq (length quad) 4) (children_from points polygons place some) ≡ true
  children-quads place [] = refl
  children-quads place (polygon ∷ some) =
      let here = along-quads place (last_of (0, 0) (sides_of polygon)) (sides_of polygon) in
      let after = children-quads (place + 1) some in
      list_all-append (λ quad. nat_eq (length quad) 4) (child_faces points polygons place polygon) (children_from points polygons (place + 1) some) ∙ rw (here, after) refl

-- parts as long as the polygons have together as many elements as there are corners
parts-length : {X : Type 0} (parts : ℕ × Polygon → List X) → ((face : ℕ × Polygon) → length (parts face) ≡ length face.1)
    → (place : ℕ) (some : List Polygon) → length (flat_map parts (enumerate_from place some)) ≡ sum_by length some
parts-length parts same place [] = refl
parts-length parts same place (polygon ∷ some) =
    let here = same (place, polygon) in
    let after = parts-length parts same (place + 1) some in
    let both = length-append (parts (place, polygon)) (flat_map parts (enumerate_from (place + 1) some)) in
    let sums = sum_by-cons length polygon some in
    both ∙ omega (arith, here, after, sums)

parts-before : {X : Type 0} (parts : ℕ × Polygon → List X) → ((face : ℕ × Polygon) → length (parts face) ≡ length face.1)
    → (place k : ℕ) (some : List Polygon) → length (flat_map parts (take k (enumerate_from place some))) ≡ sum_by length (take k some)
parts-before parts same place zero some = refl
parts-before parts same place (suc k) [] = refl
parts-before parts same place (suc k) (polygon ∷ some) =
    let here = same (place, polygon) in
    let after = parts-before parts same (place + 1) k some in
    let both = length-append (parts (place, polygon)) (flat_map parts (take k (enumerate_from (place + 1) some))) in
    let sums = sum_by-cons length polygon (take k some) in
    both ∙ omega (arith, here, after, sums)

-- the children of a face begin after the corners of all earlier faces
parts-at : {X : Type 0} (parts : ℕ × Polygon → List X) → ((face : ℕ × Polygon) → length (parts face) ≡ length face.1)
    → (polygons : List Polygon) (face c : ℕ) (d : X) → face < length polygons → c < length (polygon_at polygons face)
    → get_or (flat_map parts (enumerate_from 0 polygons)) (sum_by length (take face polygons) + c) d
    ≡ get_or (parts (face, polygon_at polygons face)) c d
parts-at parts same polygons face c d inside corner =
    let this = numbered-at polygons face inside in
    let long : c < length (parts (face, polygon_at polygons face)) = omega (arith, corner, same (face, polygon_at polygons face)) in
    let P : ℕ × Polygon → Type 0 = λ f. c < length (parts f) in
    let faces = enumerate_from 0 polygons in
    let there : face < length faces = omega (arith, inside, numbered-length 0 polygons) in
    let Q : ℕ → Type 0 = λ n. get_or (flat_map parts faces) (n + c) d ≡ get_or (parts (get_or faces face (0, []))) c d in
    subst Q (parts-before parts same 0 face polygons) (get_or-flat_map parts faces face c (0, []) d there (subst P (sym this) long))
    ∙ ap (λ f. get_or (parts f) c d) this

-- a polygon gives a child face at each of its corners
pub child_polygons-length : (points : ℕ) (polygons : List Polygon) → length (child_polygons points polygons) ≡ sum_by length polygons
child_polygons-length points polygons =
    parts-length (λ face. child_faces points polygons face.0 face.1) (λ face. child_faces-length points polygons face.0 face.1) 0 polygons

-- the child of a face at a corner comes after the children of all earlier faces
pub child-stands : (points : ℕ) (polygons : List Polygon) (face c : ℕ) → face < length polygons → c < length (polygon_at polygons face)
    → let sides = sides_of (polygon_at polygons face) in
    polygon_at (child_polygons points polygons) (sum_by length (take face polygons) + c)
    ≡ child_face points polygons face (get_or (last_of (0, 0) sides ∷ sides) c (0, 0)) (get_or sides c (0, 0))
child-stands points polygons face c inside corner =
    let sides = sides_of (polygon_at polygons face) in
    parts-at (λ face. child_faces points polygons face.0 face.1) (λ face. child_faces-length points polygons face.0 face.1)
    polygons face c [] inside corner
    ∙ along-at points polygons face (last_of (0, 0) sides) sides c (omega (arith, corner, sides_of-length (polygon_at polygons face)))

-- the child is a hole exactly where the face is one
pub child-hole : (level : Level) (face c : ℕ) → face < length level.polygons → c < length (polygon_at level.polygons face)
    → is_hole (child_level level) (sum_by length (take face level.polygons) + c) ≡ is_hole level face
child-hole level face c inside corner =
    parts-at (λ face. replicate (length face.1) (is_hole level face.0)) (λ face. length-replicate (length face.1) (is_hole level face.0))
    level.polygons face c false inside corner
    ∙ get_or-replicate (length (polygon_at level.polygons face)) c (is_hole level face) false corner

-- the next level has as many marks as child faces
pub child_holes-length : (level : Level) → length (child_holes level) ≡ sum_by length level.polygons
child_holes-length level =
    parts-length (λ face. replicate (length face.1) (is_hole level face.0)) (λ face. length-replicate (length face.1) (is_hole level face.0)) 0
    level.polygons

quad-corners : (quads : List Polygon) → list_all (λ quad. nat_eq (length quad) 4) quads ≡ true → sum_by length quads ≡ 4 * length quads
quad-corners [] h = refl
quad-corners (quad ∷ quads) h =
    let parts = and_parts (nat_eq (length quad) 4) (list_all (λ other. nat_eq (length other) 4) quads) h in
    let four : length quad ≡ 4 = eqb-true (length quad) 4 parts.0 in
    omega (arith, four, quad-corners quads parts.1, sum_by-cons length quad quads)

pub faces-after : (level : Level) (k : ℕ) → length (refined_level level k).polygons ≡ faces_after level.polygons k
faces-after level zero = refl
faces-after level (suc zero) = child_polygons-length level.point_count level.polygons
faces-after level (suc (suc k)) =
    let before = refined_level level k in
    let quads = child_polygons before.point_count before.polygons in
    child_polygons-length (refined_level level (suc k)).point_count quads
    ∙ quad-corners quads (children-quads before.point_count before.polygons 0 before.polygons)
    ∙ ap (λ n. 4 * n) (faces-after level (suc k))
