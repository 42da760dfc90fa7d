-- The lengths of the lists of levels.
use Rattle.std.proofs.Common.{◌≡◌, ℕ, ◌+◌, ◌*◌, ◌<◌, ◌≤◌, List, [], ◌∷◌, length, map, flat_map, take, get_or, vec_len, arith, refl, ap, ◌∙◌}
use Rattle.std.specs.List.{All, sum_by}
use Rattle.std.proofs.lemmas.List.{length-append, length-map}
use Rattle.std.proofs.lemmas.List.Elements.{All-head, All-tail}
use Rattle.std.proofs.lemmas.List.Sums.{sum_by-cons}
use Rattle.flat_arrays.proofs.PartLemmas.{counts-room}
use Rattle.subdiv_model.specs.SparseText.{WrittenFace, WrittenLevel}
use Rattle.ratio128.specs.declared.point.Point3.{Point3}
use Rattle.ratio128.specs.declared.valued.Valued.{Valued}
use Rattle.sparse_level.specs.declared.values.SparseValues.{SparseValues}
use Rattle.mesh_arrays.specs.Points.{all_numerators, all_denominators, numerators_of as point_numerators}
use Rattle.mesh_arrays.specs.SparseFlat.{level_corners, corners_in, point_count, face_count, corner_count, value_count, corners_of, numerators_of, denominators_of}
use Rattle.mesh_arrays.specs.SparsePlaces.{CanLevelBePut}
use Rattle.mesh_arrays.proofs.FrontLemmas.{pieces-length}

-- an item for each face
pub faces-length : {X : Type 0} (item : WrittenFace → X) (levels : List (SparseValues Point3)) → length (flat_map (λ level. map item level.faces.faces) levels) ≡ sum_by face_count levels
faces-length item levels = pieces-length (λ level. map item level.faces.faces) face_count (λ level. length-map level.faces.faces item) levels

-- a number for each corner
pub level-corners-length : (level : WrittenLevel) → length (level_corners level) ≡ corners_in level
level-corners-length level = pieces-length (λ face. face.corners) (λ face. length face.corners) (λ face. refl) level.faces

pub corners-length : (levels : List (SparseValues Point3)) → length (corners_of levels) ≡ sum_by corner_count levels
corners-length levels = pieces-length (λ level. level_corners level.faces) corner_count (λ level. level-corners-length level.faces) levels

-- three numerators and a denominator for each value
pub values-length : (values : List (Valued Point3)) → length (all_numerators values) ≡ 3 * length values
values-length [] = omega arith
values-length (p ∷ values) = omega (arith, length-append (point_numerators p) (all_numerators values), values-length values)

pub numerators-length : (levels : List (SparseValues Point3)) → length (numerators_of levels) ≡ 3 * sum_by value_count levels
numerators-length [] = omega arith
numerators-length (level ∷ levels) =
    omega (arith, length-append (all_numerators level.values.items) (numerators_of levels), values-length level.values.items, numerators-length levels, sum_by-cons value_count level levels)

pub denominators-length : (common : ℕ) (levels : List (SparseValues Point3)) → length (denominators_of common levels) ≡ sum_by value_count levels
denominators-length common levels =
    pieces-length (λ level. all_denominators common level.values.items) value_count (λ level. length-map level.values.items (λ p. p.den * common)) levels

-- levels that can be put have as many values as points
pub values-count : (common : ℕ) (levels : List (SparseValues Point3)) → All (CanLevelBePut common) levels → sum_by value_count levels ≡ sum_by point_count levels
values-count common [] can = refl
values-count common (level ∷ levels) can =
    omega (
      arith,
      (All-head (CanLevelBePut common) level levels can).valued,
      values-count common levels (All-tail (CanLevelBePut common) level levels can),
      sum_by-cons value_count level levels,
      sum_by-cons point_count level levels,
    )

-- a level more needs no more places than all levels
pub level-fits : (count : SparseValues Point3 → ℕ) (levels : List (SparseValues Point3)) (i : ℕ) (level : SparseValues Point3) (at len places : ℕ) → i < length levels →
    at ≡ sum_by count (take i levels) → level ≡ get_or levels i level → len ≡ count level → sum_by count levels ≤ places → at + len ≤ places
level-fits count levels i level at len places inside at_is is size fits = omega (arith, fits, counts-room count levels i level at len inside at_is (size ∙ ap count is))

-- a level more needs no more places than all values, three for the numerators of each
pub values-fit : (levels : List (SparseValues Point3)) (i : ℕ) (level : SparseValues Point3) (at len nums dens : ℕ) → i < length levels → at ≡ sum_by value_count (take i levels) →
    level ≡ get_or levels i level → len ≡ vec_len level.values → 3 * sum_by value_count levels ≤ nums → sum_by value_count levels ≤ dens → (3 * at + 3 * len ≤ nums) × (at + len ≤ dens)
values-fit levels i level at len nums dens inside at_is is size fits dens_fit =
    let enough = level-fits value_count levels i level at len (sum_by value_count levels) inside at_is is (omega (arith, size, level.values.ok.0)) (omega arith) in
    (omega (arith, enough, fits), omega (arith, enough, dens_fit))
