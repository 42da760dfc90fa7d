-- The control points that a refined point depends on, and their shares: stencil rows.
-- Source: Drillolive; the words are those of OpenSubdiv's Far layer.
use Rattle.std.specs.Prelude.{ℕ, zero, suc, ◌*◌, ◌/◌, ℤ, pos, unsigned_abs, nat_eq, List, [], ◌∷◌, map, get_or, length, if◌then◌else◌}
use Rattle.std.specs.List.{filter, list_any, range_with_len, sum_by}
use Rattle.subdiv_model.specs.Polygons.{is_among}
use Rattle.subdiv_model.specs.Level.{Level}
use Rattle.subdiv_model.specs.Child.{refined_level}
use Rattle.subdiv_model.specs.Mask.{Scheme, SourcePoint, OfPoint, OfFace, Mask, face_mask, child_masks}
use Rattle.subdiv_model.specs.Refined.{point_value, refined_values, refined_denominators, control_values}

-- the control points, among a number of them, that are in one of the lists, ascending
abbrev pub union_of : ℕ → List (List ℕ) → List ℕ
union_of controls lists = filter (λ control. list_any (λ list. is_among list control) lists) (range_with_len 0 controls)

-- the control points of the sources of a mask
abbrev pub mask_support : ℕ → (SourcePoint → List ℕ) → Mask → List ℕ
mask_support controls support mask = union_of controls (map (λ t. support t.source) mask.terms)

-- the support of a point as a source of a face mask
abbrev pub corner_support : List (List ℕ) → SourcePoint → List ℕ
corner_support supports (OfPoint v) = get_or supports v []
corner_support supports (OfFace f) = []

-- the support of a source; a new face point has the support of its own mask
abbrev pub source_support : ℕ → Level → List (List ℕ) → SourcePoint → List ℕ
source_support controls level supports (OfPoint v) = get_or supports v []
source_support controls level supports (OfFace f) = mask_support controls (corner_support supports) (face_mask level f)

-- the supports of the points of the next level, from those of the level
abbrev pub child_supports : ℕ → Level → Scheme → List (List ℕ) → List (List ℕ)
child_supports controls level scheme supports = map (mask_support controls (source_support controls level supports)) (child_masks level scheme)

-- the supports after k steps, from each control point itself
abbrev pub refined_supports : Level → Scheme → ℕ → List (List ℕ)
refined_supports level scheme zero = map (λ v. v ∷ []) (range_with_len 0 level.point_count)
refined_supports level scheme (suc k) =
    child_supports level.point_count (refined_level level k) scheme (refined_supports level scheme k)

-- the number of entries after k steps: the total size of the supports
abbrev pub entries_after : Level → Scheme → ℕ → ℕ
entries_after level scheme k = sum_by length (refined_supports level scheme k)

-- control numbers that are 0, except for one that is 1
abbrev pub unit_controls : ℕ → ℕ → List ℤ
unit_controls controls control = map (λ v. if nat_eq v control then pos 1 else pos 0) (range_with_len 0 controls)

-- The share of a control point in a point after k steps, over the common denominator of the point. It is the value where this
-- control number is 1 and all others are 0.
abbrev pub stencil_numerator : Level → Scheme → ℕ → ℕ → ℕ → ℕ
stencil_numerator level scheme k point control =
    let value = point_value (refined_values level scheme (control_values (unit_controls level.point_count control)) k) point in
    unsigned_abs value.num * get_or (refined_denominators level scheme k) point 1 / value.den
