-- Refined values: the value of each point of each level, unreduced, and the common denominator for all control numbers.
-- Source: Drillolive.
use Rattle.std.specs.Prelude.{ℕ, zero, suc, ◌*◌, ℤ, pos, ◌+ℤ◌, List, map, zip, get_or}
use Rattle.std.specs.List.{range_with_len, AllZip}
use Rattle.subdiv_model.specs.Level.{Level}
use Rattle.subdiv_model.specs.Child.{refined_level}
use Rattle.subdiv_model.specs.Mask.{Scheme, SourcePoint, OfPoint, OfFace, Mask, face_mask, child_masks}
use Rattle.subdiv_model.specs.Multiples.{lcm_of_all}
use Rattle.subdiv_model.specs.Value.{Value, IsSameValue, whole_value, plus_value, weighted, sum_of_values}

-- the value of a mask, from the values of its sources
abbrev pub mask_value : (SourcePoint → Value) → Mask → Value
mask_value value mask = sum_of_values (map (λ t. weighted t.weight mask.denominator (value t.source)) mask.terms)

-- the value of a point of this number
abbrev pub point_value : List Value → ℕ → Value
point_value values v = get_or values v (whole_value (pos 0))

-- the value of a point as a source of a face mask; such a mask has no faces
abbrev pub corner_value : List Value → SourcePoint → Value
corner_value values (OfPoint v) = point_value values v
corner_value values (OfFace f) = whole_value (pos 0)

-- the value of the new point of a face
abbrev pub face_value : Level → List Value → ℕ → Value
face_value level values f = mask_value (corner_value values) (face_mask level f)

-- the value of a source; a new face point has the value of its own mask
abbrev pub source_value : Level → List Value → SourcePoint → Value
source_value level values (OfPoint v) = point_value values v
source_value level values (OfFace f) = face_value level values f

-- the values of the points of the next level, from those of the level
abbrev pub child_values : Level → Scheme → List Value → List Value
child_values level scheme values = map (mask_value (source_value level values)) (child_masks level scheme)

-- the values after k steps
abbrev pub refined_values : Level → Scheme → List Value → ℕ → List Value
refined_values level scheme values zero = values
refined_values level scheme values (suc k) =
    child_values (refined_level level k) scheme (refined_values level scheme values k)

-- the values of control numbers, over 1
abbrev pub control_values : List ℤ → List Value
control_values controls = map whole_value controls

-- all control numbers plus one number
abbrev pub translated_controls : ℤ → List ℤ → List ℤ
translated_controls t controls = map (λ c. c +ℤ t) controls

-- each value of the second list is that of the first plus a whole number
abbrev pub AreTranslatedBy : ℤ → List Value → List Value → Type 0
AreTranslatedBy t xs ys = AllZip (λ x y. IsSameValue y (plus_value x (whole_value t))) xs ys

-- a value over the common denominator of its channel
abbrev pub over_common : ℕ → Value → Value
over_common common x = record { num = x.num; den = x.den * common }

-- the coordinates after k steps, from control numbers over the common denominator of the channel
abbrev pub refined_coordinates : Level → Scheme → ℕ → List ℤ → ℕ → List Value
refined_coordinates level scheme common controls k =
    map (over_common common) (refined_values level scheme (control_values controls) k)

-- the three coordinates of a point
abbrev pub Point : Type 0
Point = Value × Value × Value

-- points from their coordinates in three lists
abbrev pub points_of_coordinates : List Value → List Value → List Value → List Point
points_of_coordinates xs ys zs = map (λ p. (p.0.0, p.0.1, p.1)) (zip (zip xs ys) zs)

-- the points after k steps, coordinate by coordinate
abbrev pub refined_points : Level → Scheme → ℕ → List (ℤ × ℤ × ℤ) → ℕ → List Point
refined_points level scheme common controls k =
    points_of_coordinates
    (refined_coordinates level scheme common (map (λ p. p.0) controls) k)
    (refined_coordinates level scheme common (map (λ p. p.1) controls) k)
    (refined_coordinates level scheme common (map (λ p. p.2) controls) k)

-- the texture points after k steps
abbrev pub refined_texture : Level → Scheme → ℕ → List (ℤ × ℤ) → ℕ → List (Value × Value)
refined_texture level scheme common controls k =
    zip
    (refined_coordinates level scheme common (map (λ p. p.0) controls) k)
    (refined_coordinates level scheme common (map (λ p. p.1) controls) k)

-- the denominator over which the value of a mask is whole for all control numbers, from those of its sources
abbrev pub mask_denominator : (SourcePoint → ℕ) → Mask → ℕ
mask_denominator denominator mask =
    mask.denominator * lcm_of_all (map (λ t. denominator t.source) mask.terms)

-- the denominator of a point as a source of a face mask
abbrev pub corner_denominator : List ℕ → SourcePoint → ℕ
corner_denominator denominators (OfPoint v) = get_or denominators v 1
corner_denominator denominators (OfFace f) = 1

-- the denominator of a source; a new face point has that of its own mask
abbrev pub source_denominator : Level → List ℕ → SourcePoint → ℕ
source_denominator level denominators (OfPoint v) = get_or denominators v 1
source_denominator level denominators (OfFace f) = mask_denominator (corner_denominator denominators) (face_mask level f)

-- the common denominators of the points of the next level, from those of the level
abbrev pub child_denominators : Level → Scheme → List ℕ → List ℕ
child_denominators level scheme denominators =
    map (mask_denominator (source_denominator level denominators)) (child_masks level scheme)

-- the common denominators after k steps, from 1 for each control point
abbrev pub refined_denominators : Level → Scheme → ℕ → List ℕ
refined_denominators level scheme zero = map (λ v. 1) (range_with_len 0 level.point_count)
refined_denominators level scheme (suc k) =
    child_denominators (refined_level level k) scheme (refined_denominators level scheme k)
