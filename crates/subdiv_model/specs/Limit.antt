-- Limit points: the points of the limit surface at the points of a level of quads.
-- Source: Halstead, Kass and DeRose 1993 for smooth points; the knot averages of the uniform cubic B-spline for points of a
-- crease. Which points have no limit mask is Drillolive's.
use Rattle.std.specs.Prelude.{ℕ, ◌+◌, ◌*◌, ◌%◌, Bool, ◌||◌, nat_eq, nat_lt, ℤ, List, [], ◌∷◌, ◌++◌, length, map, get_or, max, Result, Ok, Err, if◌then◌else◌}
use Rattle.std.specs.List.{list_all, list_any, flat_map, fold, sum_by, range_with_len, position_or_len}
use Rattle.subdiv_model.specs.Lists.{places}
use Rattle.subdiv_model.specs.Polygons.{Polygon, polygon_at}
use Rattle.subdiv_model.specs.Sharpness.{Sharpness, is_semi_sharp}
use Rattle.subdiv_model.specs.Rule.{Rule, SmoothRule, DartRule, CreaseRule, CornerRule, rule_of_sharp_edges}
use Rattle.subdiv_model.specs.Level.{Level, vertex_sharpness_of, faces_at, ring_at}
use Rattle.subdiv_model.specs.Child.{refined_level}
use Rattle.subdiv_model.specs.Feature.{is_infinite}
use Rattle.subdiv_model.specs.Mask.{CatmullClark, OfPoint, Mask, mask_of, weigh, weigh_points, corner_mask, ends_at}
use Rattle.subdiv_model.specs.Value.{Value}
use Rattle.subdiv_model.specs.Refined.{Point, mask_value, source_value, mask_denominator, source_denominator, refined_values, control_values, over_common, points_of_coordinates}
use Rattle.subdiv_model.specs.Support.{mask_support, source_support, refined_supports}
use Rattle.subdiv_model.specs.Channel.{Channel, number_bound, entry_bound, channel_level, denominators_after, fault_where}
use Rattle.subdiv_model.specs.Fault.{Fault, Limit, LimitCause, Dart, SemiSharp, TooLarge, LimitEntries, Overflow, LimitRows, DenominatorOverflow, ValueOverflow}

-- each polygon has four corners
abbrev pub has_quads : Level → Bool
has_quads level = list_all (λ polygon. nat_eq (length polygon) 4) level.polygons

-- the corner of a quad opposite the point: two corners further
abbrev pub opposite_corner : ℕ → Polygon → ℕ
opposite_corner v quad = get_or quad ((position_or_len (nat_eq v) quad + 2) % 4) v

-- the opposite corners of the quads at a point
abbrev pub opposites_at : Level → ℕ → List ℕ
opposites_at level v = map (λ face. opposite_corner v (polygon_at level.polygons face)) (faces_at level v)

-- the rule that a point keeps at every later level, from its infinite sharpness and that of its edges
abbrev pub lasting_rule : Sharpness → List Sharpness → Rule
lasting_rule vertex ring =
    if is_infinite vertex || nat_eq (length ring) 0 then CornerRule else rule_of_sharp_edges (places is_infinite ring)

-- the point or an edge at it is semi-sharp
abbrev pub has_semi_sharp : Sharpness → List Sharpness → Bool
has_semi_sharp vertex ring = is_semi_sharp vertex || list_any is_semi_sharp ring

-- the limit mask of a smooth point, from the other ends of its edges and the opposite corners of its quads
abbrev pub smooth_limit_mask : ℕ → List ℕ → List ℕ → Mask
smooth_limit_mask v ends opposites =
    let n = length ends in
    mask_of (weigh (n * n) (OfPoint v) ∷ (weigh_points 4 ends ++ weigh_points 1 opposites)) (n * (n + 5))

-- the limit mask of a point on a crease, from the other ends of its two sharp edges
abbrev pub crease_limit_mask : ℕ → ℕ → ℕ → Mask
crease_limit_mask v first second = mask_of (weigh 4 (OfPoint v) ∷ weigh_points 1 (first ∷ second ∷ [])) 6

-- the limit mask, unless the point or an edge at it is semi-sharp
abbrev pub unless_semi_sharp : ℕ → Bool → Result Mask LimitCause → Result Mask LimitCause
unless_semi_sharp v semi limit = if semi then Err (SemiSharp v) else limit

-- the limit mask of a point by its lasting rule, or the fault that it has none
abbrev pub limit_of_rule : ℕ → List ℕ → List ℕ → Bool → Rule → Result Mask LimitCause
limit_of_rule v ends opposites semi CornerRule = Ok (corner_mask v)
limit_of_rule v ends opposites semi DartRule = unless_semi_sharp v semi (Err (Dart v))
limit_of_rule v ends opposites semi (CreaseRule first second) =
    unless_semi_sharp v semi (Ok (crease_limit_mask v (get_or ends first 0) (get_or ends second 0)))
limit_of_rule v ends opposites semi SmoothRule = unless_semi_sharp v semi (Ok (smooth_limit_mask v ends opposites))

-- the limit mask of a point over the points of its level, or the fault that it has none
abbrev pub limit_of : Level → ℕ → Result Mask LimitCause
limit_of level v =
    limit_of_rule v (ends_at level v) (opposites_at level v) (has_semi_sharp (vertex_sharpness_of level v) (ring_at level v))
    (lasting_rule (vertex_sharpness_of level v) (ring_at level v))

-- the limit mask, or the point itself if it has none
abbrev pub mask_or_itself : ℕ → Result Mask LimitCause → Mask
mask_or_itself v (Ok mask) = mask
mask_or_itself v (Err cause) = corner_mask v

-- the limit mask of a point of a level, or the point itself if it has none
abbrev pub limit_mask : Level → ℕ → Mask
limit_mask level v = mask_or_itself v (limit_of level v)

-- the limit masks of all points of a level
abbrev pub limit_masks : Level → List Mask
limit_masks level = map (limit_mask level) (range_with_len 0 level.point_count)

-- the fault of a result without limit mask, in a list
abbrev pub cause_of_limit : Result Mask LimitCause → List LimitCause
cause_of_limit (Ok mask) = []
cause_of_limit (Err cause) = cause ∷ []

-- the faults of all points of a level without a limit mask, by point
abbrev pub limit_causes : Level → List LimitCause
limit_causes level = flat_map (λ v. cause_of_limit (limit_of level v)) (range_with_len 0 level.point_count)

-- the values of the limit points of a level, from those of its points
abbrev pub limit_values : Level → List Value → List Value
limit_values level values = map (mask_value (source_value level values)) (limit_masks level)

-- the common denominators of the limit points of a level, from those of its points
abbrev pub limit_denominators : Level → List ℕ → List ℕ
limit_denominators level denominators = map (mask_denominator (source_denominator level denominators)) (limit_masks level)

-- the supports of the limit points of a level, from those of its points
abbrev pub limit_supports : ℕ → Level → List (List ℕ) → List (List ℕ)
limit_supports controls level supports = map (mask_support controls (source_support controls level supports)) (limit_masks level)

-- the coordinates of the limit points after k steps, from control numbers over the common denominator of the channel
abbrev pub limit_coordinates : Level → ℕ → List ℤ → ℕ → List Value
limit_coordinates level common controls k =
    map (over_common common) (limit_values (refined_level level k) (refined_values level CatmullClark (control_values controls) k))

-- the limit points, coordinate by coordinate
abbrev pub limit_points : Level → ℕ → List (ℤ × ℤ × ℤ) → ℕ → List Point
limit_points level common controls k =
    points_of_coordinates
    (limit_coordinates level common (map (λ p. p.0) controls) k)
    (limit_coordinates level common (map (λ p. p.1) controls) k)
    (limit_coordinates level common (map (λ p. p.2) controls) k)

-- the common denominators of the limit points of a channel after k steps
abbrev pub limit_denominators_after : Channel → ℕ → List ℕ
limit_denominators_after channel k = limit_denominators (channel_level channel k) (denominators_after channel k)

-- the number of entries of the rows of the limit points of a channel after k steps
abbrev pub limit_entries_after : Channel → ℕ → ℕ
limit_entries_after channel k =
    sum_by length (limit_supports channel.base.point_count (channel_level channel k) (refined_supports channel.base channel.scheme k))

-- the faults of the limit points after k steps, in order
abbrev pub limit_faults : Channel → ℕ → List Fault
limit_faults channel k =
    map Limit (limit_causes (channel_level channel k))
    ++ (fault_where (list_any (nat_lt number_bound) (limit_denominators_after channel k)) (Overflow LimitRows k DenominatorOverflow)
    ++ (fault_where (nat_lt entry_bound (limit_entries_after channel k)) (TooLarge LimitEntries)
    ++ fault_where (nat_lt number_bound (fold max 1 (limit_denominators_after channel k) * max channel.greatest channel.common)) (Overflow LimitRows k ValueOverflow)))
