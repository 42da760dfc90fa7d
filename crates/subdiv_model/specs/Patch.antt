-- Patches: the limit surface of a regular inner face, at the places of a grid.
-- Source: Catmull and Clark 1978: over regular quads the surface is the uniform bicubic B-spline of their points.
use Rattle.std.specs.Prelude.{ℕ, ◌+◌, ◌-◌, ◌*◌, ◌%◌, ◌^◌, ℤ, Bool, not, ◌&&◌, nat_eq, nat_lt, List, [], ◌∷◌, ◌++◌, length, map, zip, get_or, max, codes, if◌then◌else◌}
use Rattle.std.specs.List.{list_all, list_any, flat_map, fold, sum_by, range_with_len, position_or_len}
use Rattle.subdiv_model.specs.Polygons.{Polygon, polygon_at, has_side}
use Rattle.subdiv_model.specs.Level.{Level, faces_at}
use Rattle.subdiv_model.specs.Child.{refined_level}
use Rattle.subdiv_model.specs.Feature.{is_at_boundary, is_smooth_at}
use Rattle.subdiv_model.specs.Mask.{CatmullClark, OfPoint, Term, Mask, mask_of, weigh}
use Rattle.subdiv_model.specs.Value.{Value}
use Rattle.subdiv_model.specs.Refined.{Point, mask_value, source_value, mask_denominator, source_denominator, refined_values, control_values, over_common, points_of_coordinates}
use Rattle.subdiv_model.specs.Support.{mask_support, source_support, refined_supports}
use Rattle.subdiv_model.specs.NumberText.{number_text}
use Rattle.subdiv_model.specs.Text.{line_text, point_words}
use Rattle.subdiv_model.specs.Channel.{Channel, number_bound, entry_bound, channel_level, denominators_after, fault_where}
use Rattle.subdiv_model.specs.Fault.{Fault, Place, NoFace, NotRegular, TooLarge, PatchEntries, Overflow, Patch, DenominatorOverflow, ValueOverflow}

-- the face has four corners
abbrev pub is_quad : Level → ℕ → Bool
is_quad level face = nat_eq (length (polygon_at level.polygons face)) 4

-- the point is on no boundary edge, has four faces, all quads, and nothing at it is sharp
abbrev pub is_regular_in_quads : Level → ℕ → Bool
is_regular_in_quads level v =
    not (is_at_boundary level v) && nat_eq (length (faces_at level v)) 4 && list_all (is_quad level) (faces_at level v) && is_smooth_at level v

-- the face is a quad whose four corners are regular
abbrev pub has_patch : Level → ℕ → Bool
has_patch level face = is_quad level face && list_all (is_regular_in_quads level) (polygon_at level.polygons face)

-- a corner of the first polygon with the directed edge, a number of corners after the start of the edge
abbrev pub corner_from : List Polygon → ℕ × ℕ → ℕ → ℕ
corner_from polygons side places =
    let polygon = polygon_at polygons (position_or_len (has_side side) polygons) in
    get_or polygon ((position_or_len (nat_eq side.0) polygon + places) % 4) 0

-- the corner beside v of the quad beyond the side from v to w
abbrev pub beside_start : List Polygon → ℕ × ℕ → ℕ
beside_start polygons side = corner_from polygons (side.1, side.0) 2

-- the corner beside w of the quad beyond the side from v to w
abbrev pub beside_end : List Polygon → ℕ × ℕ → ℕ
beside_end polygons side = corner_from polygons (side.1, side.0) 3

-- the corner opposite v in the quad that touches the face only at v
abbrev pub across_start : List Polygon → ℕ × ℕ → ℕ
across_start polygons side = corner_from polygons (beside_start polygons side, side.0) 3

-- The 16 points of the patch of a quad, row by row. The corners are the inner four, (1, 1), (2, 1), (2, 2) and (1, 2).
abbrev pub grid_of_quad : List Polygon → ℕ → ℕ → ℕ → ℕ → List (List ℕ)
grid_of_quad polygons a b c d =
    (across_start polygons (a, b) ∷ beside_start polygons (a, b) ∷ beside_end polygons (a, b) ∷ across_start polygons (b, c) ∷ [])
    ∷ (beside_end polygons (d, a) ∷ a ∷ b ∷ beside_start polygons (b, c) ∷ [])
    ∷ (beside_start polygons (d, a) ∷ d ∷ c ∷ beside_end polygons (b, c) ∷ [])
    ∷ (across_start polygons (d, a) ∷ beside_end polygons (c, d) ∷ beside_start polygons (c, d) ∷ across_start polygons (c, d) ∷ [])
    ∷ []

-- the 16 points of the patch of a face, row by row
abbrev pub patch_points : Level → ℕ → List (List ℕ)
patch_points level face =
    let quad = polygon_at level.polygons face in
    grid_of_quad level.polygons (get_or quad 0 0) (get_or quad 1 0) (get_or quad 2 0) (get_or quad 3 0)

-- the four uniform cubic B-spline weights at i/m, over 6m^3
abbrev pub spline_weights : ℕ → ℕ → List ℕ
spline_weights m i =
    (m - i) ^ 3
    ∷ (3 * i ^ 3 + 4 * m ^ 3 - 6 * i ^ 2 * m)
    ∷ (3 * i ^ 2 * m + 3 * i * m ^ 2 + m ^ 3 - 3 * i ^ 3)
    ∷ i ^ 3
    ∷ []

-- a row of the grid with its weight across the rows; each point has its own weight along them
abbrev pub row_terms : List ℕ → ℕ × List ℕ → List Term
row_terms weights row = map (λ point. weigh (point.0 * row.0) (OfPoint point.1)) (zip weights row.1)

-- the mask of the patch at (i/m, j/m)
abbrev pub patch_mask : Level → ℕ → ℕ → ℕ × ℕ → Mask
patch_mask level face m place =
    mask_of (flat_map (row_terms (spline_weights m place.0)) (zip (spline_weights m place.1) (patch_points level face))) (36 * m ^ 6)

-- the places (i, j) of the grid, row by row
abbrev pub patch_places : ℕ → List (ℕ × ℕ)
patch_places m = flat_map (λ j. map (λ i. (i, j)) (range_with_len 0 (m + 1))) (range_with_len 0 (m + 1))

-- the masks of all places of a grid of m steps
abbrev pub patch_masks : Level → ℕ → ℕ → List Mask
patch_masks level face m = map (patch_mask level face m) (patch_places m)

-- the values of the points of the patch, from those of the points of the level
abbrev pub patch_values : Level → ℕ → ℕ → List Value → List Value
patch_values level face m values = map (mask_value (source_value level values)) (patch_masks level face m)

-- the common denominators of the points of the patch, from those of the points of the level
abbrev pub patch_denominators : Level → ℕ → ℕ → List ℕ → List ℕ
patch_denominators level face m denominators = map (mask_denominator (source_denominator level denominators)) (patch_masks level face m)

-- the supports of the points of the patch, from those of the points of the level
abbrev pub patch_supports : ℕ → Level → ℕ → ℕ → List (List ℕ) → List (List ℕ)
patch_supports controls level face m supports = map (mask_support controls (source_support controls level supports)) (patch_masks level face m)

-- the denominators of the rows of the patch of a channel after k steps
abbrev pub patch_denominators_after : Channel → ℕ → ℕ → ℕ → List ℕ
patch_denominators_after channel k face m = patch_denominators (channel_level channel k) face m (denominators_after channel k)

-- the number of entries of the rows of the patch of a channel after k steps
abbrev pub patch_entries_after : Channel → ℕ → ℕ → ℕ → ℕ
patch_entries_after channel k face m =
    sum_by length (patch_supports channel.base.point_count (channel_level channel k) face m (refined_supports channel.base channel.scheme k))

-- the faults of a face without patch: the face does not exist, or is not a regular inner face
abbrev pub place_faults : Level → ℕ → List Fault
place_faults level face =
    if nat_lt face (length level.polygons) then fault_where (not (has_patch level face)) (Place (NotRegular face))
    else Place (NoFace (length level.polygons)) ∷ []

-- the faults of the patch of a face after k steps, in order
abbrev pub patch_faults : Channel → ℕ → ℕ → ℕ → List Fault
patch_faults channel k face m =
    place_faults (channel_level channel k) face
    ++ (fault_where (list_any (nat_lt number_bound) (patch_denominators_after channel k face m)) (Overflow Patch k DenominatorOverflow)
    ++ (fault_where (nat_lt entry_bound (patch_entries_after channel k face m)) (TooLarge PatchEntries)
    ++ fault_where (nat_lt number_bound (fold max 1 (patch_denominators_after channel k face m) * max channel.greatest channel.common)) (Overflow Patch k ValueOverflow)))

-- the coordinates of the patch after k steps, from control numbers over the common denominator of the channel
abbrev pub patch_coordinates : Level → ℕ → ℕ → ℕ → List ℤ → ℕ → List Value
patch_coordinates level face m common controls k =
    map (over_common common) (patch_values (refined_level level k) face m (refined_values level CatmullClark (control_values controls) k))

-- the points of the patch, coordinate by coordinate
abbrev pub patch_points_after : Level → ℕ → ℕ → ℕ → List (ℤ × ℤ × ℤ) → ℕ → List Point
patch_points_after level face m common controls k =
    points_of_coordinates
    (patch_coordinates level face m common (map (λ p. p.0) controls) k)
    (patch_coordinates level face m common (map (λ p. p.1) controls) k)
    (patch_coordinates level face m common (map (λ p. p.2) controls) k)

-- the line of a place of the patch
abbrev pub place_line : (ℕ × ℕ) × Point → List ℕ
place_line line = line_text (codes "s") (number_text line.0.0 ∷ number_text line.0.1 ∷ point_words line.1)

-- the text of the patch
abbrev pub patch_text : Level → ℕ → ℕ → ℕ → List (ℤ × ℤ × ℤ) → ℕ → List ℕ
patch_text level face m common controls k =
    line_text (codes "patch") (codes "face" ∷ number_text face ∷ codes "grid" ∷ number_text m ∷ [])
    ++ flat_map place_line (zip (patch_places m) (patch_points_after level face m common controls k))
