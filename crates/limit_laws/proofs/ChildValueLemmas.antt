-- The values of the points of the next level by their numbers, and the whole numbers of linear refinement.
use Rattle.std.proofs.Common.{◌≡◌, ℕ, ◌+◌, ◌-◌, ◌<◌, true, false, nat_lt, ℤ, pos, ◌+ℤ◌, ◌*ℤ◌, List, [], ◌++◌, length, map, get_or, arith, ap, sym, ◌∙◌, ◌⊎◌, inl, inr, if◌then◌else◌}
use Rattle.std.specs.List.{range_with_len}
use Rattle.std.proofs.lemmas.Bool.{ltb-true, cond-true, cond-false}
use Rattle.std.proofs.lemmas.Bool.Decides.{nat_tests}
use Rattle.std.proofs.Math.IntN.{+ℤ_comm}
use Rattle.std.proofs.lemmas.List.{get_or_append_left, get_or-append_right, get_or-map}
use Rattle.std.proofs.lemmas.List.FromFn.{get_or-map-range_with_len, length-map-range_with_len}
use Rattle.std.proofs.lemmas.List.Sums.{passes_at_first}
use Rattle.std.proofs.Math.ListN.{get_or-map as get_or-map_any}
use Rattle.subdiv_model.specs.Polygons.{same_edge}
use Rattle.subdiv_model.specs.Edges.{edges_of, edge_number}
use Rattle.subdiv_model.specs.Level.{Level}
use Rattle.subdiv_model.specs.Mask.{Mask, Scheme, vertex_mask, face_mask, edge_mask, child_masks}
use Rattle.subdiv_model.specs.Value.{Value}
use Rattle.subdiv_model.specs.Refined.{mask_value, point_value, source_value, child_values}
use Rattle.mesh_laws.proofs.EdgeLemmas.{position-within}
use Rattle.texture_laws.proofs.JoinLemmas.{edge-cases}
use Rattle.level_laws.proofs.HalfLemmas.{point_of, is_edge}

-- the edge as it is listed
abbrev pub listed : Level → ℕ × ℕ → ℕ × ℕ
listed level e = get_or (edges_of level.polygons) (edge_number level.polygons e) (0, 0)

-- the edge as it is listed is the same edge
pub listed-same : (level : Level) (e : ℕ × ℕ) → is_edge level e ≡ true → same_edge e (listed level e) ≡ true
listed-same level e named = passes_at_first (same_edge e) (edges_of level.polygons) (0, 0) (position-within e (edges_of level.polygons) named)

-- Masks by the number of the point.

-- the mask that is read where there is no point
abbrev no_mask : Mask
no_mask = record { terms = []; denominator = 1 }

module _ (level : Level) (scheme : Scheme) where
  abbrev vertices : List Mask
  vertices = map (vertex_mask level scheme) (range_with_len 0 level.point_count)

  abbrev faces : List Mask
  faces = map (face_mask level) (range_with_len 0 (length level.polygons))

  abbrev edges : List Mask
  edges = map (edge_mask level scheme) (edges_of level.polygons)

  -- the mask of a point of the level
  mask-old : (v : ℕ) → v < level.point_count → get_or (child_masks level scheme) v no_mask ≡ vertex_mask level scheme v
  mask-old v below =
      let count = length-map-range_with_len (vertex_mask level scheme) 0 level.point_count in
      get_or_append_left vertices (faces ++ edges) no_mask v (omega (arith, below, count))
      ∙ get_or-map-range_with_len (vertex_mask level scheme) 0 level.point_count v v no_mask below (omega arith)

  -- the mask of the new point of a face
  mask-face : (f : ℕ) → f < length level.polygons → get_or (child_masks level scheme) (level.point_count + f) no_mask ≡ face_mask level f
  mask-face f below =
      let points = level.point_count in
      let first = length-map-range_with_len (vertex_mask level scheme) 0 points in
      let second = length-map-range_with_len (face_mask level) 0 (length level.polygons) in
      let one : points + f - points ≡ f = omega arith in
      get_or-append_right vertices (faces ++ edges) points (points + f) no_mask first (omega arith)
      ∙ ap (λ i. get_or (faces ++ edges) i no_mask) one
      ∙ get_or_append_left faces edges no_mask f (omega (arith, below, second))
      ∙ get_or-map-range_with_len (face_mask level) 0 (length level.polygons) f f no_mask below (omega arith)

  -- the mask of the new point of an edge
  mask-new : (e : ℕ × ℕ) → is_edge level e ≡ true
      → get_or (child_masks level scheme) (point_of level e) no_mask ≡ edge_mask level scheme (listed level e)
  mask-new e named =
      let points = level.point_count in
      let sides = length level.polygons in
      let n = edge_number level.polygons e in
      let first = length-map-range_with_len (vertex_mask level scheme) 0 points in
      let second = length-map-range_with_len (face_mask level) 0 sides in
      let within = position-within e (edges_of level.polygons) named in
      let one : point_of level e - points ≡ sides + n = omega arith in
      let two : sides + n - sides ≡ n = omega arith in
      get_or-append_right vertices (faces ++ edges) points (point_of level e) no_mask first (omega arith)
      ∙ ap (λ i. get_or (faces ++ edges) i no_mask) one
      ∙ get_or-append_right faces edges sides (sides + n) no_mask second (omega arith)
      ∙ ap (λ i. get_or edges i no_mask) two
      ∙ get_or-map (edge_mask level scheme) (edges_of level.polygons) n (0, 0) no_mask within

  -- a value is that of the mask with its number
  value-at : (xs : List Value) (q : ℕ)
      → point_value (child_values level scheme xs) q ≡ mask_value (source_value level xs) (get_or (child_masks level scheme) q no_mask)
  value-at xs q = get_or-map_any (mask_value (source_value level xs)) (child_masks level scheme) q no_mask

  -- a point of the level has the value of its vertex mask
  pub value-old : (xs : List Value) (v : ℕ) → nat_lt v level.point_count ≡ true
      → point_value (child_values level scheme xs) v ≡ mask_value (source_value level xs) (vertex_mask level scheme v)
  value-old xs v below = value-at xs v ∙ ap (mask_value (source_value level xs)) (mask-old v (ltb-true v level.point_count below))

  -- the new point of a face has the value of the mask of the face
  pub value-face : (xs : List Value) (f : ℕ) → f < length level.polygons
      → point_value (child_values level scheme xs) (level.point_count + f) ≡ mask_value (source_value level xs) (face_mask level f)
  value-face xs f below = value-at xs (level.point_count + f) ∙ ap (mask_value (source_value level xs)) (mask-face f below)

  -- the new point of an edge has the value of the mask of the edge
  pub value-new : (xs : List Value) (e : ℕ × ℕ) → is_edge level e ≡ true
      → point_value (child_values level scheme xs) (point_of level e) ≡ mask_value (source_value level xs) (edge_mask level scheme (listed level e))
  value-new xs e named = value-at xs (point_of level e) ∙ ap (mask_value (source_value level xs)) (mask-new e named)

-- Linear refinement in whole numbers, over twice the denominator. An old point has twice its number, and the new point of an edge
-- has the sum of the numbers of its ends.
abbrev pub next_number : Level → (ℕ → ℤ) → ℕ → ℤ
next_number level number q =
    if nat_lt q level.point_count then pos 2 *ℤ number q
    else number (get_or (edges_of level.polygons) (q - (level.point_count + length level.polygons)) (0, 0)).0
    +ℤ number (get_or (edges_of level.polygons) (q - (level.point_count + length level.polygons)) (0, 0)).1

module _ (level : Level) (number : ℕ → ℤ) where
  -- the number of an old point
  pub number-old : (v : ℕ) → nat_lt v level.point_count ≡ true → next_number level number v ≡ pos 2 *ℤ number v
  number-old v below = cond-true (nat_lt v level.point_count) (pos 2 *ℤ number v) _ below

  -- the number of the new point of an edge, from the edge as it is listed
  pub number-listed : (e : ℕ × ℕ) → next_number level number (point_of level e) ≡ number (listed level e).0 +ℤ number (listed level e).1
  number-listed e =
      let points = level.point_count in
      let sides = length level.polygons in
      let n = edge_number level.polygons e in
      let place : point_of level e - (points + sides) ≡ n = omega arith in
      cond-false (nat_lt (point_of level e) points) (pos 2 *ℤ number (point_of level e)) _ (above points (sides + n) (point_of level e) (omega arith))
      ∙ ap (λ i. number (get_or (edges_of level.polygons) i (0, 0)).0 +ℤ number (get_or (edges_of level.polygons) i (0, 0)).1) place
    where
      above : (m k q : ℕ) → q ≡ m + k → nat_lt q m ≡ false
      above m k q h = grind (arith, nat_tests)

  -- in either direction the ends have one sum
  either-direction : (e s : ℕ × ℕ) → (e ≡ s) ⊎ (e ≡ (s.1, s.0)) → number s.0 +ℤ number s.1 ≡ number e.0 +ℤ number e.1
  either-direction e s (inl h) = ap (λ (t : ℕ × ℕ). number t.0 +ℤ number t.1) (sym h)
  either-direction e s (inr h) = +ℤ_comm (number s.0) (number s.1) ∙ ap (λ (t : ℕ × ℕ). number t.0 +ℤ number t.1) (sym h)

  -- the number of the new point of an edge, named in either direction
  pub number-new : (e : ℕ × ℕ) → is_edge level e ≡ true → next_number level number (point_of level e) ≡ number e.0 +ℤ number e.1
  number-new e named = number-listed e ∙ either-direction e (listed level e) (edge-cases e (listed level e) (listed-same level e named))
