-- The limit mask of a point and its mask in the next level: of corners, of smooth points and of points of a crease.
use Rattle.std.proofs.Common.{◌≡◌, ℕ, ◌+◌, ◌≤◌, Bool, true, false, nat_eq, nat_lt, pos, ◌*ℤ◌, List, [], ◌∷◌, length, map, get_or, Ok, arith, refl, ap, sym, ◌∙◌}
use Rattle.std.specs.List.{list_all, count_by}
use Rattle.std.proofs.lemmas.Bool.{ltb-true}
use Rattle.std.proofs.lemmas.Int.{ints}
use Rattle.std.proofs.lemmas.List.{length-map, get_or-map}
use Rattle.subdiv_model.specs.Lists.{places}
use Rattle.subdiv_model.specs.Polygons.{is_over}
use Rattle.subdiv_model.specs.Manifold.{is_simple}
use Rattle.subdiv_model.specs.Sharpness.{Sharpness, Smooth, Infinite, Method, uniform_child, half_child, is_semi_sharp, Semi, Normal, Chaikin}
use Rattle.subdiv_model.specs.Rule.{Rule, SmoothRule, CreaseRule, CornerRule, rule_of_sharp_edges, vertex_rule, child_ring}
use Rattle.subdiv_model.specs.Level.{Level, edge_sharpness_of, vertex_sharpness_of, edges_at, faces_at, ring_at}
use Rattle.subdiv_model.specs.Child.{half_sharpness, child_level}
use Rattle.subdiv_model.specs.Feature.{is_infinite}
use Rattle.subdiv_model.specs.Mask.{CatmullClark, vertex_mask, corner_mask, crease_mask, smooth_vertex_mask, other_end, ends_at}
use Rattle.subdiv_model.specs.Limit.{has_semi_sharp, limit_of, limit_of_rule, opposites_at, crease_limit_mask, smooth_limit_mask}
use Rattle.number_laws.proofs.CountLemmas.{one_if, count-cons, any-count}
use Rattle.number_laws.proofs.ListLemmas.{places-from-length}
use Rattle.number_laws.proofs.WholeNumberLemmas.{times-one}
use Rattle.level_laws.proofs.NewPointLemmas.{old-uniform}
use Rattle.limit_laws.proofs.PlaceLemmas.{places-mapped, HasTwoPlaces}
use Rattle.limit_laws.proofs.RuleLemmas.{same-rule, ring-stays, same-crease}
use Rattle.limit_laws.proofs.SumExchangeLemmas.{number_if, sum-count}
use Rattle.limit_laws.proofs.RingRuleLemmas.{count-map, count-all, StaysCorner, itself, bare, edges, corner-lasts, corner-now, IsPlain, plain-semi, plain-rule, plain-now, plain-stays}
use Rattle.limit_laws.proofs.EdgeStarLemmas.{child-ends}

-- Corners.

half-infinite : (method : Method) (ring : List Sharpness) (s : Sharpness) → one_if (is_infinite s) ≤ one_if (is_infinite (half_child method ring s))
half-infinite Normal ring Smooth = omega arith
half-infinite Chaikin ring Smooth = omega arith
half-infinite method ring (Semi num den) = omega arith
half-infinite Normal ring Infinite = omega arith
half-infinite Chaikin ring Infinite = omega arith

ring-infinite : (method : Method) (all ring : List Sharpness) → count_by is_infinite ring ≤ count_by is_infinite (map (half_child method all) ring)
ring-infinite method all [] = omega arith
ring-infinite method all (s ∷ ring) =
    omega (
      arith,
      count-cons is_infinite s ring,
      count-cons is_infinite (half_child method all s) (map (half_child method all) ring),
      half-infinite method all s,
      ring-infinite method all ring,
    )

-- what makes a point a corner at every later level holds in the next level
corner-next : (method : Method) (vertex : Sharpness) (ring : List Sharpness) → StaysCorner vertex ring → StaysCorner (uniform_child vertex) (child_ring method ring)
corner-next method vertex ring (itself e) = itself (ap uniform_child e)
corner-next method vertex ring (bare e) = bare (length-map ring (half_child method ring) ∙ e)
corner-next method vertex ring (edges h) = edges (omega (arith, h, ring-infinite method ring ring))

-- a rule without edges that are sharp
none-placed : (l : List ℕ) → length l ≡ 0 → rule_of_sharp_edges l ≡ SmoothRule
none-placed [] h = refl
none-placed (n ∷ l) h = absurd (omega arith)

module _ (level : Level) (v : ℕ) where
  abbrev vertex : Sharpness
  vertex = vertex_sharpness_of level v

  abbrev ring : List Sharpness
  ring = ring_at level v

  abbrev next_ring : List Sharpness
  next_ring = child_ring level.method ring

  pub corner-limit : StaysCorner vertex ring → limit_of level v ≡ Ok (corner_mask v)
  corner-limit is = ap (limit_of_rule v (ends_at level v) (opposites_at level v) (has_semi_sharp vertex ring)) (corner-lasts vertex ring is)

  pub corner-vertex : StaysCorner vertex ring → vertex_mask level CatmullClark v ≡ corner_mask v
  corner-vertex is =
      same-rule vertex (uniform_child vertex) ring next_ring v (ends_at level v) (faces_at level v) CornerRule
      (corner-now vertex ring is) (corner-now (uniform_child vertex) next_ring (corner-next level.method vertex ring is)) refl

  -- Where nothing is semi-sharp the ring stays as it is.

  pub plain-ring : IsPlain vertex ring → next_ring ≡ ring
  plain-ring is = ring-stays level.method ring ring (plain-stays ring is.semi)

  module _ (is : IsPlain vertex ring) (rule : Rule) (by : rule_of_sharp_edges (places is_infinite ring) ≡ rule) where
    plain-limit : limit_of level v ≡ limit_of_rule v (ends_at level v) (opposites_at level v) false rule
    plain-limit =
        ap (limit_of_rule v (ends_at level v) (opposites_at level v) (has_semi_sharp vertex ring)) (plain-rule vertex ring is ∙ by)
        ∙ ap (λ b. limit_of_rule v (ends_at level v) (opposites_at level v) b rule) (plain-semi vertex ring is)

    plain-first : vertex_rule vertex ring ≡ rule
    plain-first = plain-now vertex ring is ∙ by

    plain-second : vertex_rule (uniform_child vertex) next_ring ≡ rule
    plain-second =
        ap (λ s. vertex_rule (uniform_child s) next_ring) is.smooth ∙ ap (λ s. vertex_rule s next_ring) (sym is.smooth)
        ∙ ap (vertex_rule vertex) (plain-ring is) ∙ plain-first

  -- Smooth points.

  module _ (is : IsPlain vertex ring) (none : count_by is_infinite ring ≡ 0) where
    no-places : rule_of_sharp_edges (places is_infinite ring) ≡ SmoothRule
    no-places = none-placed (places is_infinite ring) (places-from-length is_infinite 0 ring ∙ none)

    pub smooth-limit : limit_of level v ≡ Ok (smooth_limit_mask v (ends_at level v) (opposites_at level v))
    smooth-limit = plain-limit is SmoothRule no-places

    pub smooth-vertex : vertex_mask level CatmullClark v ≡ smooth_vertex_mask v (ends_at level v) (faces_at level v)
    smooth-vertex =
        same-rule vertex (uniform_child vertex) ring next_ring v (ends_at level v) (faces_at level v) SmoothRule
        (plain-first is SmoothRule no-places) (plain-second is SmoothRule no-places) refl

  -- Creases.

  abbrev pub infinite_at : ℕ × ℕ → Bool
  infinite_at e = is_infinite (edge_sharpness_of level e)

  module _ (is : IsPlain vertex ring) (two : HasTwoPlaces infinite_at (0, 0) 0 (edges_at level v)) where
    -- the ends of the two edges
    abbrev pub first_end : ℕ
    first_end = other_end v (get_or (edges_at level v) two.i (0, 0))

    abbrev pub second_end : ℕ
    second_end = other_end v (get_or (edges_at level v) two.j (0, 0))

    two-placed : rule_of_sharp_edges (places is_infinite ring) ≡ CreaseRule two.i two.j
    two-placed =
        let first : 0 + two.i ≡ two.i = omega arith in
        let second : 0 + two.j ≡ two.j = omega arith in
        ap rule_of_sharp_edges (places-mapped (edge_sharpness_of level) is_infinite 0 (edges_at level v) ∙ two.is)
        ∙ ap (λ i. CreaseRule i (0 + two.j)) first ∙ ap (λ j. CreaseRule two.i j) second

    first-at : get_or (ends_at level v) two.i 0 ≡ first_end
    first-at = get_or-map (other_end v) (edges_at level v) two.i (0, 0) 0 (omega (arith, two.order, two.within))

    second-at : get_or (ends_at level v) two.j 0 ≡ second_end
    second-at = get_or-map (other_end v) (edges_at level v) two.j (0, 0) 0 two.within

    pub crease-limit : limit_of level v ≡ Ok (crease_limit_mask v first_end second_end)
    crease-limit =
        plain-limit is (CreaseRule two.i two.j) two-placed
        ∙ ap (λ n. Ok (crease_limit_mask v n (get_or (ends_at level v) two.j 0))) first-at ∙ ap (λ n. Ok (crease_limit_mask v first_end n)) second-at

    pub crease-vertex : vertex_mask level CatmullClark v ≡ crease_mask v first_end second_end
    crease-vertex =
        same-rule vertex (uniform_child vertex) ring next_ring v (ends_at level v) (faces_at level v) (CreaseRule two.i two.j)
        (plain-first is (CreaseRule two.i two.j) two-placed) (plain-second is (CreaseRule two.i two.j) two-placed) (same-crease two.i two.j)
        ∙ ap (λ n. crease_mask v n (get_or (ends_at level v) two.j 0)) first-at ∙ ap (λ n. crease_mask v first_end n) second-at

-- The lasting rule of the point in the next level.

same-number : (m n : ℕ) → pos m *ℤ pos 1 ≡ pos n *ℤ pos 1 → m ≡ n
same-number m n h = let e : pos m ≡ pos n = sym (times-one (pos m)) ∙ h ∙ times-one (pos n) in omega (arith, ints, e)

module _ (level : Level) (over : is_over level.point_count level.polygons ≡ true) (simple : list_all is_simple level.polygons ≡ true) (v : ℕ) (below : nat_lt v level.point_count ≡ true) where
  -- as many edges pass a test at the point as halves do
  pub child-count : (test : Sharpness → Bool) → count_by test (ring_at (child_level level) v) ≡ count_by test (child_ring level.method (ring_at level v))
  child-count test =
      let sums = child-ends level over simple v below (λ n s. number_if (test s) (pos 1)) in
      let here = sum-count (λ a. test (edge_sharpness_of (child_level level) a)) (pos 1) (edges_at (child_level level) v) in
      let there = sum-count (λ b. test (half_sharpness level b v)) (pos 1) (edges_at level v) in
      count-map test (edge_sharpness_of (child_level level)) (edges_at (child_level level) v)
      ∙ same-number _ _ (sym here ∙ sums ∙ there)
      ∙ sym (count-map (λ s. test (half_child level.method (ring_at level v) s)) (edge_sharpness_of level) (edges_at level v))
      ∙ sym (count-map test (half_child level.method (ring_at level v)) (ring_at level v))

  pub child-length : length (ring_at (child_level level) v) ≡ length (ring_at level v)
  child-length =
      sym (count-all (ring_at (child_level level) v)) ∙ child-count (λ s. true) ∙ count-all (child_ring level.method (ring_at level v))
      ∙ length-map (ring_at level v) (half_child level.method (ring_at level v))

  child-vertex : vertex_sharpness_of (child_level level) v ≡ uniform_child (vertex_sharpness_of level v)
  child-vertex = old-uniform level v (ltb-true v level.point_count below)

  pub child-corner : StaysCorner (vertex_sharpness_of level v) (ring_at level v) → StaysCorner (vertex_sharpness_of (child_level level) v) (ring_at (child_level level) v)
  child-corner (itself e) = itself (child-vertex ∙ ap uniform_child e)
  child-corner (bare e) = bare (child-length ∙ e)
  child-corner (edges h) =
      edges (omega (arith, h, child-count is_infinite, ring-infinite level.method (ring_at level v) (ring_at level v)))

  module _ (is : IsPlain (vertex_sharpness_of level v) (ring_at level v)) where
    pub plain-count : (test : Sharpness → Bool) → count_by test (ring_at (child_level level) v) ≡ count_by test (ring_at level v)
    plain-count test = child-count test ∙ ap (count_by test) (plain-ring level v is)

    pub child-plain : IsPlain (vertex_sharpness_of (child_level level) v) (ring_at (child_level level) v)
    child-plain = record {
      smooth = child-vertex ∙ ap uniform_child is.smooth;
      semi = any-count is_semi_sharp (ring_at (child_level level) v) ∙ ap (nat_lt 0) (plain-count is_semi_sharp) ∙ sym (any-count is_semi_sharp (ring_at level v)) ∙ is.semi;
      some = ap (λ n. nat_eq n 0) child-length ∙ is.some;
    }
