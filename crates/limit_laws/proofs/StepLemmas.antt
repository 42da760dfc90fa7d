-- One step leaves the limit of a point as it is.
use Rattle.std.proofs.Common.{◌≡◌, ℕ, ◌+◌, ◌<◌, ◌≤◌, Bool, true, not, ◌&&◌, nat_lt, ℤ, pos, ◌+ℤ◌, List, [], length, map, get_or, Ok, arith, refl, ap, sym, ◌∙◌, ◌⊎◌, inl, inr, subst}
use Rattle.std.specs.List.{list_all, list_any, count_by}
use Rattle.std.proofs.lemmas.Bool.{and_parts, ltb-true, cases_lt}
use Rattle.std.proofs.Math.IntN.{+ℤ_idr}
use Rattle.std.proofs.Math.ListN.{get_or-eq_default}
use Rattle.std.proofs.lemmas.List.{length-map, get_or-map}
use Rattle.std.proofs.lemmas.List.Sums.{AllPass-from_list_all}
use Rattle.subdiv_model.specs.Polygons.{same_side, has_corner, polygon_at}
use Rattle.subdiv_model.specs.Edges.{all_sides, edges_of, faces_of_edge, has_end}
use Rattle.subdiv_model.specs.Sharpness.{is_semi_sharp}
use Rattle.subdiv_model.specs.Level.{Level, edge_sharpness_of, vertex_sharpness_of, edges_at, faces_at, ring_at}
use Rattle.subdiv_model.specs.Child.{face_point, half_sharpness, child_level}
use Rattle.subdiv_model.specs.Feature.{is_infinite}
use Rattle.subdiv_model.specs.Mask.{CatmullClark, SourcePoint, OfPoint, OfFace, Mask, mask_of_edge, mask_of_corners, smooth_edge_mask, sharp_edge_mask, corner_mask, edge_mask, child_masks, has_means, is_mean, is_mean_of, is_source_of, other_end, ends_at}
use Rattle.subdiv_model.specs.Value.{Value, IsSameValue, whole_value}
use Rattle.subdiv_model.specs.Refined.{mask_value, point_value, corner_value, source_value, child_values}
use Rattle.subdiv_model.specs.Limit.{has_quads, opposites_at, limit_of, mask_or_itself, crease_limit_mask, smooth_limit_mask}
use Rattle.mesh_laws.proofs.ChildClosedLemmas.{same-pair}
use Rattle.mesh_laws.proofs.ChildCountLemmas.{is_inside}
use Rattle.mesh_laws.proofs.ChildOverLemmas.{listed-sound}
use Rattle.level_laws.proofs.HalfLemmas.{point_of, is_edge}
use Rattle.mask_laws.proofs.BoundaryLemmas.{IsSharpAtBoundary, is-infinite}
use Rattle.mask_laws.proofs.ListLemmas.{places-below}
use Rattle.mask_laws.proofs.SumLemmas.{sum_ℤ}
use Rattle.limit_laws.proofs.PlaceLemmas.{HasTwoPlaces, two-placed}
use Rattle.limit_laws.proofs.ChildValueLemmas.{listed, value-old, value-face, value-new}
use Rattle.limit_laws.proofs.RuleLemmas.{middle-edge, stays}
use Rattle.limit_laws.proofs.SumExchangeLemmas.{number_if, sum-agree, sum-map}
use Rattle.limit_laws.proofs.FaceStarLemmas.{sum-read, sum-unnumbered}
use Rattle.limit_laws.proofs.ChildFaceStarLemmas.{child-opposites}
use Rattle.limit_laws.proofs.EdgeStarLemmas.{kept-both, sides-listed, child-ends}
use Rattle.limit_laws.proofs.RingRuleLemmas.{count-map, HasLimitKind, corner, crease, smooth, limit-kind, IsPlain, StaysCorner, plain-stays}
use Rattle.limit_laws.proofs.LimitMaskLemmas.{corner-limit, corner-vertex, smooth-limit, smooth-vertex, infinite_at, first_end, second_end, crease-limit, crease-vertex, child-corner, child-plain, plain-count, child-length}
use Rattle.limit_laws.proofs.SmoothStarLemmas.{all-by, both-pass, listed-own, both-ends, is_smooth, smooth-is, smooth-edges, smooth-star, all-plain}
use Rattle.limit_laws.proofs.StarRecords.{AreValues, IsSmoothNext}
use Rattle.limit_laws.proofs.SameValueLemmas.{mask-positive, corners-positive}
use Rattle.limit_laws.proofs.CreaseValueLemmas.{crease-value, corner-value}
use Rattle.limit_laws.proofs.SmoothValueLemmas.{smooth-value}
use Rattle.std.proofs.lemmas.List.Folds.{list_all-map}

-- Sums with two terms.

pub two-sum : {X : Type 0} (test : X → Bool) (f : X → ℤ) (d : X) (xs : List X) (two : HasTwoPlaces test d 0 xs)
    → sum_ℤ (λ x. number_if (test x) (f x)) xs ≡ f (get_or xs two.i d) +ℤ f (get_or xs two.j d)
two-sum test f d xs two =
    let first : 0 + two.i ≡ two.i = omega arith in
    let second : 0 + two.j ≡ two.j = omega arith in
    sym (sum-unnumbered (λ x. number_if (test x) (f x)) 0 xs)
    ∙ sym (sum-read d xs (λ k x. f x) test)
    ∙ ap (sum_ℤ (λ k. f (get_or xs k d))) two.is
    ∙ ap (λ n. f (get_or xs n d) +ℤ (f (get_or xs (0 + two.j) d) +ℤ pos 0)) first
    ∙ ap (λ n. f (get_or xs two.i d) +ℤ (f (get_or xs n d) +ℤ pos 0)) second
    ∙ ap (λ n. f (get_or xs two.i d) +ℤ n) (+ℤ_idr (f (get_or xs two.j d)))

-- Values over denominators above 0.

-- each value is over one above 0
abbrev pub ArePositive : List Value → Type 0
ArePositive values = (k : ℕ) (d : Value) → k < length values → 0 < (get_or values k d).den

pub point-positive : (values : List Value) (v : ℕ) → ArePositive values → 0 < (point_value values v).den
point-positive values v each = here (cases_lt v (length values))
  where
    here : (v < length values) ⊎ (length values ≤ v) → 0 < (point_value values v).den
    here (inl below) = each v (whole_value (pos 0)) below
    here (inr beyond) =
        let none : point_value values v ≡ whole_value (pos 0) = get_or-eq_default values (whole_value (pos 0)) beyond in
        let den : (point_value values v).den ≡ 1 = ap (λ x. x.den) none in
        omega (arith, den)

pub corner-positive : (values : List Value) (s : SourcePoint) → ArePositive values → 0 < (corner_value values s).den
corner-positive values (OfPoint v) each = point-positive values v each
corner-positive values (OfFace f) each = omega arith

pub source-positive : (level : Level) (values : List Value) (s : SourcePoint) → ArePositive values → 0 < (source_value level values s).den
source-positive level values (OfPoint v) each = point-positive values v each
source-positive level values (OfFace f) each = corners-positive (corner_value values) (polygon_at level.polygons f) (λ s. corner-positive values s each)

mean-positive : (level : Level) (mask : Mask) → is_mean_of level mask ≡ true → 0 < mask.denominator
mean-positive level mask h =
    let parts = and_parts (is_mean mask) (list_all (λ t. is_source_of level t.source) mask.terms) h in
    let more = and_parts _ _ parts.0 in
    let last = and_parts _ _ more.1 in
    ltb-true 0 mask.denominator last.1

pub children-positive : (level : Level) (values : List Value) → has_means level CatmullClark ≡ true → ArePositive values → ArePositive (child_values level CatmullClark values)
children-positive level values means each k d below =
    let masks = child_masks level CatmullClark in
    let value = source_value level values in
    let none : Mask = record { terms = []; denominator = 1 } in
    let inside : k < length masks = omega (arith, below, length-map masks (mask_value value)) in
    let mean = AllPass-from_list_all (is_mean_of level) masks means k none inside in
    let is : get_or (map (mask_value value) masks) k d ≡ mask_value value (get_or masks k none) = get_or-map (mask_value value) masks k none d inside in
    let den : (get_or (map (mask_value value) masks) k d).den ≡ (mask_value value (get_or masks k none)).den = ap (λ x. x.den) is in
    let some = mask-positive value (get_or masks k none) (λ s. source-positive level values s each) (mean-positive level (get_or masks k none) mean) in
    omega (arith, den, some)

-- Points of one step.

-- the value of the limit in the next level is the same
pub record IsKeptBy (level : Level) (values : List Value) (v : ℕ) (mask : Mask) (next_level : Level) (next_values : List Value) : Type 0 where
  pub next : Mask
  pub is : limit_of next_level v ≡ Ok next
  pub same : IsSameValue (mask_value (source_value level values) mask) (mask_value (source_value next_level next_values) next)

module _ (level : Level) (is : IsSharpAtBoundary level) (means : has_means level CatmullClark ≡ true) (quads : has_quads level ≡ true) (values : List Value) (each : ArePositive values) (v : ℕ) (below : nat_lt v level.point_count ≡ true) where
  abbrev next_values : List Value
  next_values = child_values level CatmullClark values

  abbrev value : SourcePoint → Value
  value = source_value level values

  abbrev next : SourcePoint → Value
  next = source_value (child_level level) next_values

  abbrev IsKept : Mask → Type 0
  IsKept mask = IsKeptBy level values v mask (child_level level) next_values

  value-positive : (s : SourcePoint) → 0 < (value s).den
  value-positive s = source-positive level values s each

  next-positive : (s : SourcePoint) → 0 < (next s).den
  next-positive s = source-positive (child_level level) next_values s (children-positive level values means each)

  -- facts of an edge at the point
  record IsAtPoint (e : ℕ × ℕ) : Type 0 where
    ends : has_end v e ≡ true
    named : is_edge level e ≡ true
    own : listed level e ≡ e

  abbrev is_known : ℕ × ℕ → Bool
  is_known e = has_end v e && (list_any (same_side e) (all_sides level.polygons) && same_side e (listed level e))

  known-edges : list_all is_known (edges_at level v) ≡ true
  known-edges =
      kept-both (has_end v) (λ e. list_any (same_side e) (all_sides level.polygons) && same_side e (listed level e)) (edges_of level.polygons)
      (both-pass (λ e. list_any (same_side e) (all_sides level.polygons)) (λ e. same_side e (listed level e)) (edges_of level.polygons)
      (sides-listed level.polygons) (listed-own level))

  known : (e : ℕ × ℕ) → is_known e ≡ true → IsAtPoint e
  known e h =
      let parts = and_parts (has_end v e) (list_any (same_side e) (all_sides level.polygons) && same_side e (listed level e)) h in
      let more = and_parts (list_any (same_side e) (all_sides level.polygons)) (same_side e (listed level e)) parts.1 in
      record {
        ends = parts.0;
        named = (and_parts (is_edge level e) (is_inside level.point_count e) (listed-sound level.point_count level.polygons is.over e more.0)).0;
        own = sym (same-pair e (listed level e) more.1);
      }

  -- the value of the new point of an edge at the point
  edge-value : (e : ℕ × ℕ) → IsAtPoint e → next (OfPoint (point_of level e)) ≡ mask_value value (edge_mask level CatmullClark e)
  edge-value e at = value-new level CatmullClark values e at.named ∙ ap (λ (s : ℕ × ℕ). mask_value value (edge_mask level CatmullClark s)) at.own

  -- Corners.

  kept-corner : StaysCorner (vertex_sharpness_of level v) (ring_at level v) → IsKept (corner_mask v)
  kept-corner stay = record {
    next = corner_mask v;
    is = corner-limit (child_level level) v (child-corner level is.over is.simple v below stay);
    same = corner-value value next v value-positive next-positive (value-old level CatmullClark values v below ∙ ap (mask_value value) (corner-vertex level v stay));
  }

  -- Creases.

  module _ (plain : IsPlain (vertex_sharpness_of level v) (ring_at level v)) (count : count_by is_infinite (ring_at level v) ≡ 2) where
    two : HasTwoPlaces (infinite_at level v) (0, 0) 0 (edges_at level v)
    two = two-placed (infinite_at level v) (0, 0) 0 (edges_at level v) (sym (count-map is_infinite (edge_sharpness_of level) (edges_at level v)) ∙ count)

    plain_next : IsPlain (vertex_sharpness_of (child_level level) v) (ring_at (child_level level) v)
    plain_next = child-plain level is.over is.simple v below plain

    two_next : HasTwoPlaces (infinite_at (child_level level) v) (0, 0) 0 (edges_at (child_level level) v)
    two_next =
        two-placed (infinite_at (child_level level) v) (0, 0) 0 (edges_at (child_level level) v)
        (sym (count-map is_infinite (edge_sharpness_of (child_level level)) (edges_at (child_level level) v)) ∙ plain-count level is.over is.simple v below plain is_infinite ∙ count)

    -- an edge of the two
    sharp-value : (i : ℕ) → i < length (edges_at level v) → infinite_at level v (get_or (edges_at level v) i (0, 0)) ≡ true
        → (IsAtPoint (get_or (edges_at level v) i (0, 0)))
        × (next (OfPoint (point_of level (get_or (edges_at level v) i (0, 0)))) ≡ mask_value value (sharp_edge_mask (get_or (edges_at level v) i (0, 0))))
    sharp-value i inside sharp =
        let e : ℕ × ℕ = get_or (edges_at level v) i (0, 0) in
        let at = known e (AllPass-from_list_all is_known (edges_at level v) known-edges i (0, 0) inside) in
        (at, edge-value e at ∙ ap (mask_value value) (middle-edge level e (is-infinite (edge_sharpness_of level e) sharp)))

    -- the ends of both in the next level are their new points
    same-two : (g : ℕ → ℤ)
        → g (first_end (child_level level) v plain_next two_next) +ℤ g (second_end (child_level level) v plain_next two_next)
        ≡ g (point_of level (get_or (edges_at level v) two.i (0, 0))) +ℤ g (point_of level (get_or (edges_at level v) two.j (0, 0)))
    same-two g =
        let later = two-sum (infinite_at (child_level level) v) (λ e. g (other_end v e)) (0, 0) (edges_at (child_level level) v) two_next in
        let now = two-sum (infinite_at level v) (λ e. g (point_of level e)) (0, 0) (edges_at level v) two in
        let plain_edges : list_all (λ e. not (is_semi_sharp (edge_sharpness_of level e))) (edges_at level v) ≡ true =
        sym (list_all-map (λ s. not (is_semi_sharp s)) (edge_sharpness_of level) (edges_at level v)) ∙ plain-stays (ring_at level v) plain.semi in
        sym later
        ∙ child-ends level is.over is.simple v below (λ n s. number_if (is_infinite s) (g n))
        ∙ sum-agree (λ e. not (is_semi_sharp (edge_sharpness_of level e)))
        (λ e. number_if (is_infinite (half_sharpness level e v)) (g (point_of level e))) (λ e. number_if (infinite_at level v e) (g (point_of level e)))
        (λ e h. ap (λ s. number_if (is_infinite s) (g (point_of level e))) (stays level.method (ring_at level v) (edge_sharpness_of level e) h)) (edges_at level v) plain_edges
        ∙ now

    kept-crease : IsKept (crease_limit_mask v (first_end level v plain two) (second_end level v plain two))
    kept-crease =
        let first = sharp-value two.i (omega (arith, two.order, two.within)) two.first in
        let second = sharp-value two.j two.within two.second in
        record {
          next = crease_limit_mask v (first_end (child_level level) v plain_next two_next) (second_end (child_level level) v plain_next two_next);
          is = crease-limit (child_level level) v plain_next two_next;
          same = crease-value value next v (first_end level v plain two) (second_end level v plain two)
              (point_of level (get_or (edges_at level v) two.i (0, 0))) (point_of level (get_or (edges_at level v) two.j (0, 0)))
              (first_end (child_level level) v plain_next two_next) (second_end (child_level level) v plain_next two_next)
              (get_or (edges_at level v) two.i (0, 0)) (get_or (edges_at level v) two.j (0, 0)) value-positive next-positive
              (both-ends v (get_or (edges_at level v) two.i (0, 0)) first.0.ends) (both-ends v (get_or (edges_at level v) two.j (0, 0)) second.0.ends)
              (value-old level CatmullClark values v below ∙ ap (mask_value value) (crease-vertex level v plain two))
              first.1 second.1 same-two;
        }

  -- Smooth points.

  module _ (plain : IsPlain (vertex_sharpness_of level v) (ring_at level v)) (none : count_by is_infinite (ring_at level v) ≡ 0) where
    are-values : AreValues value next (corner_value values)
    are-values = record {
      positive = value-positive;
      positive_next = next-positive;
      positive_point = λ s. corner-positive values s each;
      at_point = λ p. refl;
    }

    -- the values of the new points about it
    smooth-next : IsSmoothNext value next (corner_value values) v (edges_at level v) (faces_at level v) (polygon_at level.polygons) (faces_of_edge level.polygons)
        (point_of level) (face_point level.point_count) (ends_at (child_level level) v) (opposites_at (child_level level) v)
    smooth-next =
        let edges = edges_at level v in
        let faces = faces_at level v in
        let inside = places-below (has_corner v) 0 (length level.polygons) level.polygons (omega arith) in
        record {
          center = value-old level CatmullClark values v below ∙ ap (mask_value value) (smooth-vertex level v plain none);
          at_edges = all-by (λ e. is_known e && is_smooth (edge_sharpness_of level e))
              (λ e. next (OfPoint (point_of level e)) ≡ mask_value value (smooth_edge_mask e (faces_of_edge level.polygons e)))
              (λ e h.
              let parts = and_parts (is_known e) (is_smooth (edge_sharpness_of level e)) h in
              edge-value e (known e parts.0)
              ∙ ap (λ s. mask_value value (mask_of_edge s e (faces_of_edge level.polygons e))) (smooth-is (edge_sharpness_of level e) parts.1))
              edges (both-pass is_known (λ e. is_smooth (edge_sharpness_of level e)) edges known-edges (smooth-edges level is quads v below plain none));
          at_faces = all-by (λ f. nat_lt f (length level.polygons)) (λ f. next (OfPoint (face_point level.point_count f)) ≡ mask_value value (mask_of_corners (polygon_at level.polygons f)))
              (λ f h. value-face level CatmullClark values f (ltb-true f (length level.polygons) h)) faces inside;
          old_faces = all-by (λ f. nat_lt f (length level.polygons)) (λ f. value (OfFace f) ≡ mask_value (corner_value values) (mask_of_corners (polygon_at level.polygons f)))
              (λ f h. refl) faces inside;
          count_next =
              length-map (edges_at (child_level level) v) (other_end v)
              ∙ sym (length-map (edges_at (child_level level) v) (edge_sharpness_of (child_level level)))
              ∙ child-length level is.over is.simple v below
              ∙ length-map edges (edge_sharpness_of level);
          same_ends = λ g. sum-map g (other_end v) (edges_at (child_level level) v) ∙ child-ends level is.over is.simple v below (λ n s. g n);
          same_opposites = λ g. child-opposites level.point_count level.polygons v below g (all-plain level is quads);
        }

    kept-smooth : IsKept (smooth_limit_mask v (ends_at level v) (opposites_at level v))
    kept-smooth = record {
      next = smooth_limit_mask v (ends_at (child_level level) v) (opposites_at (child_level level) v);
      is = smooth-limit (child_level level) v (child-plain level is.over is.simple v below plain) (plain-count level is.over is.simple v below plain is_infinite ∙ none);
      same = smooth-value value next (corner_value values) v (edges_at level v) (faces_at level v) (opposites_at level v) (polygon_at level.polygons) (faces_of_edge level.polygons)
          (point_of level) (face_point level.point_count) (ends_at (child_level level) v) (opposites_at (child_level level) v)
          are-values (smooth-star level is quads v below plain none) smooth-next;
    }

  -- Each point that has a limit mask.

  -- two masks that are the limit mask are one
  one-mask : (a b : Mask) → limit_of level v ≡ Ok a → limit_of level v ≡ Ok b → a ≡ b
  one-mask a b h k = ap (mask_or_itself v) (sym h ∙ k)

  pub kept-limit : (mask : Mask) → limit_of level v ≡ Ok mask → IsKept mask
  kept-limit mask ok = of_kind (limit-kind (vertex_sharpness_of level v) (ring_at level v) v (ends_at level v) (opposites_at level v) mask ok)
    where
      moved : (own : Mask) → limit_of level v ≡ Ok own → IsKept own → IsKept mask
      moved own h k = subst IsKept (one-mask own mask h ok) k

      of_kind : HasLimitKind (vertex_sharpness_of level v) (ring_at level v) → IsKept mask
      of_kind (corner stay) = moved (corner_mask v) (corner-limit level v stay) (kept-corner stay)
      of_kind (crease plain count) =
          moved (crease_limit_mask v (first_end level v plain (two plain count)) (second_end level v plain (two plain count)))
          (crease-limit level v plain (two plain count)) (kept-crease plain count)
      of_kind (smooth plain none) =
          moved (smooth_limit_mask v (ends_at level v) (opposites_at level v)) (smooth-limit level v plain none) (kept-smooth plain none)
