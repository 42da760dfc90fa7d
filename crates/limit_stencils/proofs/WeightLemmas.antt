-- The weights put for a vertex are those of its limit mask.
use Rattle.std.proofs.Common.{◌≡◌, ℕ, zero, suc, ◌+◌, ◌*◌, ◌<◌, Bool, true, false, ◌&&◌, ◌||◌, nat_eq, nat_lt, if◌then◌else◌, List, [], ◌∷◌, ◌++◌, length, get_or, Result, Ok, Err, OnOk, arith, refl, ap, sym, subst, ◌∙◌}
use Rattle.std.specs.List.{All, filter, flat_map, list_all}
use Rattle.std.specs.List.Sorted.{IsPermutation}
use Rattle.std.proofs.lemmas.Bool.{and_from, and_parts, cond_both, lt-ltb, ltb-true, false≢true}
use Rattle.std.proofs.lemmas.List.{get_or_default, length-map}
use Rattle.std.proofs.lemmas.List.Folds.{list_all-map}
use Rattle.std.proofs.lemmas.List.FromFn.{get_or-map-range_with_len, length-map-range_with_len}
use Rattle.std.proofs.lemmas.List.Sorted.{IsPermutation-refl, IsPermutation-sym, IsPermutation-cons, All-permutation, sum_by-IsPermutation}
use Rattle.std.proofs.lemmas.List.Sums.{list_all-from_AllPass}
use Rattle.subdiv_model.specs.Polygons.{polygon_at}
use Rattle.subdiv_model.specs.Edges.{all_sides, edges_of}
use Rattle.subdiv_model.specs.Sharpness.{Smooth}
use Rattle.subdiv_model.specs.Rule as model
use Rattle.subdiv_model.specs.Level.{Level, vertex_sharpness_of, ring_at}
use Rattle.subdiv_model.specs.Feature.{is_infinite}
use Rattle.subdiv_model.specs.Mask.{SourcePoint, OfPoint, OfFace, Term, Mask, mask_of, weigh, weigh_points, corner_mask, total_weight, ends_at}
use Rattle.subdiv_model.specs.Fault.{LimitCause}
use Rattle.subdiv_model.specs.Limit.{limit_of, limit_of_rule, limit_mask, limit_masks, mask_or_itself, cause_of_limit, opposite_corner, opposites_at, has_semi_sharp, lasting_rule}
use Rattle.sharpness_laws.specs.SameWeights.{HaveSameWeights, is_joined}
use Rattle.sharpness_laws.proofs.JoinedWeightLemmas.{weight_in-mask_of, weight_in-permuted}
use Rattle.sharpness_laws.proofs.MaskOrderLemmas.{same_weights-sym, same_weights-trans}
use Rattle.sharpness_laws.proofs.MaskValueLemmas.{joined-mask_of}
use Rattle.sharpness_laws.proofs.ProperLemmas.{all-get_or}
use Rattle.ratio128.specs.declared.memory.Memory.{Memory}
use Rattle.mesh_laws.proofs.ChildCountLemmas.{is_inside, sides-inside}
use Rattle.mesh_laws.proofs.ClosedLemmas.{all-at, first_named-all}
use Rattle.mask_laws.proofs.ListLemmas.{all-append, all-kept}
use Rattle.mask_laws.proofs.MaskLemmas.{total-cons, total-append}
use Rattle.mask_laws.proofs.SourceLemmas.{are_from, from-points}
use Rattle.level_topology.specs.Topology.{Topology, IsTopology, edge_at}
use Rattle.level_topology.proofs.LawLemmas.{edges-each}
use Rattle.mask_rules.specs.Around.{end_of_edge, ends_in, faces_in}
use Rattle.child_masks.proofs.OriginLemmas.{is-over}
use Rattle.stencil_factory.specs.MaskRows.{IsPointAmong, AreWeightsOf, mask_at, no_mask}
use Rattle.limit_stencils.specs.declared.lasting.LastingRule.{LastingRule}
use Rattle.limit_stencils.specs.declared.lasting.LastingRule.TheVariants.{Smooth as SmoothRule, Dart, Crease, Corner}
use Rattle.limit_stencils.specs.AtVertex.{face_terms, opposites_in, lasting_ends, rule_of_ends, rule_in, is_semi_in, limit_by_rule, limit_in, IsSameLimit, weights_by_rule}
use Rattle.limit_stencils.specs.Limits.{HasLimits}
use Rattle.limit_stencils.proofs.OrderLemmas.{same-limit}
use Rattle.limit_stencils.proofs.RoundLemmas.{smooth-round}
use Rattle.limit_stencils.proofs.NextLemmas.{quads-permuted}
use Rattle.limit_stencils.proofs.CauseLemmas.{same-causes, fine-at}

-- The terms of a vertex, those of its neighbours before those of its opposite corners.

abbrev smooth_listed : ℕ → List ℕ → List ℕ → Mask
smooth_listed v ends opposites =
    let n = length ends in
    record { terms = weigh (n * n) (OfPoint v) ∷ (weigh_points 4 ends ++ weigh_points 1 opposites); denominator = n * (n + 5) }

abbrev listed_by_rule : ℕ → List ℕ → List ℕ → LastingRule → Mask
listed_by_rule v ends opposites SmoothRule = smooth_listed v ends opposites
listed_by_rule v ends opposites (Dart end) = smooth_listed v ends opposites
listed_by_rule v ends opposites (Crease first second) =
    record { terms = weigh 4 (OfPoint v) ∷ weigh_points 1 (first ∷ second ∷ []); denominator = 6 }
listed_by_rule v ends opposites Corner = record { terms = weigh 1 (OfPoint v) ∷ []; denominator = 1 }

-- Weights.

-- the masks have equal denominators, and the terms in any order
record HaveSameTerms (m n : Mask) : Type 0 where
  denominator : m.denominator ≡ n.denominator
  terms : IsPermutation m.terms n.terms

-- weights of a mask are its weights in any order
permuted-weights : (count : ℕ) (mask m n : Mask) → HaveSameTerms m n → AreWeightsOf count mask n → AreWeightsOf count mask m
permuted-weights count mask m n h are = record {
  same = same_weights-trans m n mask (record { denominator = h.denominator; weights = λ source. weight_in-permuted m.terms n.terms source h.terms }) are.same;
  joined = are.joined;
  points = All-permutation (λ t. IsPointAmong count t.source) n.terms m.terms (IsPermutation-sym m.terms n.terms h.terms) are.points;
  total = sym (sum_by-IsPermutation (λ t. t.weight) m.terms n.terms h.terms) ∙ are.total ∙ sym h.denominator;
  positive = subst (λ d. 0 < d) (sym h.denominator) are.positive;
}

joining : (terms : List Term) (denominator : ℕ) → HaveSameWeights (record { terms = terms; denominator = denominator }) (mask_of terms denominator)
joining terms denominator = record { denominator = refl; weights = λ source. sym (weight_in-mask_of terms denominator source) }

module _ (v : ℕ) (ends opposites : List ℕ) where
  abbrev by-rule : Bool → LastingRule → Result Mask LimitCause
  by-rule semi rule = limit_by_rule v ends opposites semi rule

  abbrev weights : LastingRule → Mask
  weights rule = listed_by_rule v ends opposites rule

  rule-weighs : (semi : Bool) (rule : LastingRule) → cause_of_limit (by-rule semi rule) ≡ [] → IsSameLimit (Ok (weights rule)) (by-rule semi rule)
  rule-weighs true SmoothRule fine = absurd (cc)
  rule-weighs true (Dart end) fine = absurd (cc)
  rule-weighs true (Crease first second) fine = absurd (cc)
  rule-weighs true Corner fine = joining (weights Corner).terms 1
  rule-weighs false SmoothRule fine = joining (weights SmoothRule).terms (weights SmoothRule).denominator
  rule-weighs false (Dart end) fine = absurd (cc)
  rule-weighs false (Crease first second) fine = joining (weights (Crease first second)).terms 6
  rule-weighs false Corner fine = joining (weights Corner).terms 1

  limit-weighs : (mask : Mask) (limit other : Result Mask LimitCause) → cause_of_limit limit ≡ [] → IsSameLimit limit other → IsSameLimit (Ok mask) other
      → HaveSameWeights mask (mask_or_itself v limit)
  limit-weighs mask (Ok m) (Ok n) fine h k = same_weights-trans mask n m k (same_weights-sym m n h)
  limit-weighs mask (Ok m) (Err cause) fine h k = absurd k
  limit-weighs mask (Err cause) other fine h k = absurd (cc)

  joined-corner : is_joined (corner_mask v) ≡ true
  joined-corner = joined-mask_of (weigh 1 (OfPoint v) ∷ []) 1

  joined-rule : (semi : Bool) (rule : model.Rule) → is_joined (mask_or_itself v (limit_of_rule v ends opposites semi rule)) ≡ true
  joined-rule true model.SmoothRule = joined-corner
  joined-rule true model.DartRule = joined-corner
  joined-rule true (model.CreaseRule first second) = joined-corner
  joined-rule true model.CornerRule = joined-corner
  joined-rule false model.SmoothRule = joined-mask_of (smooth_listed v ends opposites).terms (smooth_listed v ends opposites).denominator
  joined-rule false model.DartRule = joined-corner
  joined-rule false (model.CreaseRule first second) =
      joined-mask_of (weigh 4 (OfPoint v) ∷ weigh_points 1 (get_or ends first 0 ∷ get_or ends second 0 ∷ [])) 6
  joined-rule false model.CornerRule = joined-corner

  -- Sums.

  points-total : (weight : ℕ) (points : List ℕ) → total_weight (weigh_points weight points) ≡ weight * length points
  points-total weight [] = omega arith
  points-total weight (p ∷ points) = total-cons (weigh weight (OfPoint p)) (weigh_points weight points) ∙ omega (arith, points-total weight points)

  abbrev IsWhole : Mask → Type 0
  IsWhole mask = (total_weight mask.terms ≡ mask.denominator) × (0 < mask.denominator)

  smooth-whole : 0 < length ends → length opposites ≡ length ends → IsWhole (smooth_listed v ends opposites)
  smooth-whole some round =
      let n = length ends in
      let around = weigh_points 4 ends ++ weigh_points 1 opposites in
      let sum : total_weight around ≡ 4 * n + n =
      total-append (weigh_points 4 ends) (weigh_points 1 opposites) ∙ omega (arith, points-total 4 ends, points-total 1 opposites, round) in
      let whole : n * n + (4 * n + n) ≡ n * (n + 5) = omega arith in
      (total-cons (weigh (n * n) (OfPoint v)) around ∙ ap (λ m. n * n + m) sum ∙ whole, above n some)
    where
      above : (n : ℕ) → 0 < n → 0 < n * (n + 5)
      above zero h = absurd (omega arith)
      above (suc n) h = omega arith

  rule-whole : (semi : Bool) (rule : LastingRule) → cause_of_limit (by-rule semi rule) ≡ []
      → (rule ≡ SmoothRule → (0 < length ends) × (length opposites ≡ length ends)) → IsWhole (weights rule)
  rule-whole semi SmoothRule fine round = let found = round refl in smooth-whole found.0 found.1
  rule-whole true (Dart end) fine round = absurd (cc)
  rule-whole false (Dart end) fine round = absurd (cc)
  rule-whole semi (Crease first second) fine round = (refl, omega arith)
  rule-whole semi Corner fine round = (refl, omega arith)

-- Points.

module _ (points : ℕ) where
  abbrev is_below : ℕ → Bool
  is_below v = nat_lt v points

  abbrev is_point : SourcePoint → Bool
  is_point (OfPoint v) = nat_lt v points
  is_point (OfFace f) = false

  among : (source : SourcePoint) → is_point source ≡ true → IsPointAmong points source
  among (OfPoint v) h = ltb-true v points h
  among (OfFace f) h = absurd (false≢true h)

  all-among : (terms : List Term) → are_from is_point terms ≡ true → All (λ t. IsPointAmong points t.source) terms
  all-among terms h k d inside = among (get_or terms k d).source (all-at (λ t. is_point t.source) terms k d inside h)

  -- a crease names points
  abbrev IsBelow : LastingRule → Type 0
  IsBelow SmoothRule = Unit {0}
  IsBelow (Dart end) = Unit {0}
  IsBelow (Crease first second) = (is_below first ≡ true) × (is_below second ≡ true)
  IsBelow Corner = Unit {0}

  rule-below : (b : Bool) (ends : List ℕ) → list_all is_below ends ≡ true → IsBelow (if b then Corner else rule_of_ends ends)
  rule-below true ends h = tt
  rule-below false [] h = tt
  rule-below false (a ∷ []) h = tt
  rule-below false (a ∷ (b ∷ [])) h =
      let first = and_parts (is_below a) (is_below b && true) h in (first.0, (and_parts (is_below b) true first.1).0)
  rule-below false (a ∷ (b ∷ (c ∷ ends))) h = tt

  module _ (v : ℕ) (ends opposites : List ℕ) (own : is_below v ≡ true) (h : list_all is_below ends ≡ true) (k : list_all is_below opposites ≡ true) where
    smooth-from : are_from is_point (smooth_listed v ends opposites).terms ≡ true
    smooth-from =
        and_from _ _ own (all-append (λ t. is_point t.source) (weigh_points 4 ends) (weigh_points 1 opposites)
        (from-points is_point 4 ends h) (from-points is_point 1 opposites k))

    rule-from : (rule : LastingRule) → IsBelow rule → are_from is_point (listed_by_rule v ends opposites rule).terms ≡ true
    rule-from SmoothRule below = smooth-from
    rule-from (Dart end) below = smooth-from
    rule-from (Crease first second) below = and_from _ _ own (and_from _ _ below.0 (and_from _ _ below.1 refl))
    rule-from Corner below = and_from _ _ own refl

module _ (t : Topology) (v : ℕ) (is : IsTopology t) (inside : v < t.level.point_count) where
  abbrev level : Level
  level = t.level

  abbrev items : List ℕ
  items = get_or t.edges_at v []

  abbrev end : ℕ → ℕ
  end = end_of_edge level.polygons v

  abbrev below : ℕ → Bool
  below p = nat_lt p level.point_count

  items-below : list_all (λ e. below (end e)) items ≡ true
  items-below =
      list_all-from_AllPass (λ e. below (end e)) items (λ k d h. either (get_or items k d) (edge-inside (get_or items k d) (edge-there k d h)))
    where
      edge-there : (k d : ℕ) → k < length items → get_or items k d < length (edges_of level.polygons)
      edge-there k d h = subst (λ e. e < length (edges_of level.polygons)) (get_or_default items k 0 d h) (edges-each t v k is inside h).exists

      edge-inside : (e : ℕ) → e < length (edges_of level.polygons) → is_inside level.point_count (edge_at level.polygons e) ≡ true
      edge-inside e h =
          all-at (is_inside level.point_count) (edges_of level.polygons) e (0, 0) h
          (first_named-all (is_inside level.point_count) (all_sides level.polygons) (sides-inside level.point_count level.polygons (is-over t is)))

      either : (e : ℕ) → is_inside level.point_count (edge_at level.polygons e) ≡ true → below (end e) ≡ true
      either e h =
          let edge = edge_at level.polygons e in
          let parts = and_parts (below edge.0) (below edge.1) h in
          cond_both (nat_eq v edge.0) edge.1 edge.0 (λ n. below n ≡ true) (λ _. parts.1) (λ _. parts.0)

  ends-below : list_all below (ends_in t v) ≡ true
  ends-below = list_all-map below end items ∙ items-below

  sharp-below : list_all below (lasting_ends level v items) ≡ true
  sharp-below =
      let sharp : ℕ → Bool = λ e. is_infinite (get_or level.edge_sharpness e Smooth) in
      list_all-map below end (filter sharp items) ∙ all-kept sharp (λ e. below (end e)) items items-below

  opposites-below : list_all below (opposites_in t v) ≡ true
  opposites-below =
      list_all-map below (λ face. opposite_corner v (polygon_at level.polygons face)) (faces_in t v)
      ∙ list_all-from_AllPass (λ face. below (opposite_corner v (polygon_at level.polygons face))) (faces_in t v) (λ k d h.
      let quad = polygon_at level.polygons (get_or (faces_in t v) k d) in
      all-get_or below quad _ v (all-get_or (list_all below) level.polygons (get_or (faces_in t v) k d) [] (is-over t is) refl) own)
    where
      own : below v ≡ true
      own = lt-ltb v level.point_count inside

  -- the terms put by the rule are those of the neighbours and of the opposite corners
  rule-terms : (semi : Bool) (rule : LastingRule) → cause_of_limit (limit_by_rule v (ends_in t v) (opposites_in t v) semi rule) ≡ []
      → (rule ≡ SmoothRule → IsPermutation (flat_map (face_terms level.polygons v) (faces_in t v)) (weigh_points 4 (ends_in t v) ++ weigh_points 1 (opposites_in t v)))
      → HaveSameTerms (weights_by_rule t v rule) (listed_by_rule v (ends_in t v) (opposites_in t v) rule)
  rule-terms semi SmoothRule fine around = record {
    denominator = refl;
    terms = IsPermutation-cons (weigh (length (ends_in t v) * length (ends_in t v)) (OfPoint v)) _ _ (around refl);
  }
  rule-terms true (Dart end) fine around = absurd (cc)
  rule-terms false (Dart end) fine around = absurd (cc)
  rule-terms semi (Crease first second) fine around = record { denominator = refl; terms = IsPermutation-refl _ }
  rule-terms semi Corner fine around = record { denominator = refl; terms = IsPermutation-refl _ }

  quads-around : HasLimits level → rule_in t v ≡ SmoothRule
      → IsPermutation (flat_map (face_terms level.polygons v) (faces_in t v)) (weigh_points 4 (ends_in t v) ++ weigh_points 1 (opposites_in t v))
  quads-around has smooth =
      let round = (smooth-round t v is inside has.boundary smooth).1 in
      quads-permuted t v is inside has.quads
      (sym (length-map (faces_in t v) (λ face. opposite_corner v (polygon_at level.polygons face))) ∙ round ∙ length-map items end)

  -- the weights put by the lasting rule are the limit mask of the point
  pub are-weights : HasLimits level → (put : Mask) → put ≡ weights_by_rule t v (rule_in t v)
      → AreWeightsOf level.point_count (limit_mask level v) put
  are-weights has put e =
      let ends = ends_in t v in
      let opposites = opposites_in t v in
      let rule = rule_in t v in
      let semi = is_semi_in t v in
      let same = same-limit t v is inside in
      let fine : cause_of_limit (limit_of level v) ≡ [] = fine-at level v has.fine inside in
      let none : cause_of_limit (limit_in t v) ≡ [] = sym (same-causes (limit_of level v) (limit_in t v) same) ∙ fine in
      let whole = rule-whole v ends opposites semi rule none (smooth-round t v is inside has.boundary) in
      subst (AreWeightsOf level.point_count (limit_mask level v)) (sym e)
      (permuted-weights level.point_count (limit_mask level v) (weights_by_rule t v rule) (listed_by_rule v ends opposites rule)
      (rule-terms semi rule none (quads-around has)) (record {
        same = limit-weighs v ends opposites (listed_by_rule v ends opposites rule) (limit_of level v) (limit_in t v) fine same (rule-weighs v ends opposites semi rule none);
        joined = joined-rule v (ends_at level v) (opposites_at level v) (has_semi_sharp (vertex_sharpness_of level v) (ring_at level v)) (lasting_rule (vertex_sharpness_of level v) (ring_at level v));
        points = all-among level.point_count (listed_by_rule v ends opposites rule).terms
            (rule-from level.point_count v ends opposites (lt-ltb v level.point_count inside) ends-below opposites-below rule
            (rule-below level.point_count (is_infinite (vertex_sharpness_of level v) || nat_eq (length items) 0) (lasting_ends level v items) sharp-below));
        total = whole.0;
        positive = whole.1;
      }))

-- the limit mask at its place in the list
pub mask-there : (level : Level) (v : ℕ) → v < level.point_count → limit_mask level v ≡ mask_at (limit_masks level) v
mask-there level v inside =
    let e : 0 + v ≡ v = omega arith in sym (get_or-map-range_with_len (limit_mask level) 0 level.point_count v v no_mask inside e)

-- The masks of a level as the trait sees them.

module _ (t seen : Topology) (e : t ≡ seen) where
  pub mask-count : length (limit_masks seen.level) ≡ t.level.point_count
  mask-count =
      ap (λ (s : Topology). length (limit_masks s.level)) (sym e) ∙ length-map-range_with_len (limit_mask t.level) 0 t.level.point_count

  -- the weights were put, or memory ran out
  pub puts-limit : (v : ℕ) (put : Mask) (result : Result (Unit {0}) Memory) → IsTopology t → v < t.level.point_count → HasLimits t.level
      → OnOk result (put ≡ weights_by_rule t v (rule_in t v))
      → OnOk result (AreWeightsOf seen.level.point_count (mask_at (limit_masks seen.level) v) put)
  puts-limit v put result is inside has made =
      subst (λ (s : Topology). OnOk result (AreWeightsOf s.level.point_count (mask_at (limit_masks s.level) v) put)) e (here result made)
    where
      here : (result : Result (Unit {0}) Memory) → OnOk result (put ≡ weights_by_rule t v (rule_in t v))
          → OnOk result (AreWeightsOf t.level.point_count (mask_at (limit_masks t.level) v) put)
      here (Ok _) made = subst (λ mask. AreWeightsOf t.level.point_count mask put) (mask-there t.level v inside) (are-weights t v is inside has put made)
      here (Err _) made = tt
