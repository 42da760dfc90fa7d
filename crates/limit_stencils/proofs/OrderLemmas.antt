-- The limit mask of a vertex in any order of its edges and faces. The order of the level's lists gives the weights of the definition.
use Rattle.std.proofs.Common.{◌≡◌, ℕ, ◌+◌, ◌*◌, ◌<◌, Bool, true, false, ◌||◌, nat_eq, if◌then◌else◌, List, [], ◌∷◌, ◌++◌, length, map, get_or, Result, Ok, Err, arith, refl, ap, sym, subst, ◌∙◌}
use Rattle.std.specs.List.{filter, list_any}
use Rattle.std.specs.List.Sorted.{IsPermutation}
use Rattle.std.proofs.lemmas.List.{length-map}
use Rattle.std.proofs.lemmas.List.Sorted.{IsPermutation-map, IsPermutation-cons, IsPermutation-append}
use Rattle.subdiv_model.specs.Lists.{places}
use Rattle.subdiv_model.specs.Polygons.{polygon_at}
use Rattle.subdiv_model.specs.Edges.{edges_of, edge_number, has_end}
use Rattle.subdiv_model.specs.Sharpness.{Sharpness, Smooth, is_semi_sharp}
use Rattle.subdiv_model.specs.Rule as model
use Rattle.subdiv_model.specs.Rule.{rule_of_sharp_edges}
use Rattle.subdiv_model.specs.Level.{Level, vertex_sharpness_of, edges_at, faces_at, ring_at}
use Rattle.subdiv_model.specs.Feature.{is_infinite}
use Rattle.subdiv_model.specs.Mask.{Mask, OfPoint, weigh, weigh_points, mask_of, corner_mask, ends_at, other_end}
use Rattle.subdiv_model.specs.Fault as cause
use Rattle.subdiv_model.specs.Fault.{LimitCause}
use Rattle.subdiv_model.specs.Limit.{opposite_corner, opposites_at, has_semi_sharp, smooth_limit_mask, crease_limit_mask, unless_semi_sharp, limit_of_rule, limit_of}
use Rattle.sharpness_laws.specs.SameWeights.{HaveSameWeights}
use Rattle.sharpness_laws.proofs.PermutationLemmas.{same_in_any_order, IsPermutation-filter}
use Rattle.sharpness_laws.proofs.OrderLemmas.{count-any_order}
use Rattle.sharpness_laws.proofs.RuleOrderLemmas.{reads-from, places_from-map}
use Rattle.sharpness_laws.proofs.MaskOrderLemmas.{same_weights-refl, same-terms, points-permuted}
use Rattle.level_topology.specs.Topology.{Topology, IsTopology, edge_at, edge_numbers_at}
use Rattle.level_topology.proofs.LawLemmas.{own-number}
use Rattle.level_topology.proofs.PlaceLemmas.{filter-item}
use Rattle.mask_rules.specs.Around.{end_of_edge, ends_in, faces_in}
use Rattle.mask_rules.proofs.AroundLemmas.{map-same}
use Rattle.limit_stencils.specs.declared.lasting.LastingRule.TheVariants.{Corner}
use Rattle.limit_stencils.specs.AtVertex.{opposites_in, rule_of_ends, limit_by_rule, limit_in, is_semi_in, IsSameLimit}

-- whether some item passes is the same in any order
pub any-permuted : {X : Type 0} (test : X → Bool) (xs ys : List X) → IsPermutation xs ys → list_any test xs ≡ list_any test ys
any-permuted test = same_in_any_order (list_any test) (λ x b. test x || b) (λ x xs. refl) (λ x y b. swap (test x) (test y) b)
  where
    swap : (a b c : Bool) → (a || (b || c)) ≡ (b || (a || c))
    swap true true c = refl
    swap true false c = refl
    swap false true c = refl
    swap false false c = refl

same-unless : (v : ℕ) (semi : Bool) (limit other : Result Mask LimitCause) → IsSameLimit limit other
    → IsSameLimit (unless_semi_sharp v semi limit) (unless_semi_sharp v semi other)
same-unless v true limit other h = refl
same-unless v false limit other h = h

module _ (v : ℕ) (semi : Bool) (ends other opposites others : List ℕ) (h : IsPermutation ends other) (k : IsPermutation opposites others) where
  same-smooth : HaveSameWeights (smooth_limit_mask v ends opposites) (smooth_limit_mask v other others)
  same-smooth =
      let count : length ends ≡ length other = count-any_order ends other h in
      let P =
      λ (n : ℕ). HaveSameWeights (smooth_limit_mask v ends opposites)
      (mask_of (weigh (n * n) (OfPoint v) ∷ (weigh_points 4 other ++ weigh_points 1 others)) (n * (n + 5))) in
      let n = length ends in
      subst P count
      (same-terms _ _ (n * (n + 5)) (n * (n + 5)) (IsPermutation-cons (weigh (n * n) (OfPoint v)) _ _
      (IsPermutation-append _ _ _ _ (points-permuted 4 ends other h) (points-permuted 1 opposites others k))) refl)

  same-crease : (a b c d : ℕ) → IsPermutation (a ∷ b ∷ []) (c ∷ d ∷ []) → HaveSameWeights (crease_limit_mask v a b) (crease_limit_mask v c d)
  same-crease a b c d p = same-terms _ _ 6 6 (IsPermutation-cons (weigh 4 (OfPoint v)) _ _ (points-permuted 1 (a ∷ b ∷ []) (c ∷ d ∷ []) p)) refl

  abbrev here : List ℕ → Result Mask LimitCause
  here xs = limit_by_rule v ends opposites semi (rule_of_ends xs)

  abbrev there : List ℕ → Result Mask LimitCause
  there ys = limit_by_rule v other others semi (rule_of_ends ys)

  same-ends : (xs ys : List ℕ) → IsPermutation xs ys → length xs ≡ length ys → IsSameLimit (here xs) (there ys)
  same-ends [] [] p e = same-unless v semi (Ok (smooth_limit_mask v ends opposites)) (Ok (smooth_limit_mask v other others)) same-smooth
  same-ends [] (c ∷ ys) p e = absurd (omega arith)
  same-ends (a ∷ []) [] p e = absurd (omega arith)
  same-ends (a ∷ []) (c ∷ []) p e = same-unless v semi (Err (cause.Dart v)) (Err (cause.Dart v)) refl
  same-ends (a ∷ []) (c ∷ (d ∷ ys)) p e = absurd (omega arith)
  same-ends (a ∷ (b ∷ [])) [] p e = absurd (omega arith)
  same-ends (a ∷ (b ∷ [])) (c ∷ []) p e = absurd (omega arith)
  same-ends (a ∷ (b ∷ [])) (c ∷ (d ∷ [])) p e =
      same-unless v semi (Ok (crease_limit_mask v a b)) (Ok (crease_limit_mask v c d)) (same-crease a b c d p)
  same-ends (a ∷ (b ∷ [])) (c ∷ (d ∷ (f ∷ ys))) p e = absurd (omega arith)
  same-ends (a ∷ (b ∷ (x ∷ xs))) [] p e = absurd (omega arith)
  same-ends (a ∷ (b ∷ (x ∷ xs))) (c ∷ []) p e = absurd (omega arith)
  same-ends (a ∷ (b ∷ (x ∷ xs))) (c ∷ (d ∷ [])) p e = absurd (omega arith)
  same-ends (a ∷ (b ∷ (x ∷ xs))) (c ∷ (d ∷ (f ∷ ys))) p e = same_weights-refl (corner_mask v)

  -- a corner by the vertex itself, or else by its edges
  corner-or : (b : Bool) (xs ys : List ℕ) → IsPermutation xs ys
      → IsSameLimit (limit_by_rule v ends opposites semi (if b then Corner else rule_of_ends xs)) (limit_by_rule v other others semi (if b then Corner else rule_of_ends ys))
  corner-or true xs ys p = same_weights-refl (corner_mask v)
  corner-or false xs ys p = same-ends xs ys p (count-any_order xs ys p)

-- the rule of the definitions names sharp edges by their places
places-ends : (v : ℕ) (ends opposites : List ℕ) (semi : Bool) (sharp : List ℕ)
    → limit_of_rule v ends opposites semi (rule_of_sharp_edges sharp) ≡ limit_by_rule v ends opposites semi (rule_of_ends (map (λ p. get_or ends p 0) sharp))
places-ends v ends opposites semi [] = refl
places-ends v ends opposites semi (a ∷ []) = refl
places-ends v ends opposites semi (a ∷ (b ∷ [])) = refl
places-ends v ends opposites semi (a ∷ (b ∷ (c ∷ more))) = refl

corner-places : (v : ℕ) (ends opposites : List ℕ) (semi b : Bool) (sharp : List ℕ)
    → limit_of_rule v ends opposites semi (if b then model.CornerRule else rule_of_sharp_edges sharp)
    ≡ limit_by_rule v ends opposites semi (if b then Corner else rule_of_ends (map (λ p. get_or ends p 0) sharp))
corner-places v ends opposites semi true sharp = refl
corner-places v ends opposites semi false sharp = places-ends v ends opposites semi sharp

pub map-twice : {X Y Z : Type 0} (f : Y → Z) (g : X → Y) (xs : List X) → map f (map g xs) ≡ map (λ x. f (g x)) xs
map-twice f g [] = refl
map-twice f g (x ∷ xs) = ap (λ l. f (g x) ∷ l) (map-twice f g xs)

module _ (t : Topology) (v : ℕ) (is : IsTopology t) (inside : v < t.level.point_count) where
  abbrev level : Level
  level = t.level

  abbrev numbers : List ℕ
  numbers = edge_numbers_at level.polygons v

  abbrev items : List ℕ
  items = get_or t.edges_at v []

  abbrev end : ℕ → ℕ
  end = end_of_edge level.polygons v

  abbrev kept : ℕ → Sharpness
  kept e = get_or level.edge_sharpness e Smooth

  abbrev sharp : ℕ → Bool
  sharp e = is_infinite (kept e)

  pub edges-permuted : IsPermutation numbers items
  edges-permuted = (is.listed v inside).edges

  ring-numbers : ring_at level v ≡ map kept numbers
  ring-numbers = sym (map-twice kept (edge_number level.polygons) (edges_at level v))

  ends-numbers : ends_at level v ≡ map end numbers
  ends-numbers =
      sym (map-twice end (edge_number level.polygons) (edges_at level v)
      ∙ map-same (λ edge. end (edge_number level.polygons edge)) (other_end v) (0, 0) (edges_at level v) (λ k h.
      let found = filter-item (has_end v) (0, 0) (edges_of level.polygons) k h in
      ap (λ edge. end (edge_number level.polygons edge)) found.2 ∙ ap (λ n. other_end v (edge_at level.polygons n)) (own-number level.polygons found.0 found.1)
      ∙ ap (other_end v) (sym found.2)))

  -- the other ends of the sharp edges of the definition, at their places
  ends-of-places : map (λ p. get_or (map end numbers) p 0) (places is_infinite (map kept numbers)) ≡ map end (filter sharp numbers)
  ends-of-places =
      ap (map (λ p. get_or (map end numbers) p 0)) (places_from-map kept is_infinite 0 numbers)
      ∙ reads-from end sharp (λ p. get_or (map end numbers) p 0) 0 numbers (λ i. ap (λ n. get_or (map end numbers) n 0) (let e : 0 + i ≡ i = omega arith in e))

  vertex : Sharpness
  vertex = vertex_sharpness_of level v

  limit-over : List ℕ → List Sharpness → Result Mask LimitCause
  limit-over ends ring =
      limit_of_rule v ends (opposites_at level v) (has_semi_sharp vertex ring)
      (if is_infinite vertex || nat_eq (length ring) 0 then model.CornerRule else rule_of_sharp_edges (places is_infinite ring))

  semi-same : has_semi_sharp vertex (map kept numbers) ≡ is_semi_in t v
  unfolding vertex
  semi-same = ap (λ b. is_semi_sharp (vertex_sharpness_of level v) || b) (any-permuted is_semi_sharp (map kept numbers) (map kept items) (IsPermutation-map kept numbers items edges-permuted))

  count-same : length (map kept numbers) ≡ length items
  count-same = length-map numbers kept ∙ count-any_order numbers items edges-permuted

  pub same-limit : IsSameLimit (limit_of t.level v) (limit_in t v)
  unfolding vertex limit-over
  same-limit =
      let ends = map end numbers in
      let opposites = opposites_at level v in
      let semi = is_semi_in t v in
      let first : limit_of level v ≡ limit-over ends (map kept numbers) =
      ap (λ l. limit-over l (ring_at level v)) ends-numbers ∙ ap (limit-over ends) ring-numbers in
      let second : limit-over ends (map kept numbers)
      ≡ limit_by_rule v ends opposites semi (if is_infinite vertex || nat_eq (length items) 0 then Corner else rule_of_ends (map end (filter sharp numbers))) =
      corner-places v ends opposites (has_semi_sharp vertex (map kept numbers)) (is_infinite vertex || nat_eq (length (map kept numbers)) 0) (places is_infinite (map kept numbers))
      ∙ ap (λ l. limit_by_rule v ends opposites (has_semi_sharp vertex (map kept numbers)) (if is_infinite vertex || nat_eq (length (map kept numbers)) 0 then Corner else rule_of_ends l)) ends-of-places
      ∙ ap (λ b. limit_by_rule v ends opposites b (if is_infinite vertex || nat_eq (length (map kept numbers)) 0 then Corner else rule_of_ends (map end (filter sharp numbers)))) semi-same
      ∙ ap (λ n. limit_by_rule v ends opposites semi (if is_infinite vertex || nat_eq n 0 then Corner else rule_of_ends (map end (filter sharp numbers)))) count-same in
      subst (λ limit. IsSameLimit limit (limit_in t v)) (sym (first ∙ second))
      (corner-or v semi ends (ends_in t v) opposites (opposites_in t v) (IsPermutation-map end numbers items edges-permuted)
      (IsPermutation-map (λ face. opposite_corner v (polygon_at level.polygons face)) (faces_at level v) (faces_in t v) (is.listed v inside).faces)
      (is_infinite vertex || nat_eq (length items) 0) (map end (filter sharp numbers)) (map end (filter sharp items))
      (IsPermutation-map end (filter sharp numbers) (filter sharp items) (IsPermutation-filter sharp numbers items edges-permuted)))
