-- The masks of points are joined, and with the same weights they have one value, unreduced, and one denominator.
use Rattle.std.proofs.Common.{◌≡◌, ℕ, ◌+◌, ◌-◌, ◌*◌, ◌/◌, ℤ, pos, ◌+ℤ◌, ◌*ℤ◌, Bool, true, false, not, cond, ◌||◌, nat_eq, nat_lt, nat_le, List, [], ◌∷◌, ◌++◌, length, map, get_or, arith, refl, ap, sym, ◌∙◌}
use Rattle.std.specs.List.{filter}
use Rattle.std.specs.List.Sorted.{IsPermutation}
use Rattle.std.proofs.lemmas.Bool.{cond_both, and_from}
use Rattle.std.proofs.lemmas.List.Elements.{filter_passes}
use Rattle.std.proofs.lemmas.List.Sums.{list_all-from_AllPass}
use Rattle.std.proofs.lemmas.List.Sorted.{IsPermutation-map}
use Rattle.std.proofs.lemmas.Int.{ints}
use Rattle.std.proofs.Math.Nat.{mul_left_comm}
use Rattle.std.proofs.Math.IntN.{*ℤ_comm}
use Rattle.subdiv_model.specs.Sharpness.{Sharpness, Smooth, Semi, Infinite}
use Rattle.subdiv_model.specs.Rule.{Rule, SmoothRule, DartRule, CreaseRule, CornerRule, vertex_rule, same_mask, transition_weight}
use Rattle.subdiv_model.specs.Multiples.{lcm_of, lcm_of_all}
use Rattle.subdiv_model.specs.Mask.{SourcePoint, OfPoint, Term, Mask, weigh, weigh_points, weigh_faces, same_source, weight_in, has_source, has_distinct_sources, each_once, joined_terms, mask_of, mask_of_corners, mask_of_edge, sharp_edge_mask, blended_edge_mask, smooth_vertex_mask, scaled_terms, mask_of_rule, blend, transition_mask, mask_of_vertex}
use Rattle.subdiv_model.specs.Value.{Value, weighted, plus_value, sum_of_values}
use Rattle.subdiv_model.specs.Refined.{mask_value, mask_denominator}
use Rattle.number_laws.proofs.WholeNumberLemmas.{pos-distrib, pos-assoc}
use Rattle.sharpness_laws.specs.SameWeights.{HaveSameWeights, is_joined}
use Rattle.sharpness_laws.proofs.PermutationLemmas.{same_in_any_order}
use Rattle.sharpness_laws.proofs.OrderLemmas.{lcm-any_order}
use Rattle.sharpness_laws.proofs.JoinedWeightLemmas.{weighed}
use Rattle.sharpness_laws.proofs.TermOrderLemmas.{distinct-kept, same_weights-permuted}

weighed-kept : (f : SourcePoint → ℕ) (p : SourcePoint → Bool) (sources : List SourcePoint)
    → weighed f (filter p sources) ≡ filter (λ t. p t.source) (weighed f sources)
weighed-kept f p [] = refl
weighed-kept f p (s ∷ sources) = either (p s) (weighed-kept f p sources)
  where
    either : (b : Bool) → weighed f (filter p sources) ≡ filter (λ t. p t.source) (weighed f sources)
        → weighed f (cond b (s ∷ filter p sources) (filter p sources))
        ≡ cond b (weigh (f s) s ∷ filter (λ t. p t.source) (weighed f sources)) (filter (λ t. p t.source) (weighed f sources))
    either true e = ap (λ l. weigh (f s) s ∷ l) e
    either false e = e

weighed-gone : (f : SourcePoint → ℕ) (s : SourcePoint) (sources : List SourcePoint)
    → has_source (weighed f (filter (λ u. not (same_source s u)) sources)) s ≡ false
weighed-gone f s [] = refl
weighed-gone f s (u ∷ sources) = either (same_source s u) refl (weighed-gone f s sources)
  where
    rest : List SourcePoint
    rest = filter (λ x. not (same_source s x)) sources

    either : (b : Bool) → same_source s u ≡ b → has_source (weighed f rest) s ≡ false
        → has_source (weighed f (cond (not b) (u ∷ rest) rest)) s ≡ false
    either true e h = h
    either false e h = ap (λ b. b || has_source (weighed f rest) s) e ∙ h

weighed-distinct : (f : SourcePoint → ℕ) (sources : List SourcePoint) → has_distinct_sources (weighed f (each_once sources)) ≡ true
weighed-distinct f [] = refl
weighed-distinct f (s ∷ sources) =
    let test : SourcePoint → Bool = λ u. not (same_source s u) in
    and_from _ _ (ap not (weighed-gone f s (each_once sources)))
    (ap has_distinct_sources (weighed-kept f test (each_once sources))
    ∙ distinct-kept (λ t. test t.source) (weighed f (each_once sources)) (weighed-distinct f sources))

pub joined-mask_of : (terms : List Term) (q : ℕ) → is_joined (mask_of terms q) ≡ true
joined-mask_of terms q =
    let positive : Term → Bool = λ t. nat_lt 0 t.weight in
    and_from _ _ (distinct-kept positive (joined_terms terms) (weighed-distinct (weight_in terms) (map (λ t. t.source) terms)))
    (list_all-from_AllPass positive (filter positive (joined_terms terms)) (filter_passes positive (joined_terms terms)))

pub joined-corners : (corners : List ℕ) → is_joined (mask_of_corners corners) ≡ true
joined-corners corners = joined-mask_of (weigh_points 1 corners) (length corners)

module _ (edge : ℕ × ℕ) (faces : List ℕ) where
  joined-sharp_edge : is_joined (sharp_edge_mask edge) ≡ true
  joined-sharp_edge = joined-mask_of (weigh_points 1 (edge.0 ∷ edge.1 ∷ [])) 2

  joined-around_edge : (w u q : ℕ) → is_joined (mask_of (weigh_points w (edge.0 ∷ edge.1 ∷ []) ++ weigh_faces u faces) q) ≡ true
  joined-around_edge w u q = joined-mask_of (weigh_points w (edge.0 ∷ edge.1 ∷ []) ++ weigh_faces u faces) q

  pub joined-edge : (s : Sharpness) → is_joined (mask_of_edge s edge faces) ≡ true
  joined-edge Smooth = joined-around_edge 1 1 4
  joined-edge (Semi x y) =
      cond_both (nat_le y x) (sharp_edge_mask edge) (blended_edge_mask x y edge faces) (λ m. is_joined m ≡ true) (λ _. joined-sharp_edge)
      (λ _. joined-around_edge (y + x) (y - x) (4 * y))
  joined-edge Infinite = joined-sharp_edge

pub joined-blend : (w : ℕ × ℕ) (parent child : Mask) → is_joined (blend w parent child) ≡ true
joined-blend w parent child =
    let multiple = lcm_of parent.denominator child.denominator in
    joined-mask_of (scaled_terms (w.0 * (multiple / parent.denominator)) parent.terms ++ scaled_terms ((w.1 - w.0) * (multiple / child.denominator)) child.terms) (w.1 * multiple)

module _ (v : ℕ) (ends faces : List ℕ) where
  joined-smooth : is_joined (smooth_vertex_mask v ends faces) ≡ true
  joined-smooth =
      let n = length ends in joined-mask_of (weigh (n * (n - 2)) (OfPoint v) ∷ (weigh_points 1 ends ++ weigh_faces 1 faces)) (n * n)

  joined-rule : (rule : Rule) → is_joined (mask_of_rule v ends faces rule) ≡ true
  joined-rule SmoothRule = joined-smooth
  joined-rule DartRule = joined-smooth
  joined-rule (CreaseRule first second) = joined-mask_of (weigh 6 (OfPoint v) ∷ weigh_points 1 (get_or ends first 0 ∷ get_or ends second 0 ∷ [])) 8
  joined-rule CornerRule = joined-mask_of (weigh 1 (OfPoint v) ∷ []) 1

  pub joined-vertex : (vertex vertex_child : Sharpness) (ring ring_child : List Sharpness)
      → is_joined (mask_of_vertex vertex vertex_child ring ring_child v ends faces) ≡ true
  joined-vertex vertex vertex_child ring ring_child =
      let parent = mask_of_rule v ends faces (vertex_rule vertex ring) in
      let child = mask_of_rule v ends faces (vertex_rule vertex_child ring_child) in
      let w = transition_weight vertex vertex_child ring ring_child in
      let one = joined-rule (vertex_rule vertex ring) in
      cond_both (same_mask (vertex_rule vertex ring) (vertex_rule vertex_child ring_child)) parent (transition_mask w parent child)
      (λ m. is_joined m ≡ true) (λ _. one)
      (λ _. cond_both (nat_eq w.0 w.1) parent (blend w parent child) (λ m. is_joined m ≡ true) (λ _. one) (λ _. joined-blend w parent child))

plus-value_commutes : (x y z : Value) → plus_value x (plus_value y z) ≡ plus_value y (plus_value x z)
plus-value_commutes x y z = same (nums x.num y.num z.num x.den y.den z.den) (mul_left_comm x.den y.den z.den)
  where
    same : {a b : ℤ} {c d : ℕ} → a ≡ b → c ≡ d → ◌≡◌ {A = Value} (record { num = a; den = c }) (record { num = b; den = d })
    same p q = cc

    part : (n : ℤ) (x z : ℕ) → pos x *ℤ (n *ℤ pos z) ≡ n *ℤ pos (x * z)
    part n x z = ap (λ k. pos x *ℤ k) (*ℤ_comm n (pos z)) ∙ pos-assoc x z n ∙ *ℤ_comm (pos (x * z)) n

    spread : (b c : ℤ) (x y z : ℕ) → (b *ℤ pos z +ℤ c *ℤ pos y) *ℤ pos x ≡ b *ℤ pos (x * z) +ℤ c *ℤ pos (x * y)
    spread b c x y z =
        *ℤ_comm (b *ℤ pos z +ℤ c *ℤ pos y) (pos x) ∙ pos-distrib x (b *ℤ pos z) (c *ℤ pos y)
        ∙ ap (λ k. k +ℤ pos x *ℤ (c *ℤ pos y)) (part b x z) ∙ ap (λ k. b *ℤ pos (x * z) +ℤ k) (part c x y)

    turned : (a b c : ℤ) → a +ℤ (b +ℤ c) ≡ b +ℤ (a +ℤ c)
    turned a b c = omega (arith, ints)

    nums : (a b c : ℤ) (x y z : ℕ)
        → a *ℤ pos (y * z) +ℤ (b *ℤ pos z +ℤ c *ℤ pos y) *ℤ pos x ≡ b *ℤ pos (x * z) +ℤ (a *ℤ pos z +ℤ c *ℤ pos x) *ℤ pos y
    nums a b c x y z =
        let commuted : x * y ≡ y * x = omega arith in
        ap (λ k. a *ℤ pos (y * z) +ℤ k) (spread b c x y z)
        ∙ turned (a *ℤ pos (y * z)) (b *ℤ pos (x * z)) (c *ℤ pos (x * y))
        ∙ ap (λ n. b *ℤ pos (x * z) +ℤ (a *ℤ pos (y * z) +ℤ c *ℤ pos n)) commuted
        ∙ sym (ap (λ k. b *ℤ pos (x * z) +ℤ k) (spread a c y x z))

values-any_order : (xs ys : List Value) → IsPermutation xs ys → sum_of_values xs ≡ sum_of_values ys
values-any_order = same_in_any_order sum_of_values plus_value (λ x xs. refl) plus-value_commutes

module _ (m n : Mask) (h : is_joined m ≡ true) (k : is_joined n ≡ true) (same : HaveSameWeights m n) where
  pub same-value : (value : SourcePoint → Value) → mask_value value m ≡ mask_value value n
  same-value value =
      let term : ℕ → Term → Value = λ q t. weighted t.weight q (value t.source) in
      values-any_order (map (term m.denominator) m.terms) (map (term m.denominator) n.terms)
      (IsPermutation-map (term m.denominator) m.terms n.terms (same_weights-permuted m n h k same))
      ∙ ap (λ q. sum_of_values (map (term q) n.terms)) same.denominator

  pub same-denominator : (denominator : SourcePoint → ℕ) → mask_denominator denominator m ≡ mask_denominator denominator n
  same-denominator denominator =
      let read : Term → ℕ = λ t. denominator t.source in
      ap (λ q. m.denominator * q) (lcm-any_order (map read m.terms) (map read n.terms) (IsPermutation-map read m.terms n.terms (same_weights-permuted m n h k same)))
      ∙ ap (λ q. q * lcm_of_all (map read n.terms)) same.denominator
