-- The mask of a vertex is a mean, and where two rules differ the weight is above 0 and at most 1.
use Rattle.std.proofs.Common.{◌≡◌, ℕ, zero, suc, ◌+◌, ◌*◌, ◌/◌, ◌<◌, ◌≤◌, Bool, true, false, ◌&&◌, ◌||◌, nat_eq, nat_lt, nat_le, if◌then◌else◌, List, [], ◌∷◌, ◌++◌, length, map, zip, get_or, arith, refl, ap, sym, ◌∙◌}
use Rattle.std.specs.List.{list_all, flat_map}
use Rattle.std.proofs.lemmas.Bool.{and_from, and_parts, eq-eqb, eqb-true, lt-ltb, ltb-true, leb-true, leb-false, cond_both, true≢false}
use Rattle.std.proofs.lemmas.List.{length-map}
use Rattle.std.proofs.lemmas.List.Folds.{list_all-append}
use Rattle.std.proofs.Math.Nat.{div-mul_cancel, lt_of_mul-lt-mul_right}
use Rattle.number_laws.proofs.FractionLemmas.{gcd_of-is}
use Rattle.subdiv_model.specs.Lists.{places, places_from}
use Rattle.subdiv_model.specs.Fractions.{lowest, gcd_of, sum_of_fractions}
use Rattle.subdiv_model.specs.Sharpness.{Sharpness, Smooth, Semi, Infinite, Method, Normal, Chaikin, is_sharp, semi_values, uniform_child, half_child}
use Rattle.subdiv_model.specs.Rule.{Rule, SmoothRule, DartRule, CreaseRule, CornerRule, vertex_rule, rule_of_sharp_edges, is_smooth_or_dart, same_mask, child_ring, ended_value, ended_values, mean_of, at_most_one, transition_weight}
use Rattle.subdiv_model.specs.Sharpness.{is_proper_sharpness}
use Rattle.subdiv_model.specs.Level.{Level, vertex_sharpness_of, ring_at, edges_at, faces_at}
use Rattle.subdiv_model.specs.Mask.{CatmullClark, vertex_mask, is_interior, is_proper_at, rule_at, child_rule_at, ends_at, other_end, is_mean, mask_of_rule, mask_of_vertex, transition_mask}
use Rattle.mask_laws.proofs.MaskLemmas.{mean-smooth_vertex, mean-crease, mean-corner}
use Rattle.mask_laws.proofs.BlendLemmas.{mean-transition}
use Rattle.number_laws.proofs.MultipleLemmas.{product-positive}

-- a smooth vertex has as many faces as edges, and at least two
abbrev pub IsRoundFor : List ℕ → List ℕ → Rule → Type 0
IsRoundFor ends faces rule = is_smooth_or_dart rule ≡ true → (2 ≤ length ends) × (length faces ≡ length ends)

pub mean-rule : (v : ℕ) (ends faces : List ℕ) (rule : Rule) → IsRoundFor ends faces rule → is_mean (mask_of_rule v ends faces rule) ≡ true
mean-rule v ends faces SmoothRule round = mean-smooth_vertex v ends faces (round refl).0 (round refl).1
mean-rule v ends faces DartRule round = mean-smooth_vertex v ends faces (round refl).0 (round refl).1
mean-rule v ends faces (CreaseRule first second) round = mean-crease v (get_or ends first 0) (get_or ends second 0)
mean-rule v ends faces CornerRule round = mean-corner v

same-itself : (rule : Rule) → same_mask rule rule ≡ true
same-itself SmoothRule = refl
same-itself DartRule = refl
same-itself (CreaseRule first second) = and_from _ _ (eq-eqb first first refl) (eq-eqb second second refl)
same-itself CornerRule = refl

-- a value that has not ended is sharp as it was
semi-kept : (x y : ℕ) (next : Sharpness) → ended_value (Semi x y, next) ≡ [] → is_sharp next ≡ true
semi-kept x y Smooth h = cc
semi-kept x y (Semi p q) h = refl
semi-kept x y Infinite h = refl

half-kept : (method : Method) (ring : List Sharpness) (s : Sharpness) → ended_value (s, half_child method ring s) ≡ []
    → is_sharp (half_child method ring s) ≡ is_sharp s
half-kept Normal ring Smooth h = refl
half-kept Normal ring Infinite h = refl
half-kept Normal ring (Semi x y) h = semi-kept x y (half_child Normal ring (Semi x y)) h
half-kept Chaikin ring Smooth h = refl
half-kept Chaikin ring Infinite h = refl
half-kept Chaikin ring (Semi x y) h = semi-kept x y (half_child Chaikin ring (Semi x y)) h

nil-parts : (xs ys : List (ℕ × ℕ)) → xs ++ ys ≡ [] → (xs ≡ []) × (ys ≡ [])
nil-parts [] ys h = (refl, h)
nil-parts (x ∷ xs) ys h = cc

ring-kept : (method : Method) (all ring : List Sharpness) (place : ℕ)
    → flat_map ended_value (zip ring (map (half_child method all) ring)) ≡ []
    → places_from place is_sharp (map (half_child method all) ring) ≡ places_from place is_sharp ring
ring-kept method all [] place h = refl
ring-kept method all (s ∷ ring) place h =
    let parts =
    nil-parts (ended_value (s, half_child method all s)) (flat_map ended_value (zip ring (map (half_child method all) ring))) h in
    ap (λ b. if b then place ∷ places_from (place + 1) is_sharp (map (half_child method all) ring) else places_from (place + 1) is_sharp (map (half_child method all) ring))
    (half-kept method all s parts.0)
    ∙ ap (λ xs. if is_sharp s then place ∷ xs else xs) (ring-kept method all ring (place + 1) parts.1)

-- where no value ends, the rule stays
rule-kept : (method : Method) (vertex : Sharpness) (ring : List Sharpness)
    → ended_values vertex (uniform_child vertex) ring (child_ring method ring) ≡ []
    → vertex_rule (uniform_child vertex) (child_ring method ring) ≡ vertex_rule vertex ring
rule-kept method vertex ring h =
    let parts = nil-parts (ended_value (vertex, uniform_child vertex)) (flat_map ended_value (zip ring (child_ring method ring))) h in
    ap (λ b. if b || nat_eq (length (child_ring method ring)) 0 then CornerRule else rule_of_sharp_edges (places is_sharp (child_ring method ring)))
    (half-kept Normal [] vertex parts.0)
    ∙ ap (λ n. if is_sharp vertex || nat_eq n 0 then CornerRule else rule_of_sharp_edges (places is_sharp (child_ring method ring)))
    (length-map ring (half_child method ring))
    ∙ ap (λ xs. if is_sharp vertex || nat_eq (length ring) 0 then CornerRule else rule_of_sharp_edges xs)
    (ring-kept method ring ring 0 parts.1)

-- fractions above 0
abbrev pub is_positive : ℕ × ℕ → Bool
is_positive x = nat_lt 0 x.0 && nat_lt 0 x.1

pub proper-positive : (num den : ℕ) → is_proper_sharpness (Semi num den) ≡ true → is_positive (num, den) ≡ true
proper-positive num den h =
    let parts = and_parts _ _ h in
    let below : num < 10 * den = ltb-true _ _ (and_parts _ _ parts.1).0 in
    let above : 0 < num = ltb-true _ _ parts.0 in
    and_from _ _ (lt-ltb 0 num above) (lt-ltb 0 den (omega arith))

pub semi-positive : (s : Sharpness) → is_proper_sharpness s ≡ true → list_all is_positive (semi_values s) ≡ true
semi-positive Smooth h = refl
semi-positive (Semi num den) h = and_from _ _ (proper-positive num den h) refl
semi-positive Infinite h = refl

ended-positive : (s next : Sharpness) → is_proper_sharpness s ≡ true → list_all is_positive (ended_value (s, next)) ≡ true
ended-positive s next h =
    cond_both (is_sharp next) [] (semi_values s) (λ xs. list_all is_positive xs ≡ true) (λ _. refl) (λ _. semi-positive s h)

ring-positive : (method : Method) (all ring : List Sharpness) → list_all is_proper_sharpness ring ≡ true
    → list_all is_positive (flat_map ended_value (zip ring (map (half_child method all) ring))) ≡ true
ring-positive method all [] h = refl
ring-positive method all (s ∷ ring) h =
    let parts = and_parts _ _ h in
    list_all-append is_positive (ended_value (s, half_child method all s))
    (flat_map ended_value (zip ring (map (half_child method all) ring)))
    ∙ and_from _ _ (ended-positive s (half_child method all s) parts.0) (ring-positive method all ring parts.1)

values-positive : (method : Method) (vertex : Sharpness) (ring : List Sharpness) → is_proper_sharpness vertex ≡ true
    → list_all is_proper_sharpness ring ≡ true
    → list_all is_positive (ended_values vertex (uniform_child vertex) ring (child_ring method ring)) ≡ true
values-positive method vertex ring h k =
    list_all-append is_positive (ended_value (vertex, uniform_child vertex)) (flat_map ended_value (zip ring (child_ring method ring)))
    ∙ and_from _ _ (ended-positive vertex (uniform_child vertex) h) (ring-positive method ring ring k)

pub sum-den : (values : List (ℕ × ℕ)) → list_all is_positive values ≡ true → 0 < (sum_of_fractions values).1
sum-den [] h = omega arith
sum-den (x ∷ values) h =
    let parts = and_parts _ _ h in
    product-positive x.1 (sum_of_fractions values).1 (ltb-true _ _ (and_parts _ _ parts.0).1) (sum-den values parts.1)

sum-num : (x : ℕ × ℕ) (values : List (ℕ × ℕ)) → list_all is_positive (x ∷ values) ≡ true → 0 < (sum_of_fractions (x ∷ values)).0
sum-num x values h =
    let parts = and_parts _ _ h in
    let own = product-positive x.0 (sum_of_fractions values).1 (ltb-true _ _ (and_parts _ _ parts.0).0) (sum-den values parts.1) in omega arith

-- above 0 and at most 1
abbrev pub IsWeight : ℕ × ℕ → Type 0
IsWeight w = (0 < w.0) × (w.0 ≤ w.1)

lowest-weight : (a b : ℕ) → 0 < a → a < b → IsWeight (lowest (a, b))
lowest-weight a b above below =
    let g = gcd_of a b in
    let is = gcd_of-is a b in
    let num : a / g * g ≡ a = div-mul_cancel g is.0 in
    let den : b / g * g ≡ b = div-mul_cancel g is.1 in
    let less : a / g < b / g = lt_of_mul-lt-mul_right g (omega arith) in
    (quotient (a / g) g num, omega arith)
  where
    quotient : (q g : ℕ) → q * g ≡ a → 0 < q
    quotient zero g e = absurd (omega arith)
    quotient (suc q) g e = omega arith

weight-of : (x : ℕ × ℕ) → 0 < x.0 → IsWeight (at_most_one x)
weight-of x above =
    cond_both (nat_le x.1 x.0) (1, 1) (lowest x) IsWeight (λ _.
    (omega arith, omega arith)) (λ h. lowest-weight x.0 x.1 above (leb-false _ _ h))

mean-weight : (values : List (ℕ × ℕ)) → list_all is_positive values ≡ true → (values ≡ [] → ⊥) → IsWeight (at_most_one (mean_of values))
mean-weight [] h some = absurd (some refl)
mean-weight (x ∷ values) h some = weight-of (mean_of (x ∷ values)) (sum-num x values h)

pub weight-bounds : (method : Method) (vertex : Sharpness) (ring : List Sharpness) → is_proper_sharpness vertex ≡ true
    → list_all is_proper_sharpness ring ≡ true
    → same_mask (vertex_rule vertex ring) (vertex_rule (uniform_child vertex) (child_ring method ring)) ≡ false
    → IsWeight (transition_weight vertex (uniform_child vertex) ring (child_ring method ring))
weight-bounds method vertex ring h k differ =
    mean-weight (ended_values vertex (uniform_child vertex) ring (child_ring method ring)) (values-positive method vertex ring h k)
    (λ none. true≢false (sym (same-itself (vertex_rule vertex ring))
    ∙ ap (same_mask (vertex_rule vertex ring)) (sym (rule-kept method vertex ring none)) ∙ differ))

pub mean-vertex : (method : Method) (vertex : Sharpness) (ring : List Sharpness) (v : ℕ) (ends faces : List ℕ)
    → is_proper_sharpness vertex ≡ true → list_all is_proper_sharpness ring ≡ true → IsRoundFor ends faces (vertex_rule vertex ring)
    → IsRoundFor ends faces (vertex_rule (uniform_child vertex) (child_ring method ring))
    → is_mean (mask_of_vertex vertex (uniform_child vertex) ring (child_ring method ring) v ends faces) ≡ true
mean-vertex method vertex ring v ends faces h k now next =
    let parent = vertex_rule vertex ring in
    let child = vertex_rule (uniform_child vertex) (child_ring method ring) in
    cond_both (same_mask parent child) (mask_of_rule v ends faces parent)
    (transition_mask (transition_weight vertex (uniform_child vertex) ring (child_ring method ring))
    (mask_of_rule v ends faces parent) (mask_of_rule v ends faces child))
    (λ mask. is_mean mask ≡ true) (λ _. mean-rule v ends faces parent now)
    (λ differ. let w = weight-bounds method vertex ring h k differ in
    mean-transition _ _ _ w.0 w.1 (mean-rule v ends faces parent now) (mean-rule v ends faces child next))

-- what the test at a point says
round-at : (level : Level) (v : ℕ) (rule : Rule) → (is_smooth_or_dart rule ≡ true → is_interior level v ≡ true)
    → IsRoundFor (ends_at level v) (faces_at level v) rule
round-at level v rule h smooth =
    let parts = and_parts _ _ (h smooth) in
    let many : 2 ≤ length (edges_at level v) = leb-true _ _ parts.0 in
    let same : length (faces_at level v) ≡ length (edges_at level v) = eqb-true _ _ parts.1 in
    let ends : length (ends_at level v) ≡ length (edges_at level v) = length-map (edges_at level v) (other_end v) in
    (rw ends many, same ∙ sym ends)

pub mean-vertex_mask : (level : Level) (v : ℕ) → is_proper_at level v ≡ true
    → (is_smooth_or_dart (rule_at level v) ≡ true → is_interior level v ≡ true)
    → (is_smooth_or_dart (child_rule_at level v) ≡ true → is_interior level v ≡ true) → is_mean (vertex_mask level CatmullClark v) ≡ true
mean-vertex_mask level v proper now next =
    let parts = and_parts _ _ proper in
    mean-vertex level.method (vertex_sharpness_of level v) (ring_at level v) v (ends_at level v) (faces_at level v) parts.0 parts.1
    (round-at level v (rule_at level v) now)
    (round-at level v (child_rule_at level v) next)
