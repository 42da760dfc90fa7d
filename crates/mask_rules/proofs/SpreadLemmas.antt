-- The terms of a vertex by two rules weigh as the blend of the masks of both.
use Rattle.std.proofs.Common.{◌≡◌, ℕ, zero, suc, ◌+◌, ◌-◌, ◌*◌, ◌/◌, ◌<◌, Bool, true, false, not, ◌&&◌, ◌||◌, nat_eq, nat_lt, if◌then◌else◌, List, [], ◌∷◌, ◌++◌, length, get_or, arith, refl, ap, sym, ◌∙◌}
use Rattle.std.proofs.lemmas.Bool.{and_from, eq-eqb}
use Rattle.std.proofs.lemmas.Bool.Decides.{nat_tests}
use Rattle.std.proofs.lemmas.List.Elements.{filter_passes}
use Rattle.std.proofs.lemmas.List.Folds.{list_any-append}
use Rattle.std.proofs.lemmas.List.Sums.{list_all-from_AllPass}
use Rattle.subdiv_model.specs.Multiples.{lcm_of}
use Rattle.subdiv_model.specs.Polygons.{is_distinct}
use Rattle.subdiv_model.specs.Rule.{Rule, SmoothRule, DartRule, CreaseRule, CornerRule}
use Rattle.subdiv_model.specs.Mask.{SourcePoint, OfPoint, OfFace, Term, weigh, weigh_points, weigh_faces, same_source, weight_in, has_source, has_distinct_sources, mask_of_rule, blend}
use Rattle.sharpness_laws.specs.SameWeights.{HaveSameWeights, is_joined}
use Rattle.sharpness_laws.proofs.JoinedWeightLemmas.{weight_of, weight_in-cons, weight_in-append, weight_in-mask_of}
use Rattle.sharpness_laws.proofs.MaskOrderLemmas.{weight_in-blend}
use Rattle.sharpness_laws.proofs.TermOrderLemmas.{distinct-kept}
use Rattle.mask_rules.specs.Spread.{vertex_weight, end_weight, end_share, face_weight, rule_denominator, end_terms, positive, terms_around, spread_terms, spread_mask, IsRuleAmong}
use Rattle.mask_rules.proofs.TermLemmas.{distinct-around}

-- a weight of 0 gives nothing
pub weight_in-positive : (terms : List Term) (source : SourcePoint) → weight_in (positive terms) source ≡ weight_in terms source
weight_in-positive [] source = refl
weight_in-positive (t ∷ terms) source =
    grind (
      arith,
      nat_tests,
      weight_in-positive terms source,
      weight_in-cons t terms source,
      weight_in-cons t (positive terms) source,
    )

-- the weight of a source is linear in the weight of its term
weight-linear : (s : SourcePoint) (by rest x y : ℕ) (source : SourcePoint)
    → weight_of (weigh (by * x + rest * y) s) source ≡ by * weight_of (weigh x s) source + rest * weight_of (weigh y s) source
weight-linear s by rest x y source = either (same_source source s)
  where
    either : (b : Bool) → (if b then by * x + rest * y else 0) ≡ by * (if b then x else 0) + rest * (if b then y else 0)
    either true = refl
    either false = omega arith

no-weight : (s source : SourcePoint) → weight_of (weigh 0 s) source ≡ 0
no-weight s source = either (same_source source s)
  where
    either : (b : Bool) → ◌≡◌ {A = ℕ} (if b then 0 else 0) 0
    either true = refl
    either false = refl

module _ (by rest : ℕ) (source : SourcePoint) where
  ends-linear : (f g : ℕ → ℕ) (place : ℕ) (ends : List ℕ)
      → weight_in (end_terms (λ i. by * f i + rest * g i) place ends) source
      ≡ by * weight_in (end_terms f place ends) source + rest * weight_in (end_terms g place ends) source
  ends-linear f g place [] = omega arith
  ends-linear f g place (v ∷ ends) =
      omega (
        arith,
        ends-linear f g (place + 1) ends,
        weight_in-cons (weigh (by * f place + rest * g place) (OfPoint v)) (end_terms (λ i. by * f i + rest * g i) (place + 1) ends) source,
        ap (λ n. by * n) (weight_in-cons (weigh (f place) (OfPoint v)) (end_terms f (place + 1) ends) source),
        ap (λ n. rest * n) (weight_in-cons (weigh (g place) (OfPoint v)) (end_terms g (place + 1) ends) source),
        weight-linear (OfPoint v) by rest (f place) (g place) source,
      )

  faces-linear : (x y : ℕ) (faces : List ℕ)
      → weight_in (weigh_faces (by * x + rest * y) faces) source
      ≡ by * weight_in (weigh_faces x faces) source + rest * weight_in (weigh_faces y faces) source
  faces-linear x y [] = omega arith
  faces-linear x y (f ∷ faces) =
      omega (
        arith,
        faces-linear x y faces,
        weight_in-cons (weigh (by * x + rest * y) (OfFace f)) (weigh_faces (by * x + rest * y) faces) source,
        ap (λ n. by * n) (weight_in-cons (weigh x (OfFace f)) (weigh_faces x faces) source),
        ap (λ n. rest * n) (weight_in-cons (weigh y (OfFace f)) (weigh_faces y faces) source),
        weight-linear (OfFace f) by rest x y source,
      )

around-weight : (own : ℕ) (weight : ℕ → ℕ) (face v : ℕ) (ends faces : List ℕ) (source : SourcePoint)
    → weight_in (terms_around own weight face v ends faces) source
    ≡ weight_of (weigh own (OfPoint v)) source + (weight_in (end_terms weight 0 ends) source + weight_in (weigh_faces face faces) source)
around-weight own weight face v ends faces source =
    weight_in-cons (weigh own (OfPoint v)) (end_terms weight 0 ends ++ weigh_faces face faces) source
    ∙ ap (λ n. weight_of (weigh own (OfPoint v)) source + n) (weight_in-append (end_terms weight 0 ends) (weigh_faces face faces) source)

abbrev rule_terms : Rule → ℕ → List ℕ → List ℕ → List Term
rule_terms rule v ends faces = terms_around (vertex_weight rule (length ends)) (end_weight rule) (face_weight rule) v ends faces

-- the weights by two rules add up
spread-weight : (parent child : Rule) (by rest v : ℕ) (ends faces : List ℕ) (source : SourcePoint)
    → weight_in (spread_terms parent child by rest v ends faces) source
    ≡ by * weight_in (rule_terms parent v ends faces) source + rest * weight_in (rule_terms child v ends faces) source
spread-weight parent child by rest v ends faces source =
    let n = length ends in
    omega (
      arith,
      around-weight (by * vertex_weight parent n + rest * vertex_weight child n) (end_share parent child by rest)
          (by * face_weight parent + rest * face_weight child) v ends faces source,
      ap (λ w. by * w) (around-weight (vertex_weight parent n) (end_weight parent) (face_weight parent) v ends faces source),
      ap (λ w. rest * w) (around-weight (vertex_weight child n) (end_weight child) (face_weight child) v ends faces source),
      weight-linear (OfPoint v) by rest (vertex_weight parent n) (vertex_weight child n) source,
      ends-linear by rest source (end_weight parent) (end_weight child) 0 ends,
      faces-linear by rest source (face_weight parent) (face_weight child) faces,
    )

ends-nothing : (place : ℕ) (ends : List ℕ) (source : SourcePoint) → weight_in (end_terms (λ i. 0) place ends) source ≡ 0
ends-nothing place [] source = refl
ends-nothing place (v ∷ ends) source =
    omega (
      arith,
      ends-nothing (place + 1) ends source,
      weight_in-cons (weigh 0 (OfPoint v)) (end_terms (λ i. 0) (place + 1) ends) source,
      no-weight (OfPoint v) source,
    )

faces-nothing : (faces : List ℕ) (source : SourcePoint) → weight_in (weigh_faces 0 faces) source ≡ 0
faces-nothing [] source = refl
faces-nothing (f ∷ faces) source =
    omega (arith, faces-nothing faces source, weight_in-cons (weigh 0 (OfFace f)) (weigh_faces 0 faces) source, no-weight (OfFace f) source)

ends-same : (f g : ℕ → ℕ) → ((i : ℕ) → f i ≡ g i) → (place : ℕ) (ends : List ℕ) → end_terms f place ends ≡ end_terms g place ends
ends-same f g h place [] = refl
ends-same f g h place (v ∷ ends) =
    ap (λ n. weigh n (OfPoint v) ∷ end_terms f (place + 1) ends) (h place)
    ∙ ap (λ l. weigh (g place) (OfPoint v) ∷ l) (ends-same f g h (place + 1) ends)

ends-ones : (place : ℕ) (ends : List ℕ) → end_terms (λ i. 1) place ends ≡ weigh_points 1 ends
ends-ones place [] = refl
ends-ones place (v ∷ ends) = ap (λ l. weigh 1 (OfPoint v) ∷ l) (ends-ones (place + 1) ends)

-- a weight of 1 at one place, and 0 elsewhere
abbrev one_at : ℕ → ℕ → ℕ
one_at place i = if nat_eq i place then 1 else 0

past-place : (at place : ℕ) (ends : List ℕ) (source : SourcePoint) → at < place → weight_in (end_terms (one_at at) place ends) source ≡ 0
past-place at place [] source h = refl
past-place at place (v ∷ ends) source h =
    let behind = past-place at (place + 1) ends source (omega arith) in
    let step = weight_in-cons (weigh (one_at at place) (OfPoint v)) (end_terms (one_at at) (place + 1) ends) source in
    grind (arith, nat_tests)

ends-one : (at place k : ℕ) (ends : List ℕ) (source : SourcePoint) → at ≡ place + k → k < length ends
    → weight_in (end_terms (one_at at) place ends) source ≡ weight_of (weigh 1 (OfPoint (get_or ends k 0))) source
ends-one at place k [] source e h = absurd (omega arith)
ends-one at place zero (v ∷ ends) source e h =
    let behind = past-place at (place + 1) ends source (omega arith) in
    let step = weight_in-cons (weigh (one_at at place) (OfPoint v)) (end_terms (one_at at) (place + 1) ends) source in
    let here : one_at at place ≡ 1 = ap (λ b. if b then 1 else 0) (eq-eqb place at (omega arith)) in
    let own : weight_of (weigh (one_at at place) (OfPoint v)) source ≡ weight_of (weigh 1 (OfPoint v)) source = ap (λ n. weight_of (weigh n (OfPoint v)) source) here in
    omega arith
ends-one at place (suc k) (v ∷ ends) source e h =
    let behind = ends-one at (place + 1) k ends source (omega arith) (omega arith) in
    let step = weight_in-cons (weigh (one_at at place) (OfPoint v)) (end_terms (one_at at) (place + 1) ends) source in
    let none : weight_of (weigh (one_at at place) (OfPoint v)) source ≡ 0 = grind (arith, nat_tests) in
    omega arith

-- the two ends of a crease
ends-crease : (first second : ℕ) (ends : List ℕ) (source : SourcePoint) → first < second → second < length ends
    → weight_in (end_terms (end_weight (CreaseRule first second)) 0 ends) source
    ≡ weight_in (weigh_points 1 (get_or ends first 0 ∷ get_or ends second 0 ∷ [])) source
ends-crease first second ends source h inside =
    let split : end_terms (end_weight (CreaseRule first second)) 0 ends ≡ end_terms (λ i. 1 * one_at first i + 1 * one_at second i) 0 ends =
    ends-same _ _ (λ i. apart i) 0 ends in
    omega (
      arith,
      ap (λ l. weight_in l source) split,
      ends-linear 1 1 source (one_at first) (one_at second) 0 ends,
      ends-one first 0 first ends source (omega arith) (omega arith),
      ends-one second 0 second ends source (omega arith) inside,
      weight_in-cons (weigh 1 (OfPoint (get_or ends first 0))) (weigh_points 1 (get_or ends second 0 ∷ [])) source,
      weight_in-cons (weigh 1 (OfPoint (get_or ends second 0))) [] source,
    )
  where
    apart : (i : ℕ) → end_weight (CreaseRule first second) i ≡ 1 * one_at first i + 1 * one_at second i
    apart i = grind (arith, nat_tests)

-- the terms by a rule weigh as its mask
rule-weight : (rule : Rule) (v : ℕ) (ends faces : List ℕ) (source : SourcePoint) → IsRuleAmong rule (length ends)
    → weight_in (rule_terms rule v ends faces) source ≡ weight_in (mask_of_rule v ends faces rule).terms source
rule-weight SmoothRule v ends faces source h =
    let n = length ends in
    ap (λ l. weight_in (weigh (n * (n - 2)) (OfPoint v) ∷ (l ++ weigh_faces 1 faces)) source) (ends-ones 0 ends)
    ∙ sym (weight_in-mask_of (weigh (n * (n - 2)) (OfPoint v) ∷ (weigh_points 1 ends ++ weigh_faces 1 faces)) (n * n) source)
rule-weight DartRule v ends faces source h =
    let n = length ends in
    ap (λ l. weight_in (weigh (n * (n - 2)) (OfPoint v) ∷ (l ++ weigh_faces 1 faces)) source) (ends-ones 0 ends)
    ∙ sym (weight_in-mask_of (weigh (n * (n - 2)) (OfPoint v) ∷ (weigh_points 1 ends ++ weigh_faces 1 faces)) (n * n) source)
rule-weight (CreaseRule first second) v ends faces source h =
    let two = weigh_points 1 (get_or ends first 0 ∷ get_or ends second 0 ∷ []) in
    let whole = around-weight 6 (end_weight (CreaseRule first second)) 0 v ends faces source in
    let ends-are = ends-crease first second ends source h.0 h.1 in
    let none = faces-nothing faces source in
    let both = weight_in-cons (weigh 6 (OfPoint v)) two source in
    let kept : weight_in (rule_terms (CreaseRule first second) v ends faces) source ≡ weight_in (weigh 6 (OfPoint v) ∷ two) source = omega arith in
    kept ∙ sym (weight_in-mask_of (weigh 6 (OfPoint v) ∷ two) 8 source)
rule-weight CornerRule v ends faces source h =
    let whole = around-weight 1 (λ i. 0) 0 v ends faces source in
    let ends-are = ends-nothing 0 ends source in
    let none = faces-nothing faces source in
    let both = weight_in-cons (weigh 1 (OfPoint v)) [] source in
    let kept : weight_in (rule_terms CornerRule v ends faces) source ≡ weight_in (weigh 1 (OfPoint v) ∷ []) source = omega arith in
    kept ∙ sym (weight_in-mask_of (weigh 1 (OfPoint v) ∷ []) 1 source)

pub denominator-is : (rule : Rule) (v : ℕ) (ends faces : List ℕ) → rule_denominator rule (length ends) ≡ (mask_of_rule v ends faces rule).denominator
denominator-is SmoothRule v ends faces = refl
denominator-is DartRule v ends faces = refl
denominator-is (CreaseRule first second) v ends faces = refl
denominator-is CornerRule v ends faces = refl

-- a blend that is all of one rule has the weights of the rule
pub one-rule : (rule other : Rule) (v : ℕ) (ends faces : List ℕ) → IsRuleAmong rule (length ends)
    → HaveSameWeights (spread_mask rule other 1 0 (rule_denominator rule (length ends)) v ends faces) (mask_of_rule v ends faces rule)
one-rule rule other v ends faces h = record {
  denominator = denominator-is rule v ends faces;
  weights = λ source.
      let spread = spread-weight rule other 1 0 v ends faces source in
      let own = rule-weight rule v ends faces source h in
      let all : weight_in (spread_terms rule other 1 0 v ends faces) source ≡ weight_in (mask_of_rule v ends faces rule).terms source = omega arith in
      weight_in-positive (spread_terms rule other 1 0 v ends faces) source ∙ all;
}

-- two rules, blended by a weight
pub two-rules : (w : ℕ × ℕ) (parent child : Rule) (v : ℕ) (ends faces : List ℕ) → IsRuleAmong parent (length ends) → IsRuleAmong child (length ends)
    → (multiple : ℕ) → multiple ≡ lcm_of (rule_denominator parent (length ends)) (rule_denominator child (length ends))
    → HaveSameWeights
    (spread_mask parent child (w.0 * (multiple / rule_denominator parent (length ends))) ((w.1 - w.0) * (multiple / rule_denominator child (length ends)))
    (w.1 * multiple) v ends faces)
    (blend w (mask_of_rule v ends faces parent) (mask_of_rule v ends faces child))
two-rules w parent child v ends faces h k multiple e =
    let p = rule_denominator parent (length ends) in
    let r = rule_denominator child (length ends) in
    let m = mask_of_rule v ends faces parent in
    let n = mask_of_rule v ends faces child in
    let first : p ≡ m.denominator = denominator-is parent v ends faces in
    let second : r ≡ n.denominator = denominator-is child v ends faces in
    let same : multiple ≡ lcm_of m.denominator n.denominator = cc in
    let by : w.0 * (multiple / p) ≡ w.0 * (lcm_of m.denominator n.denominator / m.denominator) = cc in
    let rest : (w.1 - w.0) * (multiple / r) ≡ (w.1 - w.0) * (lcm_of m.denominator n.denominator / n.denominator) = cc in
    record {
      denominator = ap (λ q. w.1 * q) same;
      weights = λ source.
          weight_in-positive (spread_terms parent child (w.0 * (multiple / p)) ((w.1 - w.0) * (multiple / r)) v ends faces) source
          ∙ spread-weight parent child (w.0 * (multiple / p)) ((w.1 - w.0) * (multiple / r)) v ends faces source
          ∙ amounts by rest (rule-weight parent v ends faces source h) (rule-weight child v ends faces source k)
          ∙ sym (weight_in-blend w m n source);
    }
  where
    amounts : {a b c d x y z u : ℕ} → a ≡ b → c ≡ d → x ≡ y → z ≡ u → a * x + c * z ≡ b * y + d * u
    amounts e f g h = cc

-- whether each source occurs once does not depend on the weights
ends-source : (weight : ℕ → ℕ) (place : ℕ) (ends : List ℕ) (source : SourcePoint) → has_source (end_terms weight place ends) source ≡ has_source (weigh_points 1 ends) source
ends-source weight place [] source = refl
ends-source weight place (v ∷ ends) source = ap (λ b. same_source source (OfPoint v) || b) (ends-source weight (place + 1) ends source)

ends-once : (weight : ℕ → ℕ) (place : ℕ) (ends : List ℕ) (faces : List Term)
    → has_distinct_sources (end_terms weight place ends ++ faces) ≡ has_distinct_sources (weigh_points 1 ends ++ faces)
ends-once weight place [] faces = refl
ends-once weight place (v ∷ ends) faces =
    let some : Term → Bool = λ t. same_source (OfPoint v) t.source in
    let alike : has_source (end_terms weight (place + 1) ends ++ faces) (OfPoint v) ≡ has_source (weigh_points 1 ends ++ faces) (OfPoint v) =
    list_any-append some (end_terms weight (place + 1) ends) faces
    ∙ ap (λ b. b || has_source faces (OfPoint v)) (ends-source weight (place + 1) ends (OfPoint v))
    ∙ sym (list_any-append some (weigh_points 1 ends) faces) in
    ap (λ b. not b && has_distinct_sources (end_terms weight (place + 1) ends ++ faces)) alike
    ∙ ap (λ b. not (has_source (weigh_points 1 ends ++ faces) (OfPoint v)) && b) (ends-once weight (place + 1) ends faces)

-- a vertex, the other ends of its edges and its faces occur once each
around-once : (own : ℕ) (weight : ℕ → ℕ) (face v : ℕ) (ends faces : List ℕ) → is_distinct (v ∷ ends) ≡ true → is_distinct faces ≡ true
    → has_distinct_sources (terms_around own weight face v ends faces) ≡ true
around-once own weight face v ends faces points_once faces_once =
    let some : Term → Bool = λ t. same_source (OfPoint v) t.source in
    let others = weigh_faces face faces in
    let whole = distinct-around 1 face (v ∷ ends) faces points_once faces_once in
    let alike : has_source (end_terms weight 0 ends ++ others) (OfPoint v) ≡ has_source (weigh_points 1 ends ++ others) (OfPoint v) =
    list_any-append some (end_terms weight 0 ends) others
    ∙ ap (λ b. b || has_source others (OfPoint v)) (ends-source weight 0 ends (OfPoint v))
    ∙ sym (list_any-append some (weigh_points 1 ends) others) in
    ap (λ b. not b && has_distinct_sources (end_terms weight 0 ends ++ others)) alike
    ∙ ap (λ b. not (has_source (weigh_points 1 ends ++ others) (OfPoint v)) && b) (ends-once weight 0 ends others)
    ∙ whole

pub spread-joined : (parent child : Rule) (by rest q v : ℕ) (ends faces : List ℕ) → is_distinct (v ∷ ends) ≡ true → is_distinct faces ≡ true
    → is_joined (spread_mask parent child by rest q v ends faces) ≡ true
spread-joined parent child by rest q v ends faces points_once faces_once =
    let terms = spread_terms parent child by rest v ends faces in
    let n = length ends in
    let distinct = around-once (by * vertex_weight parent n + rest * vertex_weight child n) (end_share parent child by rest)
    (by * face_weight parent + rest * face_weight child) v ends faces points_once faces_once in
    and_from _ _ (distinct-kept (λ t. nat_lt 0 t.weight) terms distinct)
    (list_all-from_AllPass (λ t. nat_lt 0 t.weight) (positive terms) (filter_passes (λ t. nat_lt 0 t.weight) terms))
