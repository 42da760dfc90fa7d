-- Terms of points and of faces that occur once each, and when they are a mask of the definitions.
use Rattle.std.proofs.Common.{◌≡◌, ℕ, ◌<◌, Bool, true, false, not, ◌||◌, nat_eq, nat_lt, List, [], ◌∷◌, ◌++◌, arith, refl, ap, sym, subst, ◌∙◌}
use Rattle.std.specs.List.{list_all}
use Rattle.std.proofs.lemmas.List.{append-nil}
use Rattle.std.proofs.lemmas.Bool.{and_from, and_parts, eq-eqb, eqb-true, lt-ltb}
use Rattle.std.proofs.lemmas.List.Folds.{list_any-append, list_all-append}
use Rattle.subdiv_model.specs.Polygons.{is_among, is_distinct}
use Rattle.subdiv_model.specs.Mask.{OfPoint, OfFace, Term, Mask, weigh_points, weigh_faces, same_source, has_source, has_distinct_sources, total_weight, is_mean, mask_of}
use Rattle.sharpness_laws.specs.SameWeights.{HaveSameWeights, is_joined}
use Rattle.sharpness_laws.proofs.SameWeightLemmas.{same-total}
use Rattle.sharpness_laws.proofs.JoinedWeightLemmas.{weight_in-mask_of}
use Rattle.mask_rules.specs.Masks.{IsMask}

-- a joined mask with the weights of a mean is one of the definitions
pub is-mask : (m n : Mask) → is_joined m ≡ true → HaveSameWeights m n → is_mean n ≡ true → IsMask m n
is-mask m n joined same mean =
    let means = and_parts _ _ mean in
    let sums = and_parts (nat_eq (total_weight n.terms) n.denominator) (nat_lt 0 n.denominator) means.1 in
    let total : total_weight m.terms ≡ m.denominator = same-total m n same ∙ eqb-true _ _ sums.0 ∙ sym same.denominator in
    record {
      same = same;
      joined = joined;
      mean = and_from _ _ (and_parts (has_distinct_sources m.terms) _ joined).1 (and_from _ _ (eq-eqb _ _ total) (ap (nat_lt 0) same.denominator ∙ sums.1));
    }

has-points : (w : ℕ) (points : List ℕ) (v : ℕ) → has_source (weigh_points w points) (OfPoint v) ≡ is_among points v
has-points w [] v = refl
has-points w (p ∷ points) v = ap (λ b. nat_eq v p || b) (has-points w points v)

has-faces : (w : ℕ) (faces : List ℕ) (f : ℕ) → has_source (weigh_faces w faces) (OfFace f) ≡ is_among faces f
has-faces w [] f = refl
has-faces w (g ∷ faces) f = ap (λ b. nat_eq f g || b) (has-faces w faces f)

no-point : (w : ℕ) (faces : List ℕ) (v : ℕ) → has_source (weigh_faces w faces) (OfPoint v) ≡ false
no-point w [] v = refl
no-point w (f ∷ faces) v = no-point w faces v

distinct-faces : (w : ℕ) (faces : List ℕ) → is_distinct faces ≡ true → has_distinct_sources (weigh_faces w faces) ≡ true
distinct-faces w [] h = refl
distinct-faces w (f ∷ faces) h =
    let parts = and_parts (not (is_among faces f)) (is_distinct faces) h in
    and_from _ _ (ap not (has-faces w faces f) ∙ parts.0) (distinct-faces w faces parts.1)

-- points that are distinct and faces that are distinct are distinct sources
pub distinct-around : (w u : ℕ) (points faces : List ℕ) → is_distinct points ≡ true → is_distinct faces ≡ true
    → has_distinct_sources (weigh_points w points ++ weigh_faces u faces) ≡ true
distinct-around w u [] faces h k = distinct-faces u faces k
distinct-around w u (p ∷ points) faces h k =
    let parts = and_parts (not (is_among points p)) (is_distinct points) h in
    let here : has_source (weigh_points w points ++ weigh_faces u faces) (OfPoint p) ≡ (is_among points p || false) =
    list_any-append (λ (t : Term). same_source (OfPoint p) t.source) (weigh_points w points) (weigh_faces u faces)
    ∙ ap (λ b. b || has_source (weigh_faces u faces) (OfPoint p)) (has-points w points p)
    ∙ ap (λ b. is_among points p || b) (no-point u faces p) in
    and_from _ _ (ap not (here ∙ or-false (is_among points p)) ∙ parts.0) (distinct-around w u points faces parts.1 k)
  where
    or-false : (b : Bool) → (b || false) ≡ b
    or-false true = refl
    or-false false = refl

abbrev are_positive : List Term → Bool
are_positive terms = list_all (λ t. nat_lt 0 t.weight) terms

positive-points : (w : ℕ) (points : List ℕ) → 0 < w → are_positive (weigh_points w points) ≡ true
positive-points w [] h = refl
positive-points w (p ∷ points) h = and_from _ _ (lt-ltb 0 w h) (positive-points w points h)

positive-faces : (w : ℕ) (faces : List ℕ) → 0 < w → are_positive (weigh_faces w faces) ≡ true
positive-faces w [] h = refl
positive-faces w (f ∷ faces) h = and_from _ _ (lt-ltb 0 w h) (positive-faces w faces h)

-- the terms of distinct points and of distinct faces, of weights above 0, are their mask
pub around-mask : (w u : ℕ) (points faces : List ℕ) (q : ℕ) → 0 < w → 0 < u → is_distinct points ≡ true → is_distinct faces ≡ true
    → is_mean (mask_of (weigh_points w points ++ weigh_faces u faces) q) ≡ true
    → IsMask (record { terms = weigh_points w points ++ weigh_faces u faces; denominator = q }) (mask_of (weigh_points w points ++ weigh_faces u faces) q)
around-mask w u points faces q some also points_once faces_once mean =
    let terms = weigh_points w points ++ weigh_faces u faces in
    let positive : are_positive terms ≡ true =
    list_all-append (λ (t : Term). nat_lt 0 t.weight) (weigh_points w points) (weigh_faces u faces)
    ∙ and_from _ _ (positive-points w points some) (positive-faces u faces also) in
    is-mask _ _ (and_from _ _ (distinct-around w u points faces points_once faces_once) positive)
    (record { denominator = refl; weights = λ source. sym (weight_in-mask_of terms q source) }) mean

pub points-mask : (w : ℕ) (points : List ℕ) (q : ℕ) → 0 < w → is_distinct points ≡ true → is_mean (mask_of (weigh_points w points) q) ≡ true
    → IsMask (record { terms = weigh_points w points; denominator = q }) (mask_of (weigh_points w points) q)
points-mask w points q some once mean =
    let nothing : weigh_points w points ++ [] ≡ weigh_points w points = append-nil (weigh_points w points) in
    let P : List Term → Type 0 = λ terms. is_mean (mask_of terms q) ≡ true → IsMask (record { terms = terms; denominator = q }) (mask_of terms q) in
    subst P nothing (around-mask w 1 points [] q some (omega arith) once refl) mean
