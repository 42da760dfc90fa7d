-- Refined values are whole over their common denominators.
use Rattle.std.proofs.Common.{◌≡◌, ℕ, zero, suc, ◌+◌, ◌/◌, ℤ, pos, ◌*ℤ◌, List, [], ◌∷◌, length, map, get_or, arith, refl, ◌∙◌}
use Rattle.std.specs.List.{AllZip, AllByRecursion, range_with_len}
use Rattle.std.specs.Int.{◌∣◌}
use Rattle.std.proofs.Math.IntN.{*ℤ_comm}
use Rattle.subdiv_model.specs.Level.{Level}
use Rattle.subdiv_model.specs.Child.{refined_level}
use Rattle.subdiv_model.specs.Mask.{Scheme, SourcePoint, OfPoint, OfFace, Term, Mask, face_mask, child_masks}
use Rattle.subdiv_model.specs.Multiples.{lcm_of_all}
use Rattle.subdiv_model.specs.Value.{Value, IsWholeOver, whole_value}
use Rattle.subdiv_model.specs.Refined.{mask_value, point_value, corner_value, source_value, refined_values, control_values, mask_denominator, corner_denominator, source_denominator, refined_denominators}
use Rattle.number_laws.proofs.MultipleLemmas.{all-divide_lcm}
use Rattle.mask_laws.proofs.SumLemmas.{weighted_sum, IsOver, over-multiple, terms-over}

-- the numerator of x over c
record Over (c : ℕ) (x : Value) : Type 0 where
  num : ℤ
  same : IsOver c x num

to-over : (c : ℕ) (x : Value) → IsWholeOver c x → Over c x
to-over c x h = record {
  num = h.num;
  same = *ℤ_comm (pos c) x.num ∙ h.same ∙ *ℤ_comm h.num (pos x.den);
}

from-over : (c : ℕ) (x : Value) → Over c x → IsWholeOver c x
from-over c x h = record {
  num = h.num;
  same = *ℤ_comm x.num (pos c) ∙ h.same ∙ *ℤ_comm (pos x.den) h.num;
}

-- the least common multiple serves all terms
each-over : (value : SourcePoint → Value) (den : SourcePoint → ℕ) (over : (s : SourcePoint) → Over (den s) (value s)) (m : ℕ) (terms : List Term)
    → AllByRecursion (λ c. c ∣ m) (map (λ t. den t.source) terms)
    → AllByRecursion (λ t. IsOver m (value t.source) (pos (m / den t.source) *ℤ (over t.source).num)) terms
each-over value den over m [] h = tt
each-over value den over m (t ∷ terms) h =
    (over-multiple (den t.source) m (value t.source) (over t.source).num h.0 (over t.source).same, each-over value den over m terms h.1)

mask-over : (value : SourcePoint → Value) (den : SourcePoint → ℕ) → ((s : SourcePoint) → Over (den s) (value s)) → (mask : Mask)
    → Over (mask_denominator den mask) (mask_value value mask)
mask-over value den each mask =
    let dens = map (λ t. den t.source) mask.terms in
    let m = lcm_of_all dens in
    record {
      num = weighted_sum (λ s. pos (m / den s) *ℤ (each s).num) mask.terms;
      same = terms-over mask.denominator m value (λ s. pos (m / den s) *ℤ (each s).num) mask.terms (each-over value den each m mask.terms (all-divide_lcm dens));
    }

abbrev AreOver : List Value → List ℕ → Type 0
AreOver xs cs = AllZip (λ x c. IsWholeOver c x) xs cs

zero-over : Over 1 (whole_value (pos 0))
zero-over = record { num = pos 0; same = refl }

point-over : (xs : List Value) (cs : List ℕ) (v : ℕ) → AreOver xs cs → Over (get_or cs v 1) (point_value xs v)
point-over [] [] v h = zero-over
point-over [] (c ∷ cs) v h = absurd h
point-over (x ∷ xs) [] v h = absurd h
point-over (x ∷ xs) (c ∷ cs) zero h = to-over c x h.0
point-over (x ∷ xs) (c ∷ cs) (suc v) h = point-over xs cs v h.1

corner-over : (xs : List Value) (cs : List ℕ) → AreOver xs cs → (s : SourcePoint) → Over (corner_denominator cs s) (corner_value xs s)
corner-over xs cs h (OfPoint v) = point-over xs cs v h
corner-over xs cs h (OfFace f) = zero-over

source-over : (level : Level) (xs : List Value) (cs : List ℕ) → AreOver xs cs → (s : SourcePoint)
    → Over (source_denominator level cs s) (source_value level xs s)
source-over level xs cs h (OfPoint v) = point-over xs cs v h
source-over level xs cs h (OfFace f) = mask-over (corner_value xs) (corner_denominator cs) (corner-over xs cs h) (face_mask level f)

masks-over : (value : SourcePoint → Value) (den : SourcePoint → ℕ) → ((s : SourcePoint) → Over (den s) (value s)) → (masks : List Mask)
    → AreOver (map (mask_value value) masks) (map (mask_denominator den) masks)
masks-over value den each [] = tt
masks-over value den each (mask ∷ masks) =
    (from-over (mask_denominator den mask) (mask_value value mask) (mask-over value den each mask), masks-over value den each masks)

controls-over : (controls : List ℤ) (a n : ℕ) → length controls ≡ n → AreOver (control_values controls) (map (λ v. 1) (range_with_len a n))
controls-over [] a zero h = tt
controls-over [] a (suc n) h = absurd (omega arith)
controls-over (c ∷ controls) a zero h = absurd (omega arith)
controls-over (c ∷ controls) a (suc n) h =
    (record { num = c; same = refl }, controls-over controls (a + 1) n (omega arith))

pub refined-over : (level : Level) (scheme : Scheme) (controls : List ℤ) (k : ℕ) → length controls ≡ level.point_count
    → AreOver (refined_values level scheme (control_values controls) k) (refined_denominators level scheme k)
refined-over level scheme controls zero count = controls-over controls 0 level.point_count count
refined-over level scheme controls (suc k) count =
    let here = refined_level level k in
    masks-over _ _
    (source-over here (refined_values level scheme (control_values controls) k) (refined_denominators level scheme k) (refined-over level scheme controls k count))
    (child_masks here scheme)
