-- Shares of stencil rows: they are the rows' numbers, and make the value of each point.
use Rattle.std.proofs.Common.{◌≡◌, ℕ, zero, suc, ◌*◌, ◌/◌, ◌<◌, ◌≤◌, nat_eq, if◌then◌else◌, unsigned_abs, ℤ, pos, ◌*ℤ◌, List, [], ◌∷◌, length, map, get_or, arith, refl, ap, sym, ◌∙◌, inl, inr, zero-add}
use Rattle.std.specs.List.{AllByRecursion, range_with_len}
use Rattle.std.specs.Int.{◌∣◌}
use Rattle.std.proofs.lemmas.Bool.{cases_lt, cases_eq, eq-eqb, ne_eqb, cond-true, cond-false}
use Rattle.std.proofs.lemmas.Int.{unsigned_abs-mul}
use Rattle.std.proofs.lemmas.List.{get_or_past}
use Rattle.std.proofs.lemmas.List.FromFn.{length-map-range_with_len, get_or-map-range_with_len}
use Rattle.std.proofs.Math.ListN.{get_or-map}
use Rattle.std.proofs.Math.Nat.{mul-div_cancel_left, zero-div, eq-zero_of_zero-dvd}
use Rattle.std.proofs.Math.IntN.{*ℤ_comm, *ℤ-zero, zero-*ℤ}
use Rattle.subdiv_model.specs.Level.{Level}
use Rattle.subdiv_model.specs.Child.{refined_level}
use Rattle.subdiv_model.specs.Mask.{Scheme, SourcePoint, OfPoint, OfFace, Term, Mask, face_mask, child_masks}
use Rattle.subdiv_model.specs.Multiples.{lcm_of_all}
use Rattle.subdiv_model.specs.Value.{Value, IsSameValue, whole_value, weighted, sum_of_values}
use Rattle.subdiv_model.specs.Refined.{mask_value, point_value, corner_value, source_value, refined_values, control_values, mask_denominator, corner_denominator, source_denominator, refined_denominators}
use Rattle.subdiv_model.specs.Support.{unit_controls, stencil_numerator}
use Rattle.number_laws.proofs.MultipleLemmas.{all-divide_lcm, product-positive}
use Rattle.number_laws.proofs.WholeNumberLemmas.{times-one}
use Rattle.mask_laws.proofs.SumLemmas.{IsOver}
use Rattle.stencil_laws.specs.Rows.{sum_over, sum_of_shares, value_of_shares}
use Rattle.stencil_laws.proofs.SumOverLemmas.{over-same, over-one, over-none}
use Rattle.stencil_laws.proofs.RowLemmas.{refined_rows, rows-over}

-- Where a common denominator is above 0, the denominator of the value is.

pub factors-positive : (a b : ℕ) → 0 < a * b → (0 < a) × (0 < b)
factors-positive zero b h = absurd (omega arith)
factors-positive (suc a) zero h = absurd (omega arith)
factors-positive (suc a) (suc b) h = (omega arith, omega arith)

divisor-positive : (d m : ℕ) → d ∣ m → 0 < m → 0 < d
divisor-positive zero m h positive = let none : m ≡ 0 = eq-zero_of_zero-dvd h in absurd (omega arith)
divisor-positive (suc d) m h positive = omega arith

module _ (value : SourcePoint → Value) (den : SourcePoint → ℕ) (each : (s : SourcePoint) → 0 < den s → 0 < (value s).den) where
  terms-positive : (q m : ℕ) (terms : List Term) → 0 < q → 0 < m → AllByRecursion (λ c. c ∣ m) (map (λ t. den t.source) terms) → 0 < (sum_of_values (map (λ t. weighted t.weight q (value t.source)) terms)).den
  terms-positive q m [] hq hm h = omega arith
  terms-positive q m (t ∷ terms) hq hm h =
      product-positive _ _ (product-positive q (value t.source).den hq (each t.source (divisor-positive (den t.source) m h.0 hm))) (terms-positive q m terms hq hm h.1)

  mask-positive : (mask : Mask) → 0 < mask_denominator den mask → 0 < (mask_value value mask).den
  mask-positive mask h =
      let dens = map (λ t. den t.source) mask.terms in
      let both = factors-positive mask.denominator (lcm_of_all dens) h in
      terms-positive mask.denominator (lcm_of_all dens) mask.terms both.0 both.1 (all-divide_lcm dens)

  pub masks-positive : (masks : List Mask) (p : ℕ) → 0 < get_or (map (mask_denominator den) masks) p 1 → 0 < (point_value (map (mask_value value) masks) p).den
  masks-positive [] p h = omega arith
  masks-positive (mask ∷ masks) zero h = mask-positive mask h
  masks-positive (mask ∷ masks) (suc p) h = masks-positive masks p h

module _ (level : Level) (xs : List Value) (dens : List ℕ) (each : (p : ℕ) → 0 < get_or dens p 1 → 0 < (point_value xs p).den) where
  corner-positive : (s : SourcePoint) → 0 < corner_denominator dens s → 0 < (corner_value xs s).den
  corner-positive (OfPoint v) h = each v h
  corner-positive (OfFace f) h = omega arith

  pub source-positive : (s : SourcePoint) → 0 < source_denominator level dens s → 0 < (source_value level xs s).den
  source-positive (OfPoint v) h = each v h
  source-positive (OfFace f) h = mask-positive (corner_value xs) (corner_denominator dens) corner-positive (face_mask level f) h

pub value-positive : (level : Level) (scheme : Scheme) (controls : List ℤ) (k p : ℕ) → 0 < get_or (refined_denominators level scheme k) p 1 → 0 < (point_value (refined_values level scheme (control_values controls) k) p).den
value-positive level scheme controls zero p h =
    let own : (point_value (control_values controls) p).den ≡ 1 = ap (λ (x : Value). x.den) (get_or-map whole_value controls p (pos 0)) in omega arith
value-positive level scheme controls (suc k) p h =
    let here = refined_level level k in
    let xs = refined_values level scheme (control_values controls) k in
    let dens = refined_denominators level scheme k in
    masks-positive (source_value here xs) (source_denominator here dens) (source-positive here xs dens (value-positive level scheme controls k)) (child_masks here scheme) p h

-- A sum over controls that are 0 but for one.

abbrev unit_number : ℕ → ℕ → ℤ
unit_number v w = if nat_eq w v then pos 1 else pos 0

unit-other : (n v w : ℕ) → (w ≡ v → ⊥) → get_or (unit_controls n v) w (pos 0) ≡ pos 0
unit-other n v w other =
    elim (cases_lt w n) [
      | inl below ↦ get_or-map-range_with_len (unit_number v) 0 n w w (pos 0) below (zero-add w) ∙ cond-false _ (pos 1) (pos 0) (ne_eqb w v other)
      | inr above ↦ get_or_past (unit_controls n v) w (pos 0) (omega (arith, length-map-range_with_len (unit_number v) 0 n))
    ]

unit-own : (n v : ℕ) → v < n → get_or (unit_controls n v) v (pos 0) ≡ pos 1
unit-own n v h = get_or-map-range_with_len (unit_number v) 0 n v v (pos 0) h (zero-add v) ∙ cond-true _ (pos 1) (pos 0) (eq-eqb v v refl)

unit-sum : (share : ℕ → ℕ) (n v : ℕ) → v < n → sum_of_shares share (unit_controls n v) (range_with_len 0 n) ≡ pos (share v)
unit-sum share n v h =
    over-one (λ w. pos (share w) *ℤ get_or (unit_controls n v) w (pos 0)) 0 n v (omega arith) (omega arith) (λ w other. ap (λ z. pos (share w) *ℤ z) (unit-other n v w other) ∙ *ℤ-zero (pos (share w)))
    ∙ ap (λ z. pos (share v) *ℤ z) (unit-own n v h)
    ∙ times-one (pos (share v))

-- a number past the control points has no unit among them
unit-none : (share : ℕ → ℕ) (n v : ℕ) → n ≤ v → sum_of_shares share (unit_controls n v) (range_with_len 0 n) ≡ pos 0
unit-none share n v h =
    over-same (λ w. pos (share w) *ℤ get_or (unit_controls n v) w (pos 0)) (λ w. pos 0) 0 n (λ w low high. ap (λ z. pos (share w) *ℤ z) (unit-other n v w (λ e. omega arith)) ∙ *ℤ-zero (pos (share w)))
    ∙ over-none (λ w. pos 0) (range_with_len 0 n) (λ w. refl)

-- a whole number over a common denominator, from any value that it is
numerator-is : (c r : ℕ) (x : Value) → 0 < x.den → IsOver c x (pos r) → unsigned_abs x.num * c / x.den ≡ r
numerator-is c r x positive h =
    let crossed : c * unsigned_abs x.num ≡ x.den * r = sym (unsigned_abs-mul (pos c) x.num) ∙ ap unsigned_abs h ∙ unsigned_abs-mul (pos x.den) (pos r) in
    let turned : unsigned_abs x.num * c ≡ x.den * r = omega (arith, crossed) in
    ap (λ n. n / x.den) turned ∙ mul-div_cancel_left r positive

no-numerator : (c n d : ℕ) → c ≡ 0 → n * c / d ≡ 0
no-numerator c n d h = let none : n * c ≡ 0 = ap (λ m. n * m) h ∙ omega arith in ap (λ m. m / d) none ∙ zero-div d

module _ (level : Level) (scheme : Scheme) (k p : ℕ) where
  abbrev den : ℕ
  den = get_or (refined_denominators level scheme k) p 1

  abbrev row : ℕ → ℕ
  row v = get_or (refined_rows level scheme v k) p 0

  length-unit : (v : ℕ) → length (unit_controls level.point_count v) ≡ level.point_count
  length-unit v = length-map-range_with_len (unit_number v) 0 level.point_count

  share-is : (v r : ℕ) → 0 < den → sum_of_shares row (unit_controls level.point_count v) (range_with_len 0 level.point_count) ≡ pos r → stencil_numerator level scheme k p v ≡ r
  share-is v r positive h =
      let x = point_value (refined_values level scheme (control_values (unit_controls level.point_count v)) k) p in
      numerator-is den r x (value-positive level scheme (unit_controls level.point_count v) k p positive) (rows-over level scheme (unit_controls level.point_count v) k p (length-unit v) ∙ ap (λ z. pos x.den *ℤ z) h)

  -- a share is the number of the row
  pub share-row : (v : ℕ) → 0 < den → v < level.point_count → stencil_numerator level scheme k p v ≡ row v
  share-row v positive inside = share-is v (row v) positive (unit-sum row level.point_count v inside)

  -- a number past the control points has no share
  pub share-past : (v : ℕ) → level.point_count ≤ v → stencil_numerator level scheme k p v ≡ 0
  share-past v past =
      elim (cases_eq den 0) [
        | inl none ↦ no-numerator den _ _ none
        | inr some ↦ share-is v 0 (omega (arith, some)) (unit-none row level.point_count v past)
      ]

  -- over a denominator of 0 there are no shares
  pub share-none : (v : ℕ) → den ≡ 0 → stencil_numerator level scheme k p v ≡ 0
  share-none v none = no-numerator den _ _ none

  pub shares-value : (controls : List ℤ) → length controls ≡ level.point_count → IsSameValue (point_value (refined_values level scheme (control_values controls) k) p) (value_of_shares level scheme controls k p (range_with_len 0 level.point_count))
  shares-value controls count =
      elim (cases_eq den 0) [
        | inl none ↦
            ap (λ c. x.num *ℤ pos c) none
            ∙ *ℤ-zero x.num
            ∙ sym (ap (λ z. z *ℤ pos x.den) (over-none (term share) points (λ v. ap (λ n. pos n *ℤ get_or controls v (pos 0)) (share-none v none) ∙ zero-*ℤ (get_or controls v (pos 0)))) ∙ zero-*ℤ (pos x.den))
        | inr some ↦
            *ℤ_comm x.num (pos den)
            ∙ rows-over level scheme controls k p count
            ∙ ap (λ z. pos x.den *ℤ z) (over-same (term row) (term share) 0 level.point_count (λ v low high. ap (λ n. pos n *ℤ get_or controls v (pos 0)) (sym (share-row v (omega (arith, some)) (omega arith)))))
            ∙ *ℤ_comm (pos x.den) (sum_over (term share) points)
      ]
    where
      points : List ℕ
      points = range_with_len 0 level.point_count

      share : ℕ → ℕ
      share = stencil_numerator level scheme k p

      term : (ℕ → ℕ) → ℕ → ℤ
      term f v = pos (f v) *ℤ get_or controls v (pos 0)

      x : Value
      x = point_value (refined_values level scheme (control_values controls) k) p
