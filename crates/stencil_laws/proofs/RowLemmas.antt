-- Rows: the shares of a control in the points after k steps, made step by step as the denominators are.
use Rattle.std.proofs.Common.{◌≡◌, ℕ, zero, suc, ◌*◌, ◌/◌, ◌<◌, ◌≤◌, nat_eq, if◌then◌else◌, ℤ, pos, ◌+ℤ◌, ◌*ℤ◌, List, [], ◌∷◌, length, map, get_or, arith, refl, ap, sym, ◌∙◌, inl, inr, zero-add}
use Rattle.std.specs.List.{AllByRecursion, sum_by, range_with_len}
use Rattle.std.specs.Int.{◌∣◌}
use Rattle.std.proofs.lemmas.Bool.{cases_lt, eq-eqb, ne_eqb, cond-true, cond-false}
use Rattle.std.proofs.lemmas.List.{get_or_past}
use Rattle.std.proofs.lemmas.List.FromFn.{length-map-range_with_len, get_or-map-range_with_len}
use Rattle.std.proofs.lemmas.List.Sums.{sum_by-cons}
use Rattle.std.proofs.Math.ListN.{get_or-map}
use Rattle.std.proofs.Math.IntN.{*ℤ_comm, *ℤ-zero, zero-*ℤ}
use Rattle.subdiv_model.specs.Level.{Level}
use Rattle.subdiv_model.specs.Child.{refined_level}
use Rattle.subdiv_model.specs.Mask.{Scheme, SourcePoint, OfPoint, OfFace, Term, Mask, face_mask, child_masks}
use Rattle.subdiv_model.specs.Multiples.{lcm_of_all}
use Rattle.subdiv_model.specs.Value.{Value, whole_value}
use Rattle.subdiv_model.specs.Refined.{mask_value, point_value, corner_value, source_value, refined_values, control_values, mask_denominator, corner_denominator, source_denominator, refined_denominators}
use Rattle.number_laws.proofs.MultipleLemmas.{all-divide_lcm}
use Rattle.number_laws.proofs.WholeNumberLemmas.{times-one}
use Rattle.mask_laws.proofs.SumLemmas.{weighted_sum, IsOver, over-multiple, terms-over}
use Rattle.stencil_laws.specs.Rows.{sum_over, sum_of_shares}
use Rattle.stencil_laws.proofs.SumOverLemmas.{over-one, over-none, shares-same, shares-none, shares-plus, shares-times}

-- the share of a term over m, from the share and the denominator of its source
abbrev pub term_row : (SourcePoint → ℕ) → ℕ → (SourcePoint → ℕ) → Term → ℕ
term_row denominator m row t = t.weight * (m / denominator t.source * row t.source)

-- a control's share in a mask's value, from its shares in the sources
abbrev pub mask_row : (SourcePoint → ℕ) → (SourcePoint → ℕ) → Mask → ℕ
mask_row denominator row mask =
    sum_by (term_row denominator (lcm_of_all (map (λ t. denominator t.source) mask.terms)) row) mask.terms

abbrev pub corner_row : List ℕ → SourcePoint → ℕ
corner_row rows (OfPoint v) = get_or rows v 0
corner_row rows (OfFace f) = 0

abbrev pub source_row : Level → List ℕ → List ℕ → SourcePoint → ℕ
source_row level denominators rows (OfPoint v) = get_or rows v 0
source_row level denominators rows (OfFace f) = mask_row (corner_denominator denominators) (corner_row rows) (face_mask level f)

-- the share of the control v in the control w
abbrev pub unit_share : ℕ → ℕ → ℕ
unit_share v w = if nat_eq w v then 1 else 0

-- the shares of the control v after k steps
abbrev pub refined_rows : Level → Scheme → ℕ → ℕ → List ℕ
refined_rows level scheme v zero = map (unit_share v) (range_with_len 0 level.point_count)
refined_rows level scheme v (suc k) =
    let here = refined_level level k in
    let denominators = refined_denominators level scheme k in
    map (mask_row (source_denominator here denominators) (source_row here denominators (refined_rows level scheme v k))) (child_masks here scheme)

-- The value of a point is the sum of shares times control numbers, over its common denominator.

module _ (controls : List ℤ) (points : List ℕ) where
  -- over c the value is the sum of these shares times the control numbers
  abbrev IsRow : ℕ → Value → (ℕ → ℕ) → Type 0
  IsRow c x share = IsOver c x (sum_of_shares share controls points)

  module _ (value : SourcePoint → Value) (den : SourcePoint → ℕ) (row : ℕ → SourcePoint → ℕ) (each : (s : SourcePoint) → IsRow (den s) (value s) (λ v. row v s)) where
    abbrev scaled : ℕ → SourcePoint → ℤ
    scaled m s = pos (m / den s) *ℤ sum_of_shares (λ v. row v s) controls points

    each-over : (m : ℕ) (terms : List Term) → AllByRecursion (λ c. c ∣ m) (map (λ t. den t.source) terms) → AllByRecursion (λ t. IsOver m (value t.source) (scaled m t.source)) terms
    each-over m [] h = tt
    each-over m (t ∷ terms) h =
        (over-multiple (den t.source) m (value t.source) (sum_of_shares (λ v. row v t.source) controls points) h.0 (each t.source), each-over m terms h.1)

    -- the sums over terms and over controls change places
    shares-terms : (m : ℕ) (terms : List Term) → sum_of_shares (λ v. sum_by (term_row den m (row v)) terms) controls points ≡ weighted_sum (scaled m) terms
    shares-terms m [] = shares-none controls points
    shares-terms m (t ∷ terms) =
        shares-same controls _ _ points (λ v. sum_by-cons (term_row den m (row v)) t terms)
        ∙ shares-plus controls (λ v. term_row den m (row v) t) (λ v. sum_by (term_row den m (row v)) terms) points
        ∙ ap (λ z. z +ℤ sum_of_shares (λ v. sum_by (term_row den m (row v)) terms) controls points)
        (shares-times controls t.weight (λ v. m / den t.source * row v t.source) points ∙ ap (λ z. pos t.weight *ℤ z) (shares-times controls (m / den t.source) (λ v. row v t.source) points))
        ∙ ap (λ z. pos t.weight *ℤ scaled m t.source +ℤ z) (shares-terms m terms)

    mask-row-over : (mask : Mask) → IsRow (mask_denominator den mask) (mask_value value mask) (λ v. mask_row den (row v) mask)
    mask-row-over mask =
        let dens = map (λ t. den t.source) mask.terms in
        let m = lcm_of_all dens in
        terms-over mask.denominator m value (scaled m) mask.terms (each-over m mask.terms (all-divide_lcm dens)) ∙ ap (λ z. pos (mask_value value mask).den *ℤ z) (sym (shares-terms m mask.terms))

  zero-row : IsRow 1 (whole_value (pos 0)) (λ v. 0)
  zero-row = *ℤ-zero (pos 1) ∙ sym (ap (λ z. pos 1 *ℤ z) (shares-none controls points) ∙ *ℤ-zero (pos 1))

  masks-row-over : (value : SourcePoint → Value) (den : SourcePoint → ℕ) (row : ℕ → SourcePoint → ℕ) → ((s : SourcePoint) → IsRow (den s) (value s) (λ v. row v s)) → (masks : List Mask) (p : ℕ) → IsRow (get_or (map (mask_denominator den) masks) p 1) (point_value (map (mask_value value) masks) p) (λ v. get_or (map (mask_row den (row v)) masks) p 0)
  masks-row-over value den row each [] p = zero-row
  masks-row-over value den row each (mask ∷ masks) zero = mask-row-over value den row each mask
  masks-row-over value den row each (mask ∷ masks) (suc p) = masks-row-over value den row each masks p

  module _ (level : Level) (xs : List Value) (dens : List ℕ) (rows : ℕ → List ℕ) (each : (p : ℕ) → IsRow (get_or dens p 1) (point_value xs p) (λ v. get_or (rows v) p 0)) where
    corner-row-over : (s : SourcePoint) → IsRow (corner_denominator dens s) (corner_value xs s) (λ v. corner_row (rows v) s)
    corner-row-over (OfPoint v) = each v
    corner-row-over (OfFace f) = zero-row

    source-row-over : (s : SourcePoint) → IsRow (source_denominator level dens s) (source_value level xs s) (λ v. source_row level dens (rows v) s)
    source-row-over (OfPoint v) = each v
    source-row-over (OfFace f) = mask-row-over (corner_value xs) (corner_denominator dens) (λ v. corner_row (rows v)) corner-row-over (face_mask level f)

pub own-share : (n v p : ℕ) → p < n → get_or (map (unit_share v) (range_with_len 0 n)) p 0 ≡ unit_share v p
own-share n v p h = get_or-map-range_with_len (unit_share v) 0 n p p 0 h (zero-add p)

abbrev one_each : ℕ → ℕ
one_each v = 1

pub one-denominator : (n p : ℕ) → get_or (map one_each (range_with_len 0 n)) p 1 ≡ one_each p
one-denominator n p = get_or-map one_each (range_with_len 0 n) p 0

module _ (level : Level) (scheme : Scheme) where
  abbrev share_of_own : ℕ → ℕ → ℕ
  share_of_own p v = get_or (refined_rows level scheme v 0) p 0

  abbrev own_number : List ℤ → ℕ → ℕ → ℤ
  own_number controls p v = pos (share_of_own p v) *ℤ get_or controls v (pos 0)

  own-inside : (controls : List ℤ) (p : ℕ) → p < level.point_count → sum_over (own_number controls p) (range_with_len 0 level.point_count) ≡ get_or controls p (pos 0)
  own-inside controls p h =
      over-one (own_number controls p) 0 level.point_count p (omega arith) (omega arith)
      (λ v other. ap (λ n. pos n *ℤ get_or controls v (pos 0)) (own-share level.point_count v p h ∙ cond-false _ 1 0 (ne_eqb p v (λ e. other (sym e)))) ∙ zero-*ℤ (get_or controls v (pos 0)))
      ∙ ap (λ n. pos n *ℤ get_or controls p (pos 0)) (own-share level.point_count p p h ∙ cond-true _ 1 0 (eq-eqb p p refl))
      ∙ *ℤ_comm (pos 1) (get_or controls p (pos 0))
      ∙ times-one (get_or controls p (pos 0))

  own-outside : (controls : List ℤ) (p : ℕ) → length controls ≤ p → level.point_count ≤ p → sum_over (own_number controls p) (range_with_len 0 level.point_count) ≡ get_or controls p (pos 0)
  own-outside controls p past h =
      let none = λ (v : ℕ). get_or_past (refined_rows level scheme v 0) p 0 (omega (arith, length-map-range_with_len (unit_share v) 0 level.point_count)) in
      over-none (own_number controls p) (range_with_len 0 level.point_count) (λ v. ap (λ n. pos n *ℤ get_or controls v (pos 0)) (none v) ∙ zero-*ℤ (get_or controls v (pos 0)))
      ∙ sym (get_or_past controls p (pos 0) past)

  own-sum : (controls : List ℤ) (p : ℕ) → length controls ≡ level.point_count → sum_over (own_number controls p) (range_with_len 0 level.point_count) ≡ get_or controls p (pos 0)
  own-sum controls p count =
      elim (cases_lt p level.point_count) [
        | inl below ↦ own-inside controls p below
        | inr above ↦ own-outside controls p (omega arith) above
      ]

  control-row-over : (controls : List ℤ) (p : ℕ) → length controls ≡ level.point_count → IsOver (get_or (refined_denominators level scheme 0) p 1) (point_value (control_values controls) p) (sum_over (own_number controls p) (range_with_len 0 level.point_count))
  control-row-over controls p count =
      let own = get_or-map whole_value controls p (pos 0) in
      ap (λ c. pos c *ℤ (point_value (control_values controls) p).num) (one-denominator level.point_count p)
      ∙ ap (λ (x : Value). pos 1 *ℤ x.num) own
      ∙ ap (λ z. pos 1 *ℤ z) (sym (own-sum controls p count))
      ∙ sym (ap (λ (x : Value). pos x.den *ℤ sum_over (own_number controls p) (range_with_len 0 level.point_count)) own)

  pub rows-over : (controls : List ℤ) (k p : ℕ) → length controls ≡ level.point_count → IsOver (get_or (refined_denominators level scheme k) p 1) (point_value (refined_values level scheme (control_values controls) k) p) (sum_of_shares (λ v. get_or (refined_rows level scheme v k) p 0) controls (range_with_len 0 level.point_count))
  rows-over controls zero p count = control-row-over controls p count
  rows-over controls (suc k) p count =
      let here = refined_level level k in
      let points = range_with_len 0 level.point_count in
      let xs = refined_values level scheme (control_values controls) k in
      let dens = refined_denominators level scheme k in
      masks-row-over controls points (source_value here xs) (source_denominator here dens) (λ v. source_row here dens (refined_rows level scheme v k))
      (source-row-over controls points here xs dens (λ v. refined_rows level scheme v k) (λ q. rows-over controls k q count)) (child_masks here scheme) p
