-- A control point outside the support of a point has no share in it.
use Rattle.std.proofs.Common.{◌≡◌, ℕ, zero, suc, ◌*◌, ◌/◌, ◌<◌, false, nat_eq, List, [], ◌∷◌, map, get_or, arith, refl, ap, sym, ◌∙◌, inl, inr, zero-add}
use Rattle.std.specs.List.{list_any, sum_by, range_with_len}
use Rattle.std.proofs.lemmas.Bool.{cases_lt, cases_eq, or_parts, cond-false}
use Rattle.std.proofs.lemmas.Bool.Decides.{nat_tests}
use Rattle.std.proofs.lemmas.List.{get_or_past}
use Rattle.std.proofs.lemmas.List.Sums.{sum_by-cons}
use Rattle.std.proofs.lemmas.List.FromFn.{length-map-range_with_len, get_or-map-range_with_len}
use Rattle.subdiv_model.specs.Polygons.{is_among}
use Rattle.subdiv_model.specs.Level.{Level}
use Rattle.subdiv_model.specs.Child.{refined_level}
use Rattle.subdiv_model.specs.Mask.{Scheme, SourcePoint, OfPoint, OfFace, Term, Mask, face_mask, child_masks}
use Rattle.subdiv_model.specs.Refined.{corner_denominator, source_denominator, refined_denominators}
use Rattle.subdiv_model.specs.Support.{mask_support, corner_support, source_support, refined_supports, stencil_numerator}
use Rattle.stencil_laws.proofs.UnionLemmas.{among-union}
use Rattle.stencil_laws.proofs.RowLemmas.{term_row, mask_row, corner_row, source_row, unit_share, refined_rows}
use Rattle.stencil_laws.proofs.ShareLemmas.{share-row, share-past, share-none}

module _ (n v : ℕ) (inside : v < n) where
  module _ (den row : SourcePoint → ℕ) (support : SourcePoint → List ℕ) (each : (s : SourcePoint) → is_among (support s) v ≡ false → row s ≡ 0) where
    terms-outside : (m : ℕ) (terms : List Term) → list_any (λ list. is_among list v) (map (λ t. support t.source) terms) ≡ false → sum_by (term_row den m row) terms ≡ 0
    terms-outside m [] h = refl
    terms-outside m (t ∷ terms) h =
        let parts = or_parts (is_among (support t.source) v) (list_any (λ list. is_among list v) (map (λ u. support u.source) terms)) h in
        let none : term_row den m row t ≡ 0 = ap (λ r. t.weight * (m / den t.source * r)) (each t.source parts.0) ∙ omega arith in
        omega (arith, sum_by-cons (term_row den m row) t terms, none, terms-outside m terms parts.1)

    mask-outside : (mask : Mask) → is_among (mask_support n support mask) v ≡ false → mask_row den row mask ≡ 0
    mask-outside mask h = terms-outside _ mask.terms (sym (among-union n (map (λ t. support t.source) mask.terms) v inside) ∙ h)

    masks-outside : (masks : List Mask) (p : ℕ) → is_among (get_or (map (mask_support n support) masks) p []) v ≡ false → get_or (map (mask_row den row) masks) p 0 ≡ 0
    masks-outside [] p h = refl
    masks-outside (mask ∷ masks) zero h = mask-outside mask h
    masks-outside (mask ∷ masks) (suc p) h = masks-outside masks p h

  module _ (level : Level) (dens rows : List ℕ) (supports : List (List ℕ)) (each : (p : ℕ) → is_among (get_or supports p []) v ≡ false → get_or rows p 0 ≡ 0) where
    corner-outside : (s : SourcePoint) → is_among (corner_support supports s) v ≡ false → corner_row rows s ≡ 0
    corner-outside (OfPoint p) h = each p h
    corner-outside (OfFace f) h = refl

    source-outside : (s : SourcePoint) → is_among (source_support n level supports s) v ≡ false → source_row level dens rows s ≡ 0
    source-outside (OfPoint p) h = each p h
    source-outside (OfFace f) h = mask-outside (corner_denominator dens) (corner_row rows) (corner_support supports) corner-outside (face_mask level f) h

-- the support of a control point is the point itself
pub own-support : (n p : ℕ) → p < n → get_or (map (λ v. v ∷ []) (range_with_len 0 n)) p [] ≡ p ∷ []
own-support n p h = get_or-map-range_with_len (λ v. v ∷ []) 0 n p p [] h (zero-add p)

module _ (level : Level) (scheme : Scheme) where
  control-outside : (v p : ℕ) → is_among (get_or (refined_supports level scheme 0) p []) v ≡ false → get_or (refined_rows level scheme v 0) p 0 ≡ 0
  control-outside v p h =
      elim (cases_lt p level.point_count) [
        | inl below ↦
            let other : nat_eq v p ≡ false = (or_parts (nat_eq v p) false (sym (ap (λ support. is_among support v) (own-support level.point_count p below)) ∙ h)).0 in
            get_or-map-range_with_len (unit_share v) 0 level.point_count p p 0 below (zero-add p) ∙ cond-false (nat_eq p v) 1 0 (grind (arith, nat_tests))
        | inr above ↦ get_or_past (refined_rows level scheme v 0) p 0 (omega (arith, length-map-range_with_len (unit_share v) 0 level.point_count))
      ]

  rows-outside : (v k p : ℕ) → v < level.point_count → is_among (get_or (refined_supports level scheme k) p []) v ≡ false → get_or (refined_rows level scheme v k) p 0 ≡ 0
  rows-outside v zero p inside h = control-outside v p h
  rows-outside v (suc k) p inside h =
      let n = level.point_count in
      let here = refined_level level k in
      let dens = refined_denominators level scheme k in
      let rows = refined_rows level scheme v k in
      let supports = refined_supports level scheme k in
      masks-outside n v inside (source_denominator here dens) (source_row here dens rows) (source_support n here supports)
      (source-outside n v inside here dens rows supports (λ q. rows-outside v k q inside)) (child_masks here scheme) p h

  pub share-outside : (k p v : ℕ) → is_among (get_or (refined_supports level scheme k) p []) v ≡ false → stencil_numerator level scheme k p v ≡ 0
  share-outside k p v h =
      elim (cases_lt v level.point_count) [
        | inl inside ↦
            elim (cases_eq (get_or (refined_denominators level scheme k) p 1) 0) [
              | inl none ↦ share-none level scheme k p v none
              | inr some ↦ share-row level scheme k p v (omega (arith, some)) inside ∙ rows-outside v k p inside h
            ]
        | inr past ↦ share-past level scheme k p v past
      ]
