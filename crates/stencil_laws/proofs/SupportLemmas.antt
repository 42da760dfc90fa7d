-- Supports: what they list, how many there are, and that values depend on nothing else.
use Rattle.std.proofs.Common.{◌≡◌, ℕ, zero, suc, ◌+◌, ◌<◌, ◌≤◌, Bool, true, ℤ, pos, List, [], ◌∷◌, ◌++◌, length, map, get_or, arith, refl, ap, sym, ◌∙◌, inl, inr, IsTrue, length-append, zero-add}
use Rattle.std.specs.List.{All, AllByRecursion, filter, list_any, range_with_len}
use Rattle.std.specs.List.Sorted.{IsStrictlyIncreasing}
use Rattle.std.proofs.lemmas.Bool.{cases_lt, eq-eqb, or_left, or_right}
use Rattle.std.proofs.Math.ListN.{get_or-map}
use Rattle.std.proofs.lemmas.List.{length-map, get_or_past}
use Rattle.std.proofs.lemmas.List.Elements.{All-from_recursion}
use Rattle.std.proofs.lemmas.List.FromFn.{length-map-range_with_len, get_or-map-range_with_len}
use Rattle.subdiv_model.specs.Polygons.{is_among, is_distinct}
use Rattle.subdiv_model.specs.Edges.{edges_of}
use Rattle.subdiv_model.specs.Level.{Level}
use Rattle.subdiv_model.specs.Child.{child_level, refined_level}
use Rattle.subdiv_model.specs.Mask.{Scheme, SourcePoint, OfPoint, OfFace, Term, Mask, face_mask, edge_mask, vertex_mask, child_masks}
use Rattle.subdiv_model.specs.Value.{Value, whole_value, plus_value, weighted, sum_of_values}
use Rattle.subdiv_model.specs.Refined.{mask_value, point_value, corner_value, source_value, refined_values, control_values}
use Rattle.subdiv_model.specs.Support.{mask_support, corner_support, source_support, refined_supports}
use Rattle.stencil_laws.proofs.UnionLemmas.{among-union, ascending-kept, below-kept, distinct-kept}

-- What holds of a list of one control, and of the controls that pass a test, holds of each support.

module _ (level : Level) (scheme : Scheme) (P : List ℕ → Type 0) (one : (v : ℕ) → v < level.point_count → P (v ∷ [])) (kept : (p : ℕ → Bool) → P (filter p (range_with_len 0 level.point_count))) where
  controls-all : (a n : ℕ) → a + n ≤ level.point_count → AllByRecursion P (map (λ v. v ∷ []) (range_with_len a n))
  controls-all a zero h = tt
  controls-all a (suc n) h = (one a (omega arith), controls-all (a + 1) n (omega arith))

  masks-all : (support : SourcePoint → List ℕ) (masks : List Mask) → AllByRecursion P (map (mask_support level.point_count support) masks)
  masks-all support [] = tt
  masks-all support (mask ∷ masks) = (kept _, masks-all support masks)

  pub each-support : (k : ℕ) → AllByRecursion P (refined_supports level scheme k)
  each-support zero = controls-all 0 level.point_count (omega arith)
  each-support (suc k) = masks-all (source_support level.point_count (refined_level level k) (refined_supports level scheme k)) (child_masks (refined_level level k) scheme)

  supports-all : (k : ℕ) → All P (refined_supports level scheme k)
  supports-all k = All-from_recursion P (refined_supports level scheme k) (each-support k)

pub supports-ascending : (level : Level) (scheme : Scheme) (k : ℕ) → All IsStrictlyIncreasing (refined_supports level scheme k)
supports-ascending level scheme =
    supports-all level scheme IsStrictlyIncreasing (λ v inside k h. absurd (omega arith)) (λ p. ascending-kept p 0 level.point_count)

pub supports-distinct : (level : Level) (scheme : Scheme) (k : ℕ) → All (λ support. is_distinct support ≡ true) (refined_supports level scheme k)
supports-distinct level scheme =
    supports-all level scheme (λ support. is_distinct support ≡ true) (λ v inside. refl) (λ p. distinct-kept p 0 level.point_count)

pub supports-inside : (level : Level) (scheme : Scheme) (k : ℕ) → All (All (λ v. v < level.point_count)) (refined_supports level scheme k)
supports-inside level scheme =
    supports-all level scheme (All (λ v. v < level.point_count)) (λ v inside. All-from_recursion (λ w. w < level.point_count) (v ∷ []) (inside, tt)) (λ p. below-kept p level.point_count)

-- each point of the next level has a mask, and so a support
pub length-child_masks : (level : Level) (scheme : Scheme) → length (child_masks level scheme) ≡ (child_level level).point_count
length-child_masks level scheme =
    let vertices = map (vertex_mask level scheme) (range_with_len 0 level.point_count) in
    let faces = map (face_mask level) (range_with_len 0 (length level.polygons)) in
    let edges = map (edge_mask level scheme) (edges_of level.polygons) in
    omega (
      arith,
      length-append vertices (faces ++ edges),
      length-append faces edges,
      length-map-range_with_len (vertex_mask level scheme) 0 level.point_count,
      length-map-range_with_len (face_mask level) 0 (length level.polygons),
      length-map (edges_of level.polygons) (edge_mask level scheme),
    )

pub length-supports : (level : Level) (scheme : Scheme) (k : ℕ) → length (refined_supports level scheme k) ≡ (refined_level level k).point_count
length-supports level scheme zero = length-map-range_with_len (λ v. v ∷ []) 0 level.point_count
length-supports level scheme (suc k) =
    length-map (child_masks (refined_level level k) scheme) (mask_support level.point_count (source_support level.point_count (refined_level level k) (refined_supports level scheme k)))
    ∙ length-child_masks (refined_level level k) scheme

-- Two lists of controls that agree at the controls of a support.

module _ (n : ℕ) (controls others : List ℤ) (outside : (v : ℕ) → n ≤ v → get_or controls v (pos 0) ≡ get_or others v (pos 0)) where
  abbrev Agree : List ℕ → Type 0
  Agree support = (v : ℕ) → is_among support v ≡ true → get_or controls v (pos 0) ≡ get_or others v (pos 0)

  -- lists that agree at a union agree at each part of it
  parts-agree : (support : SourcePoint → List ℕ) (terms : List Term) → ((v : ℕ) → v < n → list_any (λ list. is_among list v) (map (λ t. support t.source) terms) ≡ true → get_or controls v (pos 0) ≡ get_or others v (pos 0)) → AllByRecursion (λ t. Agree (support t.source)) terms
  parts-agree support [] h = tt
  parts-agree support (t ∷ terms) h = (
    λ v among. elim (cases_lt v n) [ inl below ↦ h v below (or_left _ _ among) | inr above ↦ outside v above ],
    parts-agree support terms (λ v below among. h v below (or_right _ _ among)),
  )

  -- values of a mask agree if the controls agree at the supports of its sources
  module _ (support : SourcePoint → List ℕ) (value other : SourcePoint → Value) (same : (source : SourcePoint) → Agree (support source) → value source ≡ other source) where
    terms-agree : (q : ℕ) (terms : List Term) → AllByRecursion (λ t. Agree (support t.source)) terms → sum_of_values (map (λ t. weighted t.weight q (value t.source)) terms) ≡ sum_of_values (map (λ t. weighted t.weight q (other t.source)) terms)
    terms-agree q [] h = refl
    terms-agree q (t ∷ terms) h =
        ap (λ x. plus_value (weighted t.weight q x) (sum_of_values (map (λ u. weighted u.weight q (value u.source)) terms))) (same t.source h.0)
        ∙ ap (plus_value (weighted t.weight q (other t.source))) (terms-agree q terms h.1)

    mask-agree : (mask : Mask) → Agree (mask_support n support mask) → mask_value value mask ≡ mask_value other mask
    mask-agree mask h =
        terms-agree mask.denominator mask.terms (parts-agree support mask.terms (λ v below among. h v (among-union n (map (λ t. support t.source) mask.terms) v below ∙ among)))

    masks-agree : (masks : List Mask) (p : ℕ) → Agree (get_or (map (mask_support n support) masks) p []) → point_value (map (mask_value value) masks) p ≡ point_value (map (mask_value other) masks) p
    masks-agree [] p h = refl
    masks-agree (mask ∷ masks) zero h = mask-agree mask h
    masks-agree (mask ∷ masks) (suc p) h = masks-agree masks p h

  module _ (level : Level) (supports : List (List ℕ)) (xs ys : List Value) (same : (p : ℕ) → Agree (get_or supports p []) → point_value xs p ≡ point_value ys p) where
    corners-agree : (source : SourcePoint) → Agree (corner_support supports source) → corner_value xs source ≡ corner_value ys source
    corners-agree (OfPoint v) h = same v h
    corners-agree (OfFace f) h = refl

    sources-agree : (source : SourcePoint) → Agree (source_support n level supports source) → source_value level xs source ≡ source_value level ys source
    sources-agree (OfPoint v) h = same v h
    sources-agree (OfFace f) h = mask-agree (corner_support supports) (corner_value xs) (corner_value ys) corners-agree (face_mask level f) h

module _ (level : Level) (scheme : Scheme) (controls others : List ℤ) (outside : (v : ℕ) → level.point_count ≤ v → get_or controls v (pos 0) ≡ get_or others v (pos 0)) where
  abbrev AgreeAt : ℕ → ℕ → Type 0
  AgreeAt k p = (v : ℕ) → is_among (get_or (refined_supports level scheme k) p []) v ≡ true → get_or controls v (pos 0) ≡ get_or others v (pos 0)

  -- a control's support is itself
  own-agrees : (p : ℕ) → AgreeAt 0 p → get_or controls p (pos 0) ≡ get_or others p (pos 0)
  own-agrees p h =
      elim (cases_lt p level.point_count) [
        | inl below ↦
            let own : get_or (refined_supports level scheme 0) p [] ≡ p ∷ [] = get_or-map-range_with_len (λ v. v ∷ []) 0 level.point_count p p [] below (zero-add p) in
            h p (ap (λ support. is_among support p) own ∙ or_left _ _ (eq-eqb p p refl))
        | inr above ↦ outside p above
      ]

  values-agree : (k p : ℕ) → AgreeAt k p → point_value (refined_values level scheme (control_values controls) k) p ≡ point_value (refined_values level scheme (control_values others) k) p
  values-agree zero p h = get_or-map whole_value controls p (pos 0) ∙ ap whole_value (own-agrees p h) ∙ sym (get_or-map whole_value others p (pos 0))
  values-agree (suc k) p h =
      let here = refined_level level k in
      let xs = refined_values level scheme (control_values controls) k in
      let ys = refined_values level scheme (control_values others) k in
      let supports = refined_supports level scheme k in
      masks-agree level.point_count controls others outside (source_support level.point_count here supports) (source_value here xs) (source_value here ys)
      (sources-agree level.point_count controls others outside here supports xs ys (values-agree k)) (child_masks here scheme) p h

pub values-from-support : (level : Level) (scheme : Scheme) (controls others : List ℤ) (k p : ℕ) → length controls ≡ level.point_count → length others ≡ level.point_count → ((v : ℕ) → IsTrue (is_among (get_or (refined_supports level scheme k) p []) v) → get_or controls v (pos 0) ≡ get_or others v (pos 0)) → point_value (refined_values level scheme (control_values controls) k) p ≡ point_value (refined_values level scheme (control_values others) k) p
values-from-support level scheme controls others k p count other_count =
    values-agree level scheme controls others (λ v above. get_or_past controls v (pos 0) (omega arith) ∙ sym (get_or_past others v (pos 0) (omega arith))) k p
