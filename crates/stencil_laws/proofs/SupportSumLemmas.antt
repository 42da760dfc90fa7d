-- A sum over the support is the sum over all control points, if the others add 0.
use Rattle.std.proofs.Common.{◌≡◌, ℕ, zero, suc, ◌<◌, Bool, false, unsigned_abs, ℤ, pos, ◌+ℤ◌, ◌*ℤ◌, List, [], ◌∷◌, length, get_or, arith, refl, ap, sym, ◌∙◌, IsTrue}
use Rattle.std.specs.List.{AllByRecursion, filter, sum_by, range_with_len}
use Rattle.std.proofs.lemmas.Bool.{and_left, cond_both, or_from, ne_eqb}
use Rattle.std.proofs.lemmas.List.Sums.{sum_by-cons}
use Rattle.std.proofs.Math.IntN.{zero-*ℤ, +ℤ_idl, +ℤ_idr, pos-+ℤ-pos}
use Rattle.subdiv_model.specs.Polygons.{is_among}
use Rattle.subdiv_model.specs.Manifold.{IsManifold}
use Rattle.subdiv_model.specs.Level.{Level, is_well_formed}
use Rattle.subdiv_model.specs.Child.{refined_level}
use Rattle.subdiv_model.specs.Mask.{Scheme, has_means}
use Rattle.subdiv_model.specs.Value.{IsSameValue}
use Rattle.subdiv_model.specs.Refined.{point_value, refined_values, control_values, refined_denominators}
use Rattle.subdiv_model.specs.Support.{refined_supports, stencil_numerator}
use Rattle.mask_laws.specs.SharpBoundary.{has_sharp_boundary}
use Rattle.mask_laws.proofs.MeanLemmas.{means-levels}
use Rattle.stencil_laws.specs.Rows.{sum_over, value_of_shares}
use Rattle.stencil_laws.proofs.UnionLemmas.{among-kept}
use Rattle.stencil_laws.proofs.SupportLemmas.{each-support}
use Rattle.stencil_laws.proofs.SumOverLemmas.{over-one, over-none}
use Rattle.stencil_laws.proofs.ShareLemmas.{shares-value}
use Rattle.stencil_laws.proofs.OutsideLemmas.{share-outside}
use Rattle.stencil_laws.proofs.MeanShareLemmas.{share-total, share-above}

abbrev HasAllOf : ℕ → List ℕ → Type 0
HasAllOf n support = (f : ℕ → ℤ) → ((v : ℕ) → is_among support v ≡ false → f v ≡ pos 0) → sum_over f support ≡ sum_over f (range_with_len 0 n)

over-kept : (f : ℕ → ℤ) (keep : ℕ → Bool) (points : List ℕ) → ((v : ℕ) → keep v ≡ false → f v ≡ pos 0) → sum_over f (filter keep points) ≡ sum_over f points
over-kept f keep [] h = refl
over-kept f keep (v ∷ points) h =
    let rest = over-kept f keep points h in
    cond_both (keep v) (v ∷ filter keep points) (filter keep points) (λ kept. sum_over f kept ≡ sum_over f (v ∷ points)) (λ _. ap (λ z. f v +ℤ z) rest)
    (λ none. rest ∙ sym (ap (λ z. z +ℤ sum_over f points) (h v none) ∙ +ℤ_idl (sum_over f points)))

has-all-kept : (n : ℕ) (keep : ℕ → Bool) → HasAllOf n (filter keep (range_with_len 0 n))
has-all-kept n keep f h = over-kept f keep (range_with_len 0 n) (λ v none. h v (among-kept keep (range_with_len 0 n) v ∙ and_left _ _ none))

has-all-one : (n v : ℕ) → v < n → HasAllOf n (v ∷ [])
has-all-one n v inside f h =
    +ℤ_idr (f v) ∙ sym (over-one f 0 n v (omega arith) (omega arith) (λ w other. h w (or_from _ _ (ne_eqb w v other) refl)))

has-all-none : (n : ℕ) → HasAllOf n []
has-all-none n f h = sym (over-none f (range_with_len 0 n) (λ v. h v refl))

place-all : (n : ℕ) (supports : List (List ℕ)) (p : ℕ) → AllByRecursion (HasAllOf n) supports → HasAllOf n (get_or supports p [])
place-all n [] p h = has-all-none n
place-all n (support ∷ supports) zero h = h.0
place-all n (support ∷ supports) (suc p) h = place-all n supports p h.1

-- a sum of natural numbers is one of whole numbers
over-naturals : (f : ℕ → ℕ) (points : List ℕ) → sum_over (λ v. pos (f v)) points ≡ pos (sum_by f points)
over-naturals f [] = refl
over-naturals f (v ∷ points) =
    ap (λ z. pos (f v) +ℤ z) (over-naturals f points) ∙ pos-+ℤ-pos (f v) (sum_by f points) ∙ ap pos (sym (sum_by-cons f v points))

module _ (level : Level) (scheme : Scheme) (k p : ℕ) where
  support-all : HasAllOf level.point_count (get_or (refined_supports level scheme k) p [])
  support-all =
      place-all level.point_count (refined_supports level scheme k) p (each-support level scheme (HasAllOf level.point_count) (has-all-one level.point_count) (has-all-kept level.point_count) k)

  -- the value of a point from the controls of its support
  pub support-value : (controls : List ℤ) → length controls ≡ level.point_count → IsSameValue (point_value (refined_values level scheme (control_values controls) k) p) (value_of_shares level scheme controls k p (get_or (refined_supports level scheme k) p []))
  support-value controls count =
      let x = point_value (refined_values level scheme (control_values controls) k) p in
      let whole = support-all (λ v. pos (stencil_numerator level scheme k p v) *ℤ get_or controls v (pos 0)) (λ v out. ap (λ n. pos n *ℤ get_or controls v (pos 0)) (share-outside level scheme k p v out) ∙ zero-*ℤ (get_or controls v (pos 0))) in
      shares-value level scheme k p controls count ∙ ap (λ z. z *ℤ pos x.den) (sym whole)

  pub support-total : ((j : ℕ) → j < k → IsTrue (has_means (refined_level level j) scheme)) → p < (refined_level level k).point_count → sum_by (stencil_numerator level scheme k p) (get_or (refined_supports level scheme k) p []) ≡ get_or (refined_denominators level scheme k) p 1
  support-total means inside =
      let share = stencil_numerator level scheme k p in
      let support = get_or (refined_supports level scheme k) p [] in
      let points = range_with_len 0 level.point_count in
      let whole = sym (over-naturals share support) ∙ support-all (λ v. pos (share v)) (λ v out. ap pos (share-outside level scheme k p v out)) ∙ over-naturals share points in
      ap unsigned_abs whole ∙ share-total level scheme k p means inside

  -- the masks of a manifold whose boundary is infinitely sharp are means
  module _ (formed : IsTrue (is_well_formed level)) (is : IsManifold level.point_count level.polygons) (sharp : IsTrue (has_sharp_boundary level)) where
    manifold-means : (j : ℕ) → j < k → IsTrue (has_means (refined_level level j) scheme)
    manifold-means j below = means-levels level scheme j formed is sharp

    pub manifold-above : (v : ℕ) → IsTrue (is_among (get_or (refined_supports level scheme k) p []) v) → 0 < stencil_numerator level scheme k p v
    manifold-above v among = share-above level scheme k p v manifold-means among

    pub manifold-total : p < (refined_level level k).point_count → sum_by (stencil_numerator level scheme k p) (get_or (refined_supports level scheme k) p []) ≡ get_or (refined_denominators level scheme k) p 1
    manifold-total inside = support-total manifold-means inside
