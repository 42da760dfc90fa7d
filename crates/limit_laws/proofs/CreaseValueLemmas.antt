-- The limit of a point of a crease, and of a corner, is that of the point in the next level.
use Rattle.std.proofs.Common.{◌≡◌, ℕ, ◌<◌, ℤ, pos, ◌+ℤ◌, ◌*ℤ◌, [], ◌∷◌, map, arith, ap, sym, ◌∙◌}
use Rattle.std.proofs.lemmas.Int.{ints}
use Rattle.std.proofs.Math.IntN.{+ℤ_idr}
use Rattle.subdiv_model.specs.Limit.{crease_limit_mask}
use Rattle.subdiv_model.specs.Mask.{SourcePoint, OfPoint, weigh, weigh_points, sharp_edge_mask, crease_mask, corner_mask}
use Rattle.subdiv_model.specs.Value.{Value, IsSameValue}
use Rattle.subdiv_model.specs.Refined.{mask_value}
use Rattle.limit_laws.proofs.CommonOverLemmas.{common, whole, mask-over}
use Rattle.limit_laws.proofs.SameOverLemmas.{IsSameOver, over-plus, over-scaled, over-cancel, mask-same, same-from_over}

two-terms : (a b : ℤ) → pos 1 *ℤ a +ℤ (pos 1 *ℤ b +ℤ pos 0) ≡ a +ℤ b
two-terms a b = omega (arith, ints)

-- 8 x = 6 v + a + b, 2 y = v + a and 2 z = v + b, so that 4 x + y + z = 4 v + a + b
crease-sums : (c d : ℕ) (v a b x y z : ℤ)
    → IsSameOver c d (pos 8 *ℤ x) (pos 6 *ℤ v +ℤ (pos 1 *ℤ a +ℤ (pos 1 *ℤ b +ℤ pos 0)))
    → IsSameOver c d (pos 2 *ℤ y) (v +ℤ a) → IsSameOver c d (pos 2 *ℤ z) (v +ℤ b)
    → IsSameOver c d (pos 4 *ℤ x +ℤ (y +ℤ z)) (pos 4 *ℤ v +ℤ (a +ℤ b))
crease-sums c d v a b x y z h k l =
    let ends = over-plus c d _ _ _ _ (over-scaled c d 4 (pos 2 *ℤ y) (v +ℤ a) k) (over-scaled c d 4 (pos 2 *ℤ z) (v +ℤ b) l) in
    let all = over-plus c d _ _ _ _ (over-scaled c d 4 (pos 8 *ℤ x) _ h) ends in
    let left : pos 8 *ℤ (pos 4 *ℤ x +ℤ (y +ℤ z)) ≡ pos 4 *ℤ (pos 8 *ℤ x) +ℤ (pos 4 *ℤ (pos 2 *ℤ y) +ℤ pos 4 *ℤ (pos 2 *ℤ z)) = omega (arith, ints) in
    let right : pos 4 *ℤ (pos 6 *ℤ v +ℤ (pos 1 *ℤ a +ℤ (pos 1 *ℤ b +ℤ pos 0))) +ℤ (pos 4 *ℤ (v +ℤ a) +ℤ pos 4 *ℤ (v +ℤ b))
    ≡ pos 8 *ℤ (pos 4 *ℤ v +ℤ (a +ℤ b)) = omega (arith, ints) in
    over-cancel c d 8 (pos 4 *ℤ x +ℤ (y +ℤ z)) (pos 4 *ℤ v +ℤ (a +ℤ b)) (omega arith)
    (ap (λ n. pos d *ℤ n) left ∙ all ∙ ap (λ n. pos c *ℤ n) right)

-- the edges `first` and `second` from v to a and b, with new points p and q; x and y are these in either order
pub crease-value : (value next : SourcePoint → Value) (v a b p q x y : ℕ) (first second : ℕ × ℕ)
    → ((s : SourcePoint) → 0 < (value s).den) → ((s : SourcePoint) → 0 < (next s).den)
    → ((g : ℕ → ℤ) → g first.0 +ℤ g first.1 ≡ g v +ℤ g a) → ((g : ℕ → ℤ) → g second.0 +ℤ g second.1 ≡ g v +ℤ g b)
    → next (OfPoint v) ≡ mask_value value (crease_mask v a b)
    → next (OfPoint p) ≡ mask_value value (sharp_edge_mask first) → next (OfPoint q) ≡ mask_value value (sharp_edge_mask second)
    → ((g : ℕ → ℤ) → g x +ℤ g y ≡ g p +ℤ g q)
    → IsSameValue (mask_value value (crease_limit_mask v a b)) (mask_value next (crease_limit_mask v x y))
crease-value value next v a b p q x y first second positive positive_next first_ends second_ends center at_first at_second same_ends =
    let here = common value positive (map OfPoint (v ∷ a ∷ b ∷ first.0 ∷ first.1 ∷ second.0 ∷ second.1 ∷ [])) in
    let later = common next positive_next (map OfPoint (v ∷ p ∷ q ∷ x ∷ y ∷ [])) in
    let m = here.m in
    let k = later.m in
    let f : ℕ → ℤ = λ w. whole value m (OfPoint w) in
    let h : ℕ → ℤ = λ w. whole next k (OfPoint w) in
    let e = here.each in
    let l = later.each in
    let in_v = e.0 in
    let in_a = e.1.0 in
    let in_b = e.1.1.0 in
    let at_v = mask-same value k m 8 (whole value m) (weigh 6 (OfPoint v) ∷ weigh_points 1 (a ∷ b ∷ [])) (next (OfPoint v)) (h v) (positive_next (OfPoint v)) l.0
    (in_v, (in_a, (in_b, tt))) center in
    let at_p = mask-same value k m 2 (whole value m) (weigh_points 1 (first.0 ∷ first.1 ∷ [])) (next (OfPoint p)) (h p) (positive_next (OfPoint p)) l.1.0
    (e.1.1.1.0, (e.1.1.1.1.0, tt)) at_first in
    let at_q = mask-same value k m 2 (whole value m) (weigh_points 1 (second.0 ∷ second.1 ∷ [])) (next (OfPoint q)) (h q) (positive_next (OfPoint q)) l.1.1.0
    (e.1.1.1.1.1.0, (e.1.1.1.1.1.1.0, tt)) at_second in
    let sums = crease-sums k m (f v) (f a) (f b) (h v) (h p) (h q) at_v
    (at_p ∙ ap (λ n. pos k *ℤ n) (two-terms (f first.0) (f first.1) ∙ first_ends f))
    (at_q ∙ ap (λ n. pos k *ℤ n) (two-terms (f second.0) (f second.1) ∙ second_ends f)) in
    same-from_over k m 6 (mask_value value (crease_limit_mask v a b)) (mask_value next (crease_limit_mask v x y)) _ _ (omega arith) later.some here.some
    (mask-over 6 m value (whole value m) (weigh 4 (OfPoint v) ∷ weigh_points 1 (a ∷ b ∷ [])) (in_v, (in_a, (in_b, tt))))
    (mask-over 6 k next (whole next k) (weigh 4 (OfPoint v) ∷ weigh_points 1 (x ∷ y ∷ [])) (l.0, (l.1.1.1.0, (l.1.1.1.1.0, tt))))
    (ap (λ n. pos m *ℤ (pos 4 *ℤ h v +ℤ n)) (two-terms (h x) (h y) ∙ same_ends h)
    ∙ sums
    ∙ ap (λ n. pos k *ℤ (pos 4 *ℤ f v +ℤ n)) (sym (two-terms (f a) (f b))))

-- the value of a corner is its own
pub corner-value : (value next : SourcePoint → Value) (v : ℕ) → ((s : SourcePoint) → 0 < (value s).den) → ((s : SourcePoint) → 0 < (next s).den)
    → next (OfPoint v) ≡ mask_value value (corner_mask v)
    → IsSameValue (mask_value value (corner_mask v)) (mask_value next (corner_mask v))
corner-value value next v positive positive_next center =
    let here = common value positive (OfPoint v ∷ []) in
    let later = common next positive_next (OfPoint v ∷ []) in
    let m = here.m in
    let k = later.m in
    let terms = weigh 1 (OfPoint v) ∷ [] in
    let at_v = mask-same value k m 1 (whole value m) terms (next (OfPoint v)) (whole next k (OfPoint v)) (positive_next (OfPoint v)) later.each.0
    (here.each.0, tt) center in
    same-from_over k m 1 (mask_value value (corner_mask v)) (mask_value next (corner_mask v)) _ _ (omega arith) later.some here.some
    (mask-over 1 m value (whole value m) terms (here.each.0, tt))
    (mask-over 1 k next (whole next k) terms (later.each.0, tt))
    (ap (λ n. pos m *ℤ n) (+ℤ_idr (pos 1 *ℤ whole next k (OfPoint v))) ∙ at_v)
