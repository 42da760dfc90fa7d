-- Masks with the same weights, from terms, edges and faces in any order, and from blends.
use Rattle.std.proofs.Common.{◌≡◌, ℕ, ◌+◌, ◌-◌, ◌*◌, ◌/◌, Bool, true, false, nat_eq, nat_le, if◌then◌else◌, List, [], ◌∷◌, ◌++◌, length, refl, ap, sym, ◌∙◌}
use Rattle.std.specs.List.Sorted.{IsPermutation}
use Rattle.std.proofs.lemmas.List.Sorted.{IsPermutation-map, IsPermutation-append}
use Rattle.subdiv_model.specs.Multiples.{lcm_of}
use Rattle.subdiv_model.specs.Sharpness.{Sharpness, Smooth, Semi, Infinite}
use Rattle.subdiv_model.specs.Mask.{SourcePoint, OfPoint, OfFace, Term, Mask, weigh, weigh_points, weigh_faces, weight_in, scaled_terms, mask_of, mask_of_corners, mask_of_edge, sharp_edge_mask, blended_edge_mask, blend, transition_mask}
use Rattle.sharpness_laws.specs.SameWeights.{HaveSameWeights}
use Rattle.sharpness_laws.proofs.PermutationLemmas.{first-two}
use Rattle.sharpness_laws.proofs.OrderLemmas.{count-any_order}
use Rattle.sharpness_laws.proofs.JoinedWeightLemmas.{weight_in-append, weight_in-scaled, weight_in-permuted, weight_in-mask_of}

pub same_weights-refl : (m : Mask) → HaveSameWeights m m
same_weights-refl m = record { denominator = refl; weights = λ source. refl }

pub same_weights-sym : (m n : Mask) → HaveSameWeights m n → HaveSameWeights n m
same_weights-sym m n h = record { denominator = sym h.denominator; weights = λ source. sym (h.weights source) }

pub same_weights-trans : (l m n : Mask) → HaveSameWeights l m → HaveSameWeights m n → HaveSameWeights l n
same_weights-trans l m n h k = record {
  denominator = h.denominator ∙ k.denominator;
  weights = λ source. h.weights source ∙ k.weights source;
}

-- masks of equal terms in another order have the same weights
pub same-terms : (xs ys : List Term) (p q : ℕ) → IsPermutation xs ys → p ≡ q → HaveSameWeights (mask_of xs p) (mask_of ys q)
same-terms xs ys p q h e = record {
  denominator = e;
  weights = λ source. weight_in-mask_of xs p source ∙ weight_in-permuted xs ys source h ∙ sym (weight_in-mask_of ys q source);
}

pub points-permuted : (weight : ℕ) (points other : List ℕ) → IsPermutation points other
    → IsPermutation (weigh_points weight points) (weigh_points weight other)
points-permuted weight points other h = IsPermutation-map (λ v. weigh weight (OfPoint v)) points other h

pub terms-permuted : (w u : ℕ) (points other faces others : List ℕ) → IsPermutation points other → IsPermutation faces others
    → IsPermutation (weigh_points w points ++ weigh_faces u faces) (weigh_points w other ++ weigh_faces u others)
terms-permuted w u points other faces others h k =
    IsPermutation-append _ _ _ _ (points-permuted w points other h) (IsPermutation-map (λ f. weigh u (OfFace f)) faces others k)

pub same-corners : (corners other : List ℕ) → IsPermutation corners other
    → HaveSameWeights (mask_of_corners corners) (mask_of_corners other)
same-corners corners other h =
    same-terms (weigh_points 1 corners) (weigh_points 1 other) (length corners) (length other) (points-permuted 1 corners other h)
    (count-any_order corners other h)

pub same-if : (b : Bool) (m n : Mask) (k l : Mask) → HaveSameWeights m k → HaveSameWeights n l
    → HaveSameWeights (if b then m else n) (if b then k else l)
same-if true m n k l h i = h
same-if false m n k l h i = i

module _ (a b : ℕ) (faces others : List ℕ) (h : IsPermutation faces others) where
  turned : IsPermutation (a ∷ b ∷ []) (b ∷ a ∷ [])
  turned = first-two a b []

  same-sharp_edge : HaveSameWeights (sharp_edge_mask (a, b)) (sharp_edge_mask (b, a))
  same-sharp_edge = same-terms _ _ 2 2 (points-permuted 1 (a ∷ b ∷ []) (b ∷ a ∷ []) turned) refl

  same-around_edge : (w u q : ℕ)
      → HaveSameWeights (mask_of (weigh_points w (a ∷ b ∷ []) ++ weigh_faces u faces) q)
      (mask_of (weigh_points w (b ∷ a ∷ []) ++ weigh_faces u others) q)
  same-around_edge w u q = same-terms _ _ q q (terms-permuted w u (a ∷ b ∷ []) (b ∷ a ∷ []) faces others turned h) refl

  pub same-edge : (s : Sharpness) → HaveSameWeights (mask_of_edge s (a, b) faces) (mask_of_edge s (b, a) others)
  same-edge Smooth = same-around_edge 1 1 4
  same-edge (Semi x y) =
      same-if (nat_le y x) (sharp_edge_mask (a, b)) (blended_edge_mask x y (a, b) faces) (sharp_edge_mask (b, a))
      (blended_edge_mask x y (b, a) others) same-sharp_edge (same-around_edge (y + x) (y - x) (4 * y))
  same-edge Infinite = same-sharp_edge

pub weight_in-blend : (w : ℕ × ℕ) (parent child : Mask) (source : SourcePoint)
    → weight_in (blend w parent child).terms source
    ≡ w.0 * (lcm_of parent.denominator child.denominator / parent.denominator) * weight_in parent.terms source
    + (w.1 - w.0) * (lcm_of parent.denominator child.denominator / child.denominator) * weight_in child.terms source
weight_in-blend w parent child source =
    let multiple = lcm_of parent.denominator child.denominator in
    let a = w.0 * (multiple / parent.denominator) in
    let b = (w.1 - w.0) * (multiple / child.denominator) in
    weight_in-mask_of (scaled_terms a parent.terms ++ scaled_terms b child.terms) (w.1 * multiple) source
    ∙ weight_in-append (scaled_terms a parent.terms) (scaled_terms b child.terms) source
    ∙ ap (λ n. n + weight_in (scaled_terms b child.terms) source) (weight_in-scaled a parent.terms source)
    ∙ ap (λ n. a * weight_in parent.terms source + n) (weight_in-scaled b child.terms source)

pub same-blend : (w : ℕ × ℕ) (m n k l : Mask) → HaveSameWeights m k → HaveSameWeights n l → HaveSameWeights (blend w m n) (blend w k l)
same-blend w m n k l h i = record {
  denominator = ap (λ q. w.1 * lcm_of q n.denominator) h.denominator ∙ ap (λ q. w.1 * lcm_of k.denominator q) i.denominator;
  weights = λ source. weight_in-blend w m n source
      ∙ amounts (weight_in m.terms source) (weight_in n.terms source) (weight_in k.terms source) (weight_in l.terms source)
      (h.weights source) (i.weights source)
      ∙ sym (weight_in-blend w k l source);
}
  where
    amount : ℕ → ℕ → ℕ → ℕ → ℕ
    amount p q x y = w.0 * (lcm_of p q / p) * x + (w.1 - w.0) * (lcm_of p q / q) * y

    amounts : (x y u v : ℕ) → x ≡ u → y ≡ v → amount m.denominator n.denominator x y ≡ amount k.denominator l.denominator u v
    amounts x y u v e f = cc (h.denominator, i.denominator)

pub same-transition : (w : ℕ × ℕ) (m n k l : Mask) → HaveSameWeights m k → HaveSameWeights n l
    → HaveSameWeights (transition_mask w m n) (transition_mask w k l)
same-transition w m n k l h i = same-if (nat_eq w.0 w.1) m (blend w m n) k (blend w k l) h (same-blend w m n k l h i)
