-- The sums about a smooth point, in the numbers of two levels.
use Rattle.std.proofs.Common.{◌≡◌, ℕ, zero, suc, ◌+◌, ◌-◌, ◌*◌, ◌<◌, ℤ, pos, ◌+ℤ◌, ◌*ℤ◌, List, [], ◌∷◌, ◌++◌, length, arith, refl, ap, sym, ◌∙◌, subst}
use Rattle.std.specs.List.{AllByRecursion}
use Rattle.std.proofs.lemmas.Int.{ints}
use Rattle.std.proofs.Math.IntN.{zero-*ℤ, suc_ℤ-*ℤ}
use Rattle.subdiv_model.specs.Limit.{smooth_limit_mask}
use Rattle.subdiv_model.specs.Mask.{SourcePoint, OfPoint, OfFace, weigh, weigh_points, weigh_faces, smooth_vertex_mask, smooth_edge_mask, mask_of_corners, other_end}
use Rattle.subdiv_model.specs.Value.{Value}
use Rattle.subdiv_model.specs.Refined.{mask_value}
use Rattle.number_laws.proofs.WholeNumberLemmas.{pos-sum, pos-distrib, pos-cancel}
use Rattle.mask_laws.proofs.SumLemmas.{sum_ℤ, weighted_sum, IsOver}
use Rattle.limit_laws.proofs.SumExchangeLemmas.{sum-plus}
use Rattle.limit_laws.proofs.CommonOverLemmas.{all-joined, mask-over, all-points, all-faces, points-sum, faces-sum, weighted-append}
use Rattle.limit_laws.proofs.SameOverLemmas.{IsSameOver, over-plus, over-scaled, over-cancel, mask-same}

times-itself : (n : ℕ) → 1 < n → n * (n - 2) + n + n ≡ n * n
times-itself zero h = absurd (omega (arith, h))
times-itself (suc zero) h = absurd (omega (arith, h))
times-itself (suc (suc j)) h = let less : suc (suc j) - 2 ≡ j = omega arith in ap (λ i. suc (suc j) * i + suc (suc j) + suc (suc j)) less ∙ omega arith

-- n² x = n (n - 2) v + e + f, 4 y = n v + e + 2 f and 4 z = 4 f = n v + 2 e + d, so that n² x + 4 y + z = n² v + 4 e + d
pub smooth-sums : (c d n : ℕ) (v e f o x y z : ℤ) → 1 < n
    → IsSameOver c d (pos (n * n) *ℤ x) (pos (n * (n - 2)) *ℤ v +ℤ (pos 1 *ℤ e +ℤ pos 1 *ℤ f))
    → IsSameOver c d (pos 4 *ℤ y) ((pos n *ℤ v +ℤ e) +ℤ pos 2 *ℤ f)
    → IsSameOver c d (pos 4 *ℤ z) (pos 4 *ℤ f)
    → pos 4 *ℤ f ≡ (pos n *ℤ v +ℤ pos 2 *ℤ e) +ℤ o
    → IsSameOver c d (pos (n * n) *ℤ x +ℤ (pos 4 *ℤ y +ℤ pos 1 *ℤ z)) (pos (n * n) *ℤ v +ℤ (pos 4 *ℤ e +ℤ pos 1 *ℤ o))
smooth-sums c d n v e f o x y z more h k l faces =
    let all = over-plus c d _ _ _ _ (over-scaled c d 4 (pos (n * n) *ℤ x) _ h) (over-plus c d _ _ _ _ (over-scaled c d 4 (pos 4 *ℤ y) _ k) l) in
    let square : (pos (n * (n - 2)) *ℤ v +ℤ pos n *ℤ v) +ℤ pos n *ℤ v ≡ pos (n * n) *ℤ v =
    ap (λ i. i +ℤ pos n *ℤ v) (pos-sum (n * (n - 2)) n v) ∙ pos-sum (n * (n - 2) + n) n v ∙ ap (λ i. pos i *ℤ v) (times-itself n more) in
    over-cancel c d 4 (pos (n * n) *ℤ x +ℤ (pos 4 *ℤ y +ℤ pos 1 *ℤ z)) (pos (n * n) *ℤ v +ℤ (pos 4 *ℤ e +ℤ pos 1 *ℤ o)) (omega arith)
    (ap (λ i. pos d *ℤ i) (left (pos (n * n) *ℤ x) y z)
    ∙ all
    ∙ ap (λ i. pos c *ℤ i) (right (pos (n * (n - 2)) *ℤ v) (pos n *ℤ v) (pos (n * n) *ℤ v) e f o square faces))
  where
    left : (a b i : ℤ) → pos 4 *ℤ (a +ℤ (pos 4 *ℤ b +ℤ pos 1 *ℤ i)) ≡ pos 4 *ℤ a +ℤ (pos 4 *ℤ (pos 4 *ℤ b) +ℤ pos 4 *ℤ i)
    left a b i = omega (arith, ints)

    right : (r s t a b i : ℤ) → (r +ℤ s) +ℤ s ≡ t → pos 4 *ℤ b ≡ (s +ℤ pos 2 *ℤ a) +ℤ i
        → pos 4 *ℤ (r +ℤ (pos 1 *ℤ a +ℤ pos 1 *ℤ b)) +ℤ (pos 4 *ℤ ((s +ℤ a) +ℤ pos 2 *ℤ b) +ℤ pos 4 *ℤ b)
        ≡ pos 4 *ℤ (t +ℤ (pos 4 *ℤ a +ℤ pos 1 *ℤ i))
    right r s t a b i p q = omega (arith, ints, p, q)

pub sum-constant : {X : Type 0} (n : ℤ) (xs : List X) → sum_ℤ (λ x. n) xs ≡ pos (length xs) *ℤ n
sum-constant n [] = sym (zero-*ℤ n)
sum-constant n (x ∷ xs) = ap (λ i. n +ℤ i) (sum-constant n xs) ∙ turned n (pos (length xs) *ℤ n) ∙ sym (suc_ℤ-*ℤ (pos (length xs)) n)
  where
    turned : (a b : ℤ) → a +ℤ b ≡ b +ℤ a
    turned a b = omega (arith, ints)

-- a sum over the edges, of the number of v, of the other end and of the faces beside the edge, in three sums
pub edges-sum : (v : ℕ) (g F : ℕ → ℤ) (beside : ℕ × ℕ → List ℕ) (edges : List (ℕ × ℕ))
    → sum_ℤ (λ e. (g v +ℤ g (other_end v e)) +ℤ sum_ℤ F (beside e)) edges
    ≡ (pos (length edges) *ℤ g v +ℤ sum_ℤ (λ e. g (other_end v e)) edges) +ℤ sum_ℤ (λ e. sum_ℤ F (beside e)) edges
edges-sum v g F beside edges =
    sum-plus (λ e. g v +ℤ g (other_end v e)) (λ e. sum_ℤ F (beside e)) edges
    ∙ ap (λ i. i +ℤ sum_ℤ (λ e. sum_ℤ F (beside e)) edges)
    (sum-plus (λ e. g v) (λ e. g (other_end v e)) edges ∙ ap (λ i. i +ℤ sum_ℤ (λ e. g (other_end v e)) edges) (sum-constant (g v) edges))

-- the limit mask of a point with n edges
pub limit-over : (m : ℕ) (value : SourcePoint → Value) (f : SourcePoint → ℤ) (v : ℕ) (ends opposites : List ℕ) (n : ℕ) → length ends ≡ n
    → IsOver m (value (OfPoint v)) (f (OfPoint v))
    → AllByRecursion (λ p. IsOver m (value (OfPoint p)) (f (OfPoint p))) ends
    → AllByRecursion (λ p. IsOver m (value (OfPoint p)) (f (OfPoint p))) opposites
    → IsOver (n * (n + 5) * m) (mask_value value (smooth_limit_mask v ends opposites))
    (pos (n * n) *ℤ f (OfPoint v) +ℤ (pos 4 *ℤ sum_ℤ (λ p. f (OfPoint p)) ends +ℤ pos 1 *ℤ sum_ℤ (λ p. f (OfPoint p)) opposites))
limit-over m value f v ends opposites n long at_v at_ends at_opposites =
    let P : SourcePoint → Type 0 = λ s. IsOver m (value s) (f s) in
    let rest = weigh_points 4 ends ++ weigh_points 1 opposites in
    let own = length ends in
    let Q : ℕ → Type 0 = λ i. IsOver (i * (i + 5) * m) (mask_value value (smooth_limit_mask v ends opposites))
    (pos (i * i) *ℤ f (OfPoint v) +ℤ (pos 4 *ℤ sum_ℤ (λ p. f (OfPoint p)) ends +ℤ pos 1 *ℤ sum_ℤ (λ p. f (OfPoint p)) opposites)) in
    subst Q long
    (mask-over (own * (own + 5)) m value f (weigh (own * own) (OfPoint v) ∷ rest)
    (at_v, all-joined (λ t. P t.source) (weigh_points 4 ends) (weigh_points 1 opposites) (all-points P 4 ends at_ends) (all-points P 1 opposites at_opposites))
    ∙ ap (λ i. pos (mask_value value (smooth_limit_mask v ends opposites)).den *ℤ (pos (own * own) *ℤ f (OfPoint v) +ℤ i))
    (weighted-append f (weigh_points 4 ends) (weigh_points 1 opposites)
    ∙ ap (λ i. i +ℤ weighted_sum f (weigh_points 1 opposites)) (points-sum f 4 ends)
    ∙ ap (λ i. pos 4 *ℤ sum_ℤ (λ p. f (OfPoint p)) ends +ℤ i) (points-sum f 1 opposites)))

-- a value over k that is the mean of four corners, which are whole over m
corners-over : (value : SourcePoint → Value) (m : ℕ) (f : SourcePoint → ℤ) (corners : List ℕ) (k : ℕ) (x : Value) (n : ℤ) → length corners ≡ 4
    → AllByRecursion (λ p. IsOver m (value (OfPoint p)) (f (OfPoint p))) corners → 0 < x.den → IsOver k x n
    → x ≡ mask_value value (mask_of_corners corners) → IsSameOver k m (pos 4 *ℤ n) (sum_ℤ (λ p. f (OfPoint p)) corners)
corners-over value m f corners k x n four at_corners positive over is =
    let Q : ℕ → Type 0 = λ i. IsSameOver k m (pos i *ℤ n) (sum_ℤ (λ p. f (OfPoint p)) corners) in
    subst Q four
    (mask-same value k m (length corners) f (weigh_points 1 corners) x n positive over
    (all-points (λ s. IsOver m (value s) (f s)) 1 corners at_corners) is
    ∙ ap (λ i. pos k *ℤ i) (points-sum f 1 corners ∙ once (sum_ℤ (λ p. f (OfPoint p)) corners)))
  where
    once : (a : ℤ) → pos 1 *ℤ a ≡ a
    once a = omega (arith, ints)

-- the sums over the faces in the level itself, where `point` gives its points
module _ (value point : SourcePoint → Value) (m : ℕ) (f : SourcePoint → ℤ) (corners : ℕ → List ℕ) (some : 0 < m)
    (positive : (s : SourcePoint) → 0 < (value s).den) (at_point : (p : ℕ) → value (OfPoint p) ≡ point (OfPoint p)) where
  points-too : (points : List ℕ) → AllByRecursion (λ p. IsOver m (value (OfPoint p)) (f (OfPoint p))) points
      → AllByRecursion (λ p. IsOver m (point (OfPoint p)) (f (OfPoint p))) points
  points-too [] h = tt
  points-too (p ∷ points) h = (subst (λ x. IsOver m x (f (OfPoint p))) (at_point p) h.0, points-too points h.1)

  pub old-faces : (faces : List ℕ) → AllByRecursion (λ x. length (corners x) ≡ 4) faces
      → AllByRecursion (λ x. AllByRecursion (λ p. IsOver m (value (OfPoint p)) (f (OfPoint p))) (corners x)) faces
      → AllByRecursion (λ x. IsOver m (value (OfFace x)) (f (OfFace x))) faces
      → AllByRecursion (λ x. value (OfFace x) ≡ mask_value point (mask_of_corners (corners x))) faces
      → pos 4 *ℤ sum_ℤ (λ x. f (OfFace x)) faces ≡ sum_ℤ (λ x. sum_ℤ (λ p. f (OfPoint p)) (corners x)) faces
  old-faces [] four at_corners over are = refl
  old-faces (x ∷ faces) four at_corners over are =
      let first = pos-cancel m (pos 4 *ℤ f (OfFace x)) (sum_ℤ (λ p. f (OfPoint p)) (corners x)) some
      (corners-over point m f (corners x) m (value (OfFace x)) (f (OfFace x)) four.0 (points-too (corners x) at_corners.0) (positive (OfFace x)) over.0 are.0) in
      pos-distrib 4 (f (OfFace x)) (sum_ℤ (λ y. f (OfFace y)) faces)
      ∙ ap (λ i. i +ℤ pos 4 *ℤ sum_ℤ (λ y. f (OfFace y)) faces) first
      ∙ ap (λ i. sum_ℤ (λ p. f (OfPoint p)) (corners x) +ℤ i) (old-faces faces four.1 at_corners.1 over.1 are.1)

module _ (value next : SourcePoint → Value) (m k : ℕ) (f : SourcePoint → ℤ) (h : ℕ → ℤ) (positive_next : (s : SourcePoint) → 0 < (next s).den) where
  -- the level's sources are whole over m, and the next level's points over k
  abbrev IsIn : SourcePoint → Type 0
  IsIn s = IsOver m (value s) (f s)

  abbrev g : ℕ → ℤ
  g p = f (OfPoint p)

  abbrev F : ℕ → ℤ
  F x = f (OfFace x)

  -- the point's own new point
  pub new-center : (v : ℕ) (ends faces : List ℕ) (n : ℕ) → length ends ≡ n → IsOver k (next (OfPoint v)) (h v)
      → IsIn (OfPoint v) → AllByRecursion (λ p. IsIn (OfPoint p)) ends → AllByRecursion (λ x. IsIn (OfFace x)) faces
      → next (OfPoint v) ≡ mask_value value (smooth_vertex_mask v ends faces)
      → IsSameOver k m (pos (n * n) *ℤ h v) (pos (n * (n - 2)) *ℤ g v +ℤ (pos 1 *ℤ sum_ℤ g ends +ℤ pos 1 *ℤ sum_ℤ F faces))
  new-center v ends faces n long over at_v at_ends at_faces is =
      let own = length ends in
      let Q : ℕ → Type 0 = λ i. IsSameOver k m (pos (i * i) *ℤ h v) (pos (i * (i - 2)) *ℤ g v +ℤ (pos 1 *ℤ sum_ℤ g ends +ℤ pos 1 *ℤ sum_ℤ F faces)) in
      subst Q long
      (mask-same value k m (own * own) f (weigh (own * (own - 2)) (OfPoint v) ∷ (weigh_points 1 ends ++ weigh_faces 1 faces)) (next (OfPoint v)) (h v)
      (positive_next (OfPoint v)) over
      (at_v, all-joined (λ t. IsIn t.source) (weigh_points 1 ends) (weigh_faces 1 faces) (all-points IsIn 1 ends at_ends) (all-faces IsIn 1 faces at_faces))
      is
      ∙ ap (λ i. pos k *ℤ (pos (own * (own - 2)) *ℤ g v +ℤ i))
      (weighted-append f (weigh_points 1 ends) (weigh_faces 1 faces)
      ∙ ap (λ i. i +ℤ weighted_sum f (weigh_faces 1 faces)) (points-sum f 1 ends)
      ∙ ap (λ i. pos 1 *ℤ sum_ℤ g ends +ℤ i) (faces-sum f 1 faces)))

  -- the new points of the edges
  module _ (v : ℕ) (beside : ℕ × ℕ → List ℕ) (edge_new : ℕ × ℕ → ℕ) where
    new-edge : (e : ℕ × ℕ) → IsOver k (next (OfPoint (edge_new e))) (h (edge_new e))
        → AllByRecursion (λ p. IsIn (OfPoint p)) (e.0 ∷ e.1 ∷ []) → AllByRecursion (λ x. IsIn (OfFace x)) (beside e)
        → next (OfPoint (edge_new e)) ≡ mask_value value (smooth_edge_mask e (beside e))
        → g e.0 +ℤ g e.1 ≡ g v +ℤ g (other_end v e)
        → IsSameOver k m (pos 4 *ℤ h (edge_new e)) ((g v +ℤ g (other_end v e)) +ℤ sum_ℤ F (beside e))
    new-edge e over at_ends at_faces is ends =
        let points = weigh_points 1 (e.0 ∷ e.1 ∷ []) in
        let faces = weigh_faces 1 (beside e) in
        mask-same value k m 4 f (points ++ faces) (next (OfPoint (edge_new e))) (h (edge_new e)) (positive_next (OfPoint (edge_new e))) over
        (all-joined (λ t. IsIn t.source) points faces (all-points IsIn 1 (e.0 ∷ e.1 ∷ []) at_ends) (all-faces IsIn 1 (beside e) at_faces))
        is
        ∙ ap (λ i. pos k *ℤ i)
        (ap (λ i. pos 1 *ℤ g e.0 +ℤ (pos 1 *ℤ g e.1 +ℤ i)) (faces-sum f 1 (beside e)) ∙ together (g e.0) (g e.1) (sum_ℤ F (beside e)) ∙ ap (λ i. i +ℤ sum_ℤ F (beside e)) ends)
      where
        together : (a b i : ℤ) → pos 1 *ℤ a +ℤ (pos 1 *ℤ b +ℤ pos 1 *ℤ i) ≡ (a +ℤ b) +ℤ i
        together a b i = omega (arith, ints)

    pub new-edges : (edges : List (ℕ × ℕ)) → AllByRecursion (λ e. IsOver k (next (OfPoint (edge_new e))) (h (edge_new e))) edges
        → AllByRecursion (λ e. AllByRecursion (λ p. IsIn (OfPoint p)) (e.0 ∷ e.1 ∷ [])) edges
        → AllByRecursion (λ e. AllByRecursion (λ x. IsIn (OfFace x)) (beside e)) edges
        → AllByRecursion (λ e. next (OfPoint (edge_new e)) ≡ mask_value value (smooth_edge_mask e (beside e))) edges
        → AllByRecursion (λ e. (l : ℕ → ℤ) → l e.0 +ℤ l e.1 ≡ l v +ℤ l (other_end v e)) edges
        → AllByRecursion (λ e. IsSameOver k m (pos 4 *ℤ h (edge_new e)) ((g v +ℤ g (other_end v e)) +ℤ sum_ℤ F (beside e))) edges
    new-edges [] over at_ends at_faces are ends = tt
    new-edges (e ∷ edges) over at_ends at_faces are ends =
        (new-edge e over.0 at_ends.0 at_faces.0 are.0 (ends.0 g), new-edges edges over.1 at_ends.1 at_faces.1 are.1 ends.1)

  -- the new points of the faces
  module _ (corners : ℕ → List ℕ) where
    pub new-faces : (face_new : ℕ → ℕ) (faces : List ℕ) → AllByRecursion (λ x. length (corners x) ≡ 4) faces
        → AllByRecursion (λ x. AllByRecursion (λ p. IsIn (OfPoint p)) (corners x)) faces
        → AllByRecursion (λ x. IsOver k (next (OfPoint (face_new x))) (h (face_new x))) faces
        → AllByRecursion (λ x. next (OfPoint (face_new x)) ≡ mask_value value (mask_of_corners (corners x))) faces
        → AllByRecursion (λ x. IsSameOver k m (pos 4 *ℤ h (face_new x)) (sum_ℤ g (corners x))) faces
    new-faces face_new [] four at_corners over are = tt
    new-faces face_new (x ∷ faces) four at_corners over are = (
      corners-over value m f (corners x) k (next (OfPoint (face_new x))) (h (face_new x)) four.0 at_corners.0 (positive_next (OfPoint (face_new x))) over.0 are.0,
      new-faces face_new faces four.1 at_corners.1 over.1 are.1,
    )
