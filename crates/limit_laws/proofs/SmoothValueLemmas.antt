-- The limit of a smooth point is that of the point in the next level.
use Rattle.std.proofs.Common.{◌≡◌, ℕ, ◌+◌, ◌*◌, ◌<◌, ℤ, pos, ◌+ℤ◌, ◌*ℤ◌, List, [], ◌∷◌, ◌++◌, length, map, arith, ap, sym, ◌∙◌}
use Rattle.std.specs.List.{AllByRecursion, flat_map}
use Rattle.std.proofs.lemmas.List.{length-map}
use Rattle.subdiv_model.specs.Limit.{smooth_limit_mask}
use Rattle.subdiv_model.specs.Mask.{SourcePoint, OfPoint, OfFace, other_end}
use Rattle.subdiv_model.specs.Value.{Value, IsSameValue}
use Rattle.subdiv_model.specs.Refined.{mask_value}
use Rattle.number_laws.proofs.MultipleLemmas.{product-positive}
use Rattle.mask_laws.proofs.SumLemmas.{sum_ℤ, IsOver}
use Rattle.limit_laws.proofs.SumExchangeLemmas.{sum-map, sum-times}
use Rattle.limit_laws.proofs.StarRecords.{IsSmoothStar, AreValues, IsSmoothNext}
use Rattle.limit_laws.proofs.CommonOverLemmas.{common, whole, all-split, all-of_map, all-of_parts}
use Rattle.limit_laws.proofs.SameOverLemmas.{IsSameOver, over-sum, same-from_over}
use Rattle.limit_laws.proofs.SmoothSumLemmas.{smooth-sums, edges-sum, limit-over, old-faces, new-center, new-edges, new-faces}

module _ (value next point : SourcePoint → Value) (v : ℕ) (edges : List (ℕ × ℕ)) (faces opposites : List ℕ) (corners : ℕ → List ℕ) (beside : ℕ × ℕ → List ℕ)
    (edge_new : ℕ × ℕ → ℕ) (face_new : ℕ → ℕ) (ends_next opposites_next : List ℕ) where
  abbrev ends : List ℕ
  ends = map (other_end v) edges

  abbrev both_ends : ℕ × ℕ → List ℕ
  both_ends e = e.0 ∷ e.1 ∷ []

  -- the level's points in play, its faces, and the points of the next level
  abbrev points : List ℕ
  points = v ∷ (ends ++ (opposites ++ (flat_map both_ends edges ++ flat_map corners faces)))

  abbrev insides : List ℕ
  insides = faces ++ flat_map beside edges

  abbrev points_next : List ℕ
  points_next = v ∷ (ends_next ++ (opposites_next ++ (map edge_new edges ++ map face_new faces)))

  -- the sources of the level are whole over m
  record AreOver (m : ℕ) (f : SourcePoint → ℤ) : Type 0 where
    at_v : IsOver m (value (OfPoint v)) (f (OfPoint v))
    at_ends : AllByRecursion (λ p. IsOver m (value (OfPoint p)) (f (OfPoint p))) ends
    at_opposites : AllByRecursion (λ p. IsOver m (value (OfPoint p)) (f (OfPoint p))) opposites
    at_both : AllByRecursion (λ e. AllByRecursion (λ p. IsOver m (value (OfPoint p)) (f (OfPoint p))) (both_ends e)) edges
    at_corners : AllByRecursion (λ x. AllByRecursion (λ p. IsOver m (value (OfPoint p)) (f (OfPoint p))) (corners x)) faces
    at_faces : AllByRecursion (λ x. IsOver m (value (OfFace x)) (f (OfFace x))) faces
    at_beside : AllByRecursion (λ e. AllByRecursion (λ x. IsOver m (value (OfFace x)) (f (OfFace x))) (beside e)) edges

  are-over : (m : ℕ) (f : SourcePoint → ℤ) → AllByRecursion (λ s. IsOver m (value s) (f s)) (map OfPoint points ++ map OfFace insides) → AreOver m f
  are-over m f each =
      let P : SourcePoint → Type 0 = λ s. IsOver m (value s) (f s) in
      let R : ℕ → Type 0 = λ p. P (OfPoint p) in
      let S : ℕ → Type 0 = λ x. P (OfFace x) in
      let parts = all-split P (map OfPoint points) (map OfFace insides) each in
      let of_points = all-of_map P OfPoint points parts.0 in
      let after_v = all-split R ends (opposites ++ (flat_map both_ends edges ++ flat_map corners faces)) of_points.1 in
      let after_ends = all-split R opposites (flat_map both_ends edges ++ flat_map corners faces) after_v.1 in
      let last = all-split R (flat_map both_ends edges) (flat_map corners faces) after_ends.1 in
      let of_faces = all-split S faces (flat_map beside edges) (all-of_map P OfFace insides parts.1) in
      record {
        at_v = of_points.0;
        at_ends = after_v.0;
        at_opposites = after_ends.0;
        at_both = all-of_parts R both_ends edges last.0;
        at_corners = all-of_parts R corners faces last.1;
        at_faces = of_faces.0;
        at_beside = all-of_parts S beside edges of_faces.1;
      }

  -- the points of the next level are whole over k
  record AreOverNext (k : ℕ) (h : ℕ → ℤ) : Type 0 where
    at_v : IsOver k (next (OfPoint v)) (h v)
    at_ends : AllByRecursion (λ p. IsOver k (next (OfPoint p)) (h p)) ends_next
    at_opposites : AllByRecursion (λ p. IsOver k (next (OfPoint p)) (h p)) opposites_next
    at_edges : AllByRecursion (λ e. IsOver k (next (OfPoint (edge_new e))) (h (edge_new e))) edges
    at_faces : AllByRecursion (λ x. IsOver k (next (OfPoint (face_new x))) (h (face_new x))) faces

  are-over_next : (k : ℕ) (h : SourcePoint → ℤ) → AllByRecursion (λ s. IsOver k (next s) (h s)) (map OfPoint points_next) → AreOverNext k (λ p. h (OfPoint p))
  are-over_next k h each =
      let R : ℕ → Type 0 = λ p. IsOver k (next (OfPoint p)) (h (OfPoint p)) in
      let of_points = all-of_map (λ s. IsOver k (next s) (h s)) OfPoint points_next each in
      let after_v = all-split R ends_next (opposites_next ++ (map edge_new edges ++ map face_new faces)) of_points.1 in
      let after_ends = all-split R opposites_next (map edge_new edges ++ map face_new faces) after_v.1 in
      let last = all-split R (map edge_new edges) (map face_new faces) after_ends.1 in
      record {
        at_v = of_points.0;
        at_ends = after_v.0;
        at_opposites = after_ends.0;
        at_edges = all-of_map R edge_new edges last.0;
        at_faces = all-of_map R face_new faces last.1;
      }

  module _ (values : AreValues value next point) (star : IsSmoothStar v edges faces opposites corners beside)
      (around : IsSmoothNext value next point v edges faces corners beside edge_new face_new ends_next opposites_next) where
    abbrev n : ℕ
    n = length edges

    module _ (m k : ℕ) (f : SourcePoint → ℤ) (h : ℕ → ℤ) (some : 0 < m) (over : AreOver m f) (later : AreOverNext k h) where
      abbrev g : ℕ → ℤ
      g p = f (OfPoint p)

      abbrev F : ℕ → ℤ
      F x = f (OfFace x)

      faces-four : pos 4 *ℤ sum_ℤ F faces ≡ sum_ℤ (λ x. sum_ℤ g (corners x)) faces
      faces-four = old-faces value point m f corners some values.positive values.at_point faces star.quads over.at_corners over.at_faces around.old_faces

      -- the sums of the edges' new points, and of the faces'
      edges-four : IsSameOver k m (pos 4 *ℤ sum_ℤ h ends_next) ((pos n *ℤ g v +ℤ sum_ℤ g ends) +ℤ pos 2 *ℤ sum_ℤ F faces)
      edges-four =
          ap (λ i. pos m *ℤ i) (ap (λ i. pos 4 *ℤ i) (around.same_ends h) ∙ sym (sum-times 4 (λ e. h (edge_new e)) edges))
          ∙ over-sum k m (λ e. pos 4 *ℤ h (edge_new e)) (λ e. (g v +ℤ g (other_end v e)) +ℤ sum_ℤ F (beside e)) edges
          (new-edges value next m k f h values.positive_next v beside edge_new edges later.at_edges over.at_both over.at_beside around.at_edges star.ends)
          ∙ ap (λ i. pos k *ℤ i) (edges-sum v g F beside edges
          ∙ ap (λ i. (pos n *ℤ g v +ℤ i) +ℤ sum_ℤ (λ e. sum_ℤ F (beside e)) edges) (sym (sum-map g (other_end v) edges))
          ∙ ap (λ i. (pos n *ℤ g v +ℤ sum_ℤ g ends) +ℤ i) (star.by_edges F))

      new-four : IsSameOver k m (pos 4 *ℤ sum_ℤ h opposites_next) (pos 4 *ℤ sum_ℤ F faces)
      new-four =
          ap (λ i. pos m *ℤ i) (ap (λ i. pos 4 *ℤ i) (around.same_opposites h) ∙ sym (sum-times 4 (λ x. h (face_new x)) faces))
          ∙ over-sum k m (λ x. pos 4 *ℤ h (face_new x)) (λ x. sum_ℤ g (corners x)) faces
          (new-faces value next m k f h values.positive_next corners face_new faces star.quads over.at_corners later.at_faces around.at_faces)
          ∙ ap (λ i. pos k *ℤ i) (sym faces-four)

      limits-same : IsSameOver k m (pos (n * n) *ℤ h v +ℤ (pos 4 *ℤ sum_ℤ h ends_next +ℤ pos 1 *ℤ sum_ℤ h opposites_next))
          (pos (n * n) *ℤ g v +ℤ (pos 4 *ℤ sum_ℤ g ends +ℤ pos 1 *ℤ sum_ℤ g opposites))
      limits-same =
          smooth-sums k m n (g v) (sum_ℤ g ends) (sum_ℤ F faces) (sum_ℤ g opposites) (h v) (sum_ℤ h ends_next) (sum_ℤ h opposites_next) star.some
          (new-center value next m k f h values.positive_next v ends faces n (length-map edges (other_end v)) later.at_v over.at_v over.at_ends over.at_faces around.center)
          edges-four new-four
          (faces-four
          ∙ star.by_corners g
          ∙ ap (λ i. (pos n *ℤ g v +ℤ pos 2 *ℤ i) +ℤ sum_ℤ g opposites) (sym (sum-map g (other_end v) edges)))

      same-limits : 0 < k → IsSameValue (mask_value value (smooth_limit_mask v ends opposites)) (mask_value next (smooth_limit_mask v ends_next opposites_next))
      same-limits some_next =
          same-from_over k m (n * (n + 5)) _ _ _ _ (product-positive n (n + 5) (omega (arith, star.some)) (omega arith)) some_next some
          (limit-over m value f v ends opposites n (length-map edges (other_end v)) over.at_v over.at_ends over.at_opposites)
          (limit-over k next (λ s. h (point_of s)) v ends_next opposites_next n around.count_next later.at_v later.at_ends later.at_opposites)
          limits-same
        where
          point_of : SourcePoint → ℕ
          point_of (OfPoint p) = p
          point_of (OfFace x) = x

    pub smooth-value : IsSameValue (mask_value value (smooth_limit_mask v (map (other_end v) edges) opposites))
        (mask_value next (smooth_limit_mask v ends_next opposites_next))
    smooth-value =
        let here = common value values.positive (map OfPoint points ++ map OfFace insides) in
        let later = common next values.positive_next (map OfPoint points_next) in
        same-limits here.m later.m (whole value here.m) (λ p. whole next later.m (OfPoint p)) here.some (are-over here.m (whole value here.m) here.each)
        (are-over_next later.m (whole next later.m) later.each) later.some
