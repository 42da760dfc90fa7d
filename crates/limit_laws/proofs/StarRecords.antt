-- Facts of a point off the boundary, and of the values around it in two levels.
use Rattle.std.proofs.Common.{◌≡◌, ℕ, ◌<◌, ℤ, pos, ◌+ℤ◌, ◌*ℤ◌, List, length, map}
use Rattle.std.specs.List.{AllByRecursion}
use Rattle.subdiv_model.specs.Mask.{SourcePoint, OfPoint, OfFace, smooth_vertex_mask, smooth_edge_mask, mask_of_corners, other_end}
use Rattle.subdiv_model.specs.Value.{Value}
use Rattle.subdiv_model.specs.Refined.{mask_value}
use Rattle.mask_laws.proofs.SumLemmas.{sum_ℤ}

-- the edges and faces at a point away from the boundary, the corners of the faces, the faces of the edges
pub record IsSmoothStar (v : ℕ) (edges : List (ℕ × ℕ)) (faces opposites : List ℕ) (corners : ℕ → List ℕ) (beside : ℕ × ℕ → List ℕ) : Type 0 where
  pub some : 1 < length edges
  pub as_many : length faces ≡ length edges
  pub quads : AllByRecursion (λ f. length (corners f) ≡ 4) faces
  pub ends : AllByRecursion (λ e. (g : ℕ → ℤ) → g e.0 +ℤ g e.1 ≡ g v +ℤ g (other_end v e)) edges
  pub by_edges : (g : ℕ → ℤ) → sum_ℤ (λ e. sum_ℤ g (beside e)) edges ≡ pos 2 *ℤ sum_ℤ g faces
  pub by_corners : (g : ℕ → ℤ) → sum_ℤ (λ f. sum_ℤ g (corners f)) faces
      ≡ (pos (length edges) *ℤ g v +ℤ pos 2 *ℤ sum_ℤ (λ e. g (other_end v e)) edges) +ℤ sum_ℤ g opposites

-- `value` gives the points and faces of a level, `point` its points, and `next` the points of the next level
pub record AreValues (value next point : SourcePoint → Value) : Type 0 where
  pub positive : (s : SourcePoint) → 0 < (value s).den
  pub positive_next : (s : SourcePoint) → 0 < (next s).den
  pub positive_point : (s : SourcePoint) → 0 < (point s).den
  pub at_point : (p : ℕ) → value (OfPoint p) ≡ point (OfPoint p)

-- the values of the next level about a smooth point
pub record IsSmoothNext (value next point : SourcePoint → Value) (v : ℕ) (edges : List (ℕ × ℕ)) (faces : List ℕ) (corners : ℕ → List ℕ) (beside : ℕ × ℕ → List ℕ)
    (edge_new : ℕ × ℕ → ℕ) (face_new : ℕ → ℕ) (ends_next opposites_next : List ℕ) : Type 0 where
  pub center : next (OfPoint v) ≡ mask_value value (smooth_vertex_mask v (map (other_end v) edges) faces)
  pub at_edges : AllByRecursion (λ e. next (OfPoint (edge_new e)) ≡ mask_value value (smooth_edge_mask e (beside e))) edges
  pub at_faces : AllByRecursion (λ f. next (OfPoint (face_new f)) ≡ mask_value value (mask_of_corners (corners f))) faces
  pub old_faces : AllByRecursion (λ f. value (OfFace f) ≡ mask_value point (mask_of_corners (corners f))) faces
  pub count_next : length ends_next ≡ length edges
  pub same_ends : (g : ℕ → ℤ) → sum_ℤ g ends_next ≡ sum_ℤ (λ e. g (edge_new e)) edges
  pub same_opposites : (g : ℕ → ℤ) → sum_ℤ g opposites_next ≡ sum_ℤ (λ f. g (face_new f)) faces
