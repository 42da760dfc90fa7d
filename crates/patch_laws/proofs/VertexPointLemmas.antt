-- A regular point in the next level, as a whole number of the points of its four quads.
use Rattle.std.proofs.Common.{◌≡◌, ℕ, ◌*◌, true, nat_lt, ℤ, pos, ◌+ℤ◌, ◌*ℤ◌, List, arith, ap, ◌∙◌, sym, subst}
use Rattle.std.proofs.lemmas.Int.{ints}
use Rattle.subdiv_model.specs.Polygons.{polygon_at}
use Rattle.subdiv_model.specs.Level.{Level, faces_at}
use Rattle.subdiv_model.specs.Mask.{CatmullClark, SourcePoint, ends_at, smooth_vertex_mask}
use Rattle.subdiv_model.specs.Value.{Value}
use Rattle.subdiv_model.specs.Refined.{mask_value, source_value}
use Rattle.mask_laws.specs.Laws.{IsManifoldWithSharpBoundary}
use Rattle.mask_laws.proofs.SumLemmas.{sum_ℤ, IsOver}
use Rattle.limit_laws.proofs.ChildValueLemmas.{value-old}
use Rattle.limit_laws.proofs.LevelLemmas.{level-over}
use Rattle.grid_laws.specs.Grids.{IsStar}
use Rattle.grid_laws.proofs.GridLemmas.{regular-parts}
use Rattle.grid_laws.proofs.QuadLemmas.{quad-below}
use Rattle.patch_laws.proofs.StarLemmas.{sum-faces, sum-ends, four-ends, star-vertex}
use Rattle.patch_laws.proofs.WholeValueLemmas.{AreWhole, vertex-number}
use Rattle.patch_laws.proofs.QuadEdgeLemmas.{quad-total}
use Rattle.patch_laws.proofs.NewPointLemmas.{next_value}

module _ (level : Level) (well : IsManifoldWithSharpBoundary level) (values : List Value) (m : ℕ) (g : ℕ → ℤ) (are : AreWhole values m g) where
  -- 36 times the point, six times the other ends of its edges, and once the corners opposite to it
  pub vertex-point : (v a b c d w x y z : ℕ) → IsStar level v a b c d w x y z
      → IsOver (64 * m) (next_value level values v)
      (pos 36 *ℤ g v +ℤ (pos 6 *ℤ ((g a +ℤ g b) +ℤ (g c +ℤ g d)) +ℤ ((g w +ℤ g x) +ℤ (g y +ℤ g z))))
  vertex-point v a b c d w x y z star =
      let polygons = level.polygons in
      let value : SourcePoint → Value = source_value level values in
      let below : nat_lt v level.point_count ≡ true = quad-below polygons level.point_count (level-over level well) star.first in
      let at : next_value level values v ≡ mask_value value (smooth_vertex_mask v (ends_at level v) (faces_at level v)) =
      value-old level CatmullClark values v below ∙ ap (mask_value value) (star-vertex level well v a b c d w x y z star) in
      let whole = vertex-number level values m g are v (ends_at level v) (faces_at level v) (four-ends level well v a b c d w x y z star) (regular-parts level v star.regular).quads in
      let S : ℕ → ℤ = λ (f : ℕ). sum_ℤ g (polygon_at polygons f) in
      let same = sums (g v) (g a) (g b) (g c) (g d) (g w) (g x) (g y) (g z) (sum_ℤ g (ends_at level v)) (sum_ℤ S (faces_at level v))
      (S star.first.face) (S star.second.face) (S star.third.face) (S star.fourth.face)
      (sum-ends level well v a b c d w x y z star g) (sum-faces level well v a b c d w x y z star S)
      (quad-total polygons g star.first.face v a w b star.first.is) (quad-total polygons g star.second.face v b x c star.second.is)
      (quad-total polygons g star.third.face v c y d star.third.is) (quad-total polygons g star.fourth.face v d z a star.fourth.is) in
      let n = pos 36 *ℤ g v +ℤ (pos 6 *ℤ ((g a +ℤ g b) +ℤ (g c +ℤ g d)) +ℤ ((g w +ℤ g x) +ℤ (g y +ℤ g z))) in
      subst (λ (k : Value). IsOver (64 * m) k n) (sym at)
      (subst (λ (k : ℤ). IsOver (64 * m) (mask_value value (smooth_vertex_mask v (ends_at level v) (faces_at level v))) k) same whole)
    where
      sums : (o p q r s h i j k e f f1 f2 f3 f4 : ℤ) → e ≡ (p +ℤ q) +ℤ (r +ℤ s) → f ≡ (f1 +ℤ f2) +ℤ (f3 +ℤ f4)
          → f1 ≡ (o +ℤ p) +ℤ (h +ℤ q) → f2 ≡ (o +ℤ q) +ℤ (i +ℤ r) → f3 ≡ (o +ℤ r) +ℤ (j +ℤ s) → f4 ≡ (o +ℤ s) +ℤ (k +ℤ p)
          → pos 32 *ℤ o +ℤ (pos 4 *ℤ e +ℤ f) ≡ pos 36 *ℤ o +ℤ (pos 6 *ℤ ((p +ℤ q) +ℤ (r +ℤ s)) +ℤ ((h +ℤ i) +ℤ (j +ℤ k)))
      sums o p q r s h i j k e f f1 f2 f3 f4 e1 e2 e3 e4 e5 e6 = omega (arith, ints, e1, e2, e3, e4, e5, e6)
