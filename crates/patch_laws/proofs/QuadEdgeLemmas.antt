-- Quads: the sums over their corners, and the edges of two quads.
use Rattle.std.proofs.Common.{◌≡◌, ℕ, ◌+◌, Bool, true, false, nat_eq, ℤ, pos, ◌+ℤ◌, List, [], ◌∷◌, length, arith, refl, ap, sym, ◌∙◌, ◌⊎◌, inl, inr}
use Rattle.std.proofs.lemmas.Bool.{eqb-true}
use Rattle.std.proofs.lemmas.Bool.Decides.{nat_tests}
use Rattle.std.proofs.lemmas.Int.{ints}
use Rattle.subdiv_model.specs.Polygons.{Polygon, same_side, has_side, has_edge, is_among, polygon_at, sides_of}
use Rattle.subdiv_model.specs.Edges.{all_sides, faces_of_edge}
use Rattle.subdiv_model.specs.Level.{Level}
use Rattle.number_laws.proofs.CountLemmas.{count-some}
use Rattle.mesh_laws.proofs.SideLemmas.{distinct-count, edge-count}
use Rattle.mesh_laws.proofs.EdgeLemmas.{faces-count}
use Rattle.mesh_laws.proofs.ClosedLemmas.{any-here, no-loop, any-side-edge}
use Rattle.mesh_laws.proofs.FanLemmas.{places-at}
use Rattle.texture_laws.proofs.JoinLemmas.{edge-same, turned-edge}
use Rattle.mask_laws.specs.Laws.{IsManifoldWithSharpBoundary}
use Rattle.mask_laws.proofs.SumLemmas.{sum_ℤ}
use Rattle.grid_laws.specs.Grids.{IsQuad, from_first, from_second, from_third, from_fourth}
use Rattle.grid_laws.proofs.QuadLemmas.{faces-apart}
use Rattle.grid_laws.proofs.GridLemmas.{level-simple, level-distinct}

-- a list of two numbers that has both of these
pair-of : (numbers : List ℕ) (a b : ℕ) → length numbers ≡ 2 → is_among numbers a ≡ true → is_among numbers b ≡ true → nat_eq a b ≡ false
    → (numbers ≡ a ∷ b ∷ []) ⊎ (numbers ≡ b ∷ a ∷ [])
pair-of [] a b two h k apart = absurd (omega (arith, two))
pair-of (x ∷ []) a b two h k apart = absurd (omega (arith, two))
pair-of (x ∷ (y ∷ (z ∷ more))) a b two h k apart = absurd (omega (arith, two))
pair-of (x ∷ (y ∷ [])) a b two h k apart = here (nat_eq a x) refl
  where
    here : (first : Bool) → nat_eq a x ≡ first → (x ∷ y ∷ [] ≡ a ∷ b ∷ []) ⊎ (x ∷ y ∷ [] ≡ b ∷ a ∷ [])
    here true e =
        let other : nat_eq b y ≡ true = grind (arith, nat_tests) in
        inl (ap (λ n. n ∷ y ∷ []) (sym (eqb-true a x e)) ∙ ap (λ n. a ∷ n ∷ []) (sym (eqb-true b y other)))
    here false e =
        let second : nat_eq a y ≡ true = grind (arith, nat_tests) in
        let other : nat_eq b x ≡ true = grind (arith, nat_tests) in
        inr (ap (λ n. n ∷ y ∷ []) (sym (eqb-true b x other)) ∙ ap (λ n. b ∷ n ∷ []) (sym (eqb-true a y second)))

-- Quads.

pub sum-of-four : (p q r s : ℤ) → p +ℤ (q +ℤ (r +ℤ (s +ℤ pos 0))) ≡ (p +ℤ q) +ℤ (r +ℤ s)
sum-of-four p q r s = omega (arith, ints)

-- the sum over the corners
pub quad-total : (polygons : List Polygon) (g : ℕ → ℤ) (face p q r s : ℕ) → IsQuad polygons face p q r s
    → sum_ℤ g (polygon_at polygons face) ≡ (g p +ℤ g q) +ℤ (g r +ℤ g s)
quad-total polygons g face p q r s is = here is
  where
    two : (a b c d : ℤ) → b +ℤ (c +ℤ (d +ℤ (a +ℤ pos 0))) ≡ (a +ℤ b) +ℤ (c +ℤ d)
    two a b c d = omega (arith, ints)

    three : (a b c d : ℤ) → c +ℤ (d +ℤ (a +ℤ (b +ℤ pos 0))) ≡ (a +ℤ b) +ℤ (c +ℤ d)
    three a b c d = omega (arith, ints)

    four : (a b c d : ℤ) → d +ℤ (a +ℤ (b +ℤ (c +ℤ pos 0))) ≡ (a +ℤ b) +ℤ (c +ℤ d)
    four a b c d = omega (arith, ints)

    here : IsQuad polygons face p q r s → sum_ℤ g (polygon_at polygons face) ≡ (g p +ℤ g q) +ℤ (g r +ℤ g s)
    here (from_first e) = ap (sum_ℤ g) e ∙ sum-of-four (g p) (g q) (g r) (g s)
    here (from_second e) = ap (sum_ℤ g) e ∙ two (g p) (g q) (g r) (g s)
    here (from_third e) = ap (sum_ℤ g) e ∙ three (g p) (g q) (g r) (g s)
    here (from_fourth e) = ap (sum_ℤ g) e ∙ four (g p) (g q) (g r) (g s)

-- Edges of two quads.

module _ (level : Level) (well : IsManifoldWithSharpBoundary level) where
  -- the faces of an edge are those that have it in the one direction and in the other
  pub faces-of-two : (p q first second : ℕ) → has_side (p, q) (polygon_at level.polygons first) ≡ true
      → has_side (q, p) (polygon_at level.polygons second) ≡ true
      → (faces_of_edge level.polygons (p, q) ≡ first ∷ second ∷ []) ⊎ (faces_of_edge level.polygons (p, q) ≡ second ∷ first ∷ [])
  faces-of-two p q first second out back =
      let polygons = level.polygons in
      let sides = all_sides polygons in
      let there = any-here (same_side (p, q)) polygons first out in
      let there_back = any-here (same_side (q, p)) polygons second back in
      let count = faces-count (p, q) 0 polygons (level-simple level well) ∙ edge-count (p, q) sides (no-loop polygons (p, q) (level-simple level well) there) in
      let one = distinct-count (p, q) sides (level-distinct level well) in
      let other = distinct-count (q, p) sides (level-distinct level well) in
      let some = count-some (same_side (p, q)) sides there in
      let some_other = count-some (same_side (q, p)) sides there_back in
      let two : length (faces_of_edge polygons (p, q)) ≡ 2 = omega arith in
      let has_first : has_edge (p, q) (polygon_at polygons first) ≡ true = any-side-edge (p, q) (sides_of (polygon_at polygons first)) out in
      let has_second : has_edge (p, q) (polygon_at polygons second) ≡ true =
      edge-same (p, q) (q, p) (turned-edge p q) (sides_of (polygon_at polygons second)) ∙ any-side-edge (q, p) (sides_of (polygon_at polygons second)) back in
      pair-of (faces_of_edge polygons (p, q)) first second two (among first has_first) (among second has_second)
      (faces-apart polygons (level-simple level well) first second p q out back)
    where
      among : (face : ℕ) → has_edge (p, q) (polygon_at level.polygons face) ≡ true → is_among (faces_of_edge level.polygons (p, q)) face ≡ true
      among face h =
          let same : face ≡ 0 + face = omega arith in
          ap (is_among (faces_of_edge level.polygons (p, q))) same ∙ places-at (has_edge (p, q)) [] refl 0 face level.polygons ∙ h
