-- The edges at a point of the next level are the halves of the edges at it.
use Rattle.std.proofs.Common.{◌≡◌, ℕ, ◌≤◌, Bool, true, false, ◌&&◌, nat_eq, nat_lt, ℤ, List, [], ◌∷◌, get_or, arith, refl, ap, ◌∙◌, ◌⊎◌, inl, inr}
use Rattle.std.specs.List.{filter, list_all, list_any, count_by}
use Rattle.std.proofs.lemmas.Bool.Decides.{nat_tests}
use Rattle.std.proofs.lemmas.Bool.{and_parts, and_from, eqb-true, cond_both, false≢true}
use Rattle.subdiv_model.specs.Polygons.{Polygon, same_side, same_edge, is_over}
use Rattle.subdiv_model.specs.Edges.{all_sides, edges_of, has_end}
use Rattle.subdiv_model.specs.Manifold.{is_simple}
use Rattle.subdiv_model.specs.Sharpness.{Sharpness, Smooth}
use Rattle.subdiv_model.specs.Level.{Level, edge_sharpness_of, edges_at}
use Rattle.subdiv_model.specs.Child.{face_point, half_sharpness, child_level}
use Rattle.subdiv_model.specs.Mask.{other_end}
use Rattle.number_laws.proofs.CountLemmas.{count-agree, count-some, any-from_count, all-weaker}
use Rattle.mesh_laws.proofs.SideLemmas.{same_edge-alike}
use Rattle.mesh_laws.proofs.EdgeLemmas.{any-first_named, first_named-once, position-alike, any-alike}
use Rattle.mesh_laws.proofs.ClosedLemmas.{any-side-edge, first_named-all}
use Rattle.mesh_laws.proofs.ChildCountLemmas.{is_inside, same-edge-point, corner-edge, corner-face, times-out, times-in}
use Rattle.mesh_laws.proofs.ChildClosedLemmas.{source}
use Rattle.mesh_laws.proofs.ChildOverLemmas.{listed-sound}
use Rattle.mesh_laws.proofs.ChildPlaceLemmas.{own-sides}
use Rattle.level_laws.proofs.HalfLemmas.{point_of, is_edge, child_edges, child_sides, half-sharp}
use Rattle.limit_laws.proofs.PlaceLemmas.{count-kept}
use Rattle.mask_laws.proofs.SumLemmas.{sum_ℤ}
use Rattle.limit_laws.proofs.SumExchangeLemmas.{sum-agree, is_once, sum-partners}

-- an item that is kept also passes a test that all items pass
pub kept-both : {X : Type 0} (keep test : X → Bool) (xs : List X) → list_all test xs ≡ true → list_all (λ x. keep x && test x) (filter keep xs) ≡ true
kept-both keep test [] h = refl
kept-both keep test (x ∷ xs) h =
    let parts = and_parts (test x) (list_all test xs) h in
    cond_both (keep x) (x ∷ filter keep xs) (filter keep xs) (λ l. list_all (λ y. keep y && test y) l ≡ true)
    (λ yes. and_from _ _ (and_from _ _ yes parts.0) (kept-both keep test xs parts.1)) (λ _. kept-both keep test xs parts.1)

-- a number that is at most 1 and at least 1 is 1
once-from : (n : ℕ) → n ≤ 1 → 1 ≤ n → nat_eq n 1 ≡ true
once-from n h k = grind (arith, nat_tests)

-- the other end of an edge from v to p
pub other-alike : (v p : ℕ) (a : ℕ × ℕ) → same_edge a (v, p) ≡ true → other_end v a ≡ p
other-alike v p a h = grind (arith, nat_tests)

-- two edges from one point
pub from-one : (v p q : ℕ) → same_edge (v, p) (v, q) ≡ nat_eq p q
from-one v p q = grind (arith, nat_tests)

-- what ends at v still does so by another name
pub end-alike : (v : ℕ) (s e : ℕ × ℕ) → has_end v s ≡ true → same_edge s e ≡ true → has_end v e ≡ true
end-alike v s e h k = grind (arith, nat_tests)

-- an edge from v ends there
pub ends-there : (v p : ℕ) (a : ℕ × ℕ) → (has_end v a && same_edge a (v, p)) ≡ same_edge (v, p) a
ends-there v p a = grind (arith, nat_tests)

implies : (b c : Bool) → (c ≡ true → b ≡ true) → (b && c) ≡ c
implies true c h = refl
implies false false h = refl
implies false true h = absurd (false≢true (h refl))

-- each edge is listed as one of the sides goes
pub sides-listed : (polygons : List Polygon) → list_all (λ e. list_any (same_side e) (all_sides polygons)) (edges_of polygons) ≡ true
sides-listed polygons = first_named-all (λ e. list_any (same_side e) (all_sides polygons)) (all_sides polygons) (own-sides (all_sides polygons))

module _ (level : Level) (over : is_over level.point_count level.polygons ≡ true) (simple : list_all is_simple level.polygons ≡ true) (v : ℕ) (below : nat_lt v level.point_count ≡ true) where
  -- a side of the level, and one of the next level
  abbrev is_side : ℕ × ℕ → Bool
  is_side b = list_any (same_side b) (all_sides level.polygons)

  abbrev is_child_side : ℕ × ℕ → Bool
  is_child_side a = list_any (same_side a) (child_sides level)

  -- the edge of the next level is the half at v of an edge
  record IsHalfOf (a : ℕ × ℕ) : Type 0 where
    s : ℕ × ℕ
    named : is_edge level s ≡ true
    ends : has_end v s ≡ true
    half : same_edge a (v, point_of level s) ≡ true

  out-half : (a s : ℕ × ℕ) → nat_eq v (point_of level s) ≡ false → has_end v a ≡ true → same_side a (s.0, point_of level s) ≡ true
      → (has_end v s ≡ true) × (same_edge a (v, point_of level s) ≡ true)
  out-half a s none ends is =
      let first : nat_eq v s.0 ≡ true = grind (arith, nat_tests) in
      let same : v ≡ s.0 = eqb-true v s.0 first in
      (grind (arith, nat_tests), grind (arith, nat_tests))

  in-half : (a s : ℕ × ℕ) → nat_eq v (point_of level s) ≡ false → has_end v a ≡ true → same_side a (point_of level s, s.1) ≡ true
      → (has_end v s ≡ true) × (same_edge a (v, point_of level s) ≡ true)
  in-half a s none ends is =
      let second : nat_eq v s.1 ≡ true = grind (arith, nat_tests) in
      (grind (arith, nat_tests), grind (arith, nat_tests))

  no-end : (a : ℕ × ℕ) (m n : ℕ) → nat_eq v m ≡ false → nat_eq v n ≡ false → has_end v a ≡ true → same_side a (m, n) ≡ true → ⊥
  no-end a m n h k ends is = grind (arith, nat_tests)

  -- each edge of the next level at the point is one
  is-half : (a : ℕ × ℕ) → has_end v a ≡ true → is_child_side a ≡ true → IsHalfOf a
  is-half a ends there =
      let from = source level.point_count level.polygons over simple a there in
      let s : ℕ × ℕ = from.1 in
      let own = from.2 in
      let e1 = corner-edge level.point_count level.polygons v s below in
      let e2 = corner-face level.point_count level.polygons v from.0 below in
      go from.0 s own.2 e1 e2 from.3
    where
      go : (k : ℕ) (s : ℕ × ℕ) → is_edge level s ≡ true → nat_eq v (point_of level s) ≡ false → nat_eq v (face_point level.point_count k) ≡ false
          → (same_side a (s.0, point_of level s) ≡ true) ⊎ ((same_side a (point_of level s, face_point level.point_count k) ≡ true) ⊎ ((same_side a (face_point level.point_count k, point_of level s) ≡ true) ⊎ (same_side a (point_of level s, s.1) ≡ true)))
          → IsHalfOf a
      go k s named e1 e2 (inl h) = let both = out-half a s e1 ends h in record { s = s; named = named; ends = both.0; half = both.1 }
      go k s named e1 e2 (inr (inl h)) = absurd (no-end a (point_of level s) (face_point level.point_count k) e1 e2 ends h)
      go k s named e1 e2 (inr (inr (inl h))) = absurd (no-end a (face_point level.point_count k) (point_of level s) e2 e1 ends h)
      go k s named e1 e2 (inr (inr (inr h))) = let both = in-half a s e1 ends h in record { s = s; named = named; ends = both.0; half = both.1 }

  -- each half at the point is the half of one edge
  half-once : (a : ℕ × ℕ) → (has_end v a && is_child_side a) ≡ true → is_once (λ b. same_edge a (v, point_of level b)) (edges_at level v) ≡ true
  half-once a h =
      let parts = and_parts (has_end v a) (is_child_side a) h in
      let is = is-half a parts.0 parts.1 in
      let edges = edges_of level.polygons in
      let count : count_by (λ b. same_edge a (v, point_of level b)) (edges_at level v) ≡ count_by (same_edge is.s) edges =
      count-kept (has_end v) (λ b. same_edge a (v, point_of level b)) edges
      ∙ count-agree (λ b. has_end v b && same_edge a (v, point_of level b)) (same_edge is.s) (λ b.
      ap (λ t. has_end v b && t) (same_edge-alike a (v, point_of level is.s) (v, point_of level b) is.half ∙ from-one v (point_of level is.s) (point_of level b)
      ∙ same-edge-point level.point_count level.polygons is.s b is.named)
      ∙ implies (has_end v b) (same_edge is.s b) (λ k. end-alike v is.s b is.ends k)) edges in
      ap (λ n. nat_eq n 1) count ∙ once-from (count_by (same_edge is.s) edges) (first_named-once is.s (all_sides level.polygons)) (count-some (same_edge is.s) edges is.named)

  -- the half at v of an edge is one of the edges of the next level
  half-listed : (b : ℕ × ℕ) → has_end v b ≡ true → is_side b ≡ true → list_any (same_edge (v, point_of level b)) (child_edges level) ≡ true
  half-listed b ends there = here (nat_eq v b.0) refl
    where
      p : ℕ
      p = point_of level b

      sound : (is_edge level b ≡ true) × (is_inside level.point_count b ≡ true)
      sound = and_parts (is_edge level b) (is_inside level.point_count b) (listed-sound level.point_count level.polygons over b there)

      some : 1 ≤ count_by (same_side b) (all_sides level.polygons)
      some = count-some (same_side b) (all_sides level.polygons) there

      named-side : (a : ℕ × ℕ) → 1 ≤ count_by (same_side a) (child_sides level) → list_any (same_edge a) (child_edges level) ≡ true
      named-side a h = any-first_named a (child_sides level) ∙ any-side-edge a (child_sides level) (any-from_count (same_side a) (child_sides level) h)

      here : (first : Bool) → nat_eq v b.0 ≡ first → list_any (same_edge (v, p)) (child_edges level) ≡ true
      here true e =
          let same : v ≡ b.0 = eqb-true v b.0 e in
          let times = times-out level.point_count level.polygons over b sound.0 sound.1 in
          ap (λ (n : ℕ). list_any (same_edge (n, p)) (child_edges level)) same ∙ named-side (b.0, p) (omega (arith, some, times))
      here false e =
          let second : nat_eq v b.1 ≡ true = grind (arith, nat_tests) in
          let same : v ≡ b.1 = eqb-true v b.1 second in
          let times = times-in level.point_count level.polygons over b sound.0 sound.1 in
          let turned : same_edge (p, b.1) (b.1, p) ≡ true = grind (arith, nat_tests) in
          ap (λ (n : ℕ). list_any (same_edge (n, p)) (child_edges level)) same
          ∙ any-alike (p, b.1) (b.1, p) (child_edges level) turned (named-side (p, b.1) (omega (arith, some, times)))

  -- the half at v of an edge is listed once among the edges of the next level at v
  listed-once : (b : ℕ × ℕ) → (has_end v b && is_side b) ≡ true → is_once (λ a. same_edge a (v, point_of level b)) (edges_at (child_level level) v) ≡ true
  listed-once b h =
      let parts = and_parts (has_end v b) (is_side b) h in
      let half : ℕ × ℕ = (v, point_of level b) in
      let count : count_by (λ a. same_edge a half) (edges_at (child_level level) v) ≡ count_by (same_edge half) (child_edges level) =
      count-kept (has_end v) (λ a. same_edge a half) (child_edges level)
      ∙ count-agree (λ a. has_end v a && same_edge a half) (same_edge half) (ends-there v (point_of level b)) (child_edges level) in
      ap (λ n. nat_eq n 1) count
      ∙ once-from (count_by (same_edge half) (child_edges level)) (first_named-once half (child_sides level)) (count-some (same_edge half) (child_edges level) (half-listed b parts.0 parts.1))

  at-edges : list_all (λ b. has_end v b && is_side b) (edges_at level v) ≡ true
  at-edges = kept-both (has_end v) is_side (edges_of level.polygons) (sides-listed level.polygons)

  -- The edges at the point, with their other ends and their sharpness, are the halves of the edges.
  pub child-ends : (h : ℕ → Sharpness → ℤ)
      → sum_ℤ (λ a. h (other_end v a) (edge_sharpness_of (child_level level) a)) (edges_at (child_level level) v)
      ≡ sum_ℤ (λ b. h (point_of level b) (half_sharpness level b v)) (edges_at level v)
  child-ends h =
      sum-partners (λ a b. same_edge a (v, point_of level b)) (λ a. h (other_end v a) (edge_sharpness_of (child_level level) a))
      (λ b. h (point_of level b) (edge_sharpness_of (child_level level) (v, point_of level b))) (edges_at (child_level level) v) (edges_at level v)
      (λ a b same. ap (λ n. h n (edge_sharpness_of (child_level level) a)) (other-alike v (point_of level b) a same)
      ∙ ap (λ (n : ℕ). h (point_of level b) (get_or (child_level level).edge_sharpness n Smooth)) (position-alike a (v, point_of level b) (child_edges level) same))
      (all-weaker (λ a. has_end v a && is_child_side a) (λ a. is_once (λ b. same_edge a (v, point_of level b)) (edges_at level v)) half-once (edges_at (child_level level) v)
      (kept-both (has_end v) is_child_side (child_edges level) (sides-listed (child_level level).polygons)))
      (all-weaker (λ b. has_end v b && is_side b) (λ b. is_once (λ a. same_edge a (v, point_of level b)) (edges_at (child_level level) v)) listed-once (edges_at level v) at-edges)
      ∙ sum-agree (λ b. has_end v b && is_side b) (λ b. h (point_of level b) (edge_sharpness_of (child_level level) (v, point_of level b)))
      (λ b. h (point_of level b) (half_sharpness level b v)) (λ b is.
      let parts = and_parts (has_end v b) (is_side b) is in
      let named = (and_parts (is_edge level b) (is_inside level.point_count b) (listed-sound level.point_count level.polygons over b parts.1)).0 in
      ap (h (point_of level b)) (half-sharp level over b v named parts.0)) (edges_at level v) at-edges
