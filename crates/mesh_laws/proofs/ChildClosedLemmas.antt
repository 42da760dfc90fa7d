-- The child level of a closed manifold is closed: each of its sides occurs once, and once the other way.
use Rattle.std.proofs.Common.{◌≡◌, ℕ, zero, suc, ◌+◌, ◌<◌, ◌≤◌, Bool, true, false, ◌&&◌, nat_eq, List, [], ◌∷◌, length, get_or, arith, refl, ap, sym, ◌∙◌, ◌⊎◌, inl, inr, subst}
use Rattle.std.specs.List.{list_any, list_all, sum_by, count_by, enumerate_from}
use Rattle.std.proofs.lemmas.Bool.Decides.{nat_tests}
use Rattle.std.proofs.lemmas.Bool.{and_parts, and_from, eqb-true, eq-eqb}
use Rattle.std.proofs.lemmas.List.Folds.{list_any_at}
use Rattle.subdiv_model.specs.Polygons.{Polygon, same_side, same_edge, sides_of, polygon_at, is_over, has_distinct_sides}
use Rattle.subdiv_model.specs.Edges.{all_sides, edges_of, is_closed, reversed, times_used, goes_both_ways}
use Rattle.subdiv_model.specs.Manifold.{is_simple}
use Rattle.subdiv_model.specs.Child.{edge_point, face_point, child_polygons}
use Rattle.number_laws.proofs.CountLemmas.{one_if, count-some, sum-place, all-flat_map}
use Rattle.mesh_laws.proofs.SideLemmas.{same_side-refl, polygon-edge-count}
use Rattle.mesh_laws.proofs.EdgeLemmas.{position-alike, any-alike}
use Rattle.mesh_laws.proofs.ChildLemmas.{count_four, child-count-from}
use Rattle.mesh_laws.proofs.ChildCountLemmas.{is_inside, is_named, times-out, times-in, times-toward, times-away}
use Rattle.mesh_laws.proofs.ChildFaceLemmas.{is_sound, sound-sides, all-child, child-simple}
use Rattle.mesh_laws.proofs.ClosedLemmas.{any-here, all-at, closed-times, both-closed, sides-pass, any-side-edge}

pub numbered : {X : Type 0} (place k : ℕ) (d : X) (xs : List X) → k < length xs → get_or (enumerate_from place xs) k (0, d) ≡ (place + k, get_or xs k d)
numbered place k d [] h = absurd (omega arith)
numbered place zero d (x ∷ xs) h = let e : place ≡ place + 0 = omega arith in ap (λ n. (n, x)) e
numbered place (suc k) d (x ∷ xs) h =
    let e : place + 1 + k ≡ place + suc k = omega arith in
    numbered (place + 1) k d xs (omega arith) ∙ ap (λ n. (n, get_or xs k d)) e

pub numbered-length : {X : Type 0} (place : ℕ) (xs : List X) → length (enumerate_from place xs) ≡ length xs
numbered-length place [] = refl
numbered-length place (x ∷ xs) = ap suc (numbered-length (place + 1) xs)

one-passes : (p q r s : Bool) → 1 ≤ (one_if p + one_if q) + (one_if r + one_if s) → (p ≡ true) ⊎ ((q ≡ true) ⊎ ((r ≡ true) ⊎ (s ≡ true)))
one-passes true q r s h = inl refl
one-passes false true r s h = inr (inl refl)
one-passes false false true s h = inr (inr (inl refl))
one-passes false false false true h = inr (inr (inr refl))
one-passes false false false false h = absurd (omega arith)

-- equal sides are the same pair
pub same-pair : (t s : ℕ × ℕ) → same_side t s ≡ true → t ≡ s
same-pair t s h =
    let parts = and_parts (nat_eq t.0 s.0) (nat_eq t.1 s.1) h in
    ap (λ (n : ℕ). (n, t.1)) (eqb-true _ _ parts.0) ∙ ap (λ (n : ℕ). (s.0, n)) (eqb-true _ _ parts.1)

pub back-inside : (points : ℕ) (s : ℕ × ℕ) → is_inside points s ≡ true → is_inside points (s.1, s.0) ≡ true
back-inside points s h = grind (arith, nat_tests)

pub back-edge : (s : ℕ × ℕ) → same_edge s (s.1, s.0) ≡ true
back-edge s = grind (arith, nat_tests)

module _ (points : ℕ) (polygons : List Polygon) (over : is_over points polygons ≡ true) (simple : list_all is_simple polygons ≡ true) where
  abbrev pub Both : List Polygon → ℕ × ℕ → Type 0
  Both list t = (times_used list t ≡ 1) × (times_used list (reversed t) ≡ 1)

  -- where a side of the child level comes from
  origin : (t : ℕ × ℕ) → list_any (same_side t) (all_sides (child_polygons points polygons)) ≡ true → (k : ℕ) × (k < length polygons) × ((i : ℕ) × (i < length (sides_of (polygon_at polygons k))) × (1 ≤ count_four points polygons (same_side t) k (get_or (sides_of (polygon_at polygons k)) i (0, 0))))
  origin t there =
      let some : 1 ≤ times_used (child_polygons points polygons) t = count-some (same_side t) (all_sides (child_polygons points polygons)) there in
      let counted = child-count-from points polygons (same_side t) 0 polygons in
      let face : (k : ℕ) × (k < length (enumerate_from 0 polygons)) × (1 ≤ sum_by (count_four points polygons (same_side t) (get_or (enumerate_from 0 polygons) k (0, [])).0) (sides_of (get_or (enumerate_from 0 polygons) k (0, [])).1)) = sum-place (λ (f : ℕ × Polygon). sum_by (count_four points polygons (same_side t) f.0) (sides_of f.1)) (0, []) (enumerate_from 0 polygons) (omega (arith, counted, some)) in
      let inside : face.0 < length polygons = omega (arith, face.1, numbered-length 0 polygons) in
      let number : 0 + face.0 ≡ face.0 = omega arith in
      let same : get_or (enumerate_from 0 polygons) face.0 (0, []) ≡ (face.0, polygon_at polygons face.0) = numbered 0 face.0 [] polygons inside ∙ ap (λ (n : ℕ). (n, polygon_at polygons face.0)) number in
      let sum : 1 ≤ sum_by (count_four points polygons (same_side t) face.0) (sides_of (polygon_at polygons face.0)) = subst (λ (f : ℕ × Polygon). 1 ≤ sum_by (count_four points polygons (same_side t) f.0) (sides_of f.1)) same face.2 in
      let side = sum-place (count_four points polygons (same_side t) face.0) (0, 0) (sides_of (polygon_at polygons face.0)) sum in
      (face.0, inside, side)

  -- the point of an edge, whichever way the edge goes
  pub back-point : (s : ℕ × ℕ) → edge_point points polygons (s.1, s.0) ≡ edge_point points polygons s
  back-point s = ap (λ n. points + length polygons + n) (sym (position-alike s (s.1, s.0) (edges_of polygons) (back-edge s)))

  back-named : (s : ℕ × ℕ) → is_named points polygons s ≡ true → is_named points polygons (s.1, s.0) ≡ true
  back-named s h = any-alike s (s.1, s.0) (edges_of polygons) (back-edge s) h

  -- the side s of the face k
  abbrev pub Within : ℕ → ℕ × ℕ → Type 0
  Within k s = (k < length polygons) × (list_any (same_side s) (sides_of (polygon_at polygons k)) ≡ true) × (is_named points polygons s ≡ true) × (is_inside points s ≡ true)

  -- a face has the edge of its side once
  pub once : (k : ℕ) (s : ℕ × ℕ) → Within k s → count_by (same_edge s) (sides_of (polygon_at polygons k)) ≡ 1
  once k s w =
      let most = polygon-edge-count (polygon_at polygons k) s (all-at is_simple polygons k [] w.0 simple) in
      let least = count-some (same_edge s) (sides_of (polygon_at polygons k)) (any-side-edge s (sides_of (polygon_at polygons k)) w.1) in
      omega arith

  -- a place on the sides of a face gives a side of it
  within-place : (k i : ℕ) → k < length polygons → i < length (sides_of (polygon_at polygons k)) → Within k (get_or (sides_of (polygon_at polygons k)) i (0, 0))
  within-place k i inside at =
      let s : ℕ × ℕ = get_or (sides_of (polygon_at polygons k)) i (0, 0) in
      let here : list_any (same_side s) (sides_of (polygon_at polygons k)) ≡ true = list_any_at (same_side s) (sides_of (polygon_at polygons k)) i (0, 0) at (same_side-refl s) in
      let face : list_all (is_sound points polygons) (sides_of (polygon_at polygons k)) ≡ true = all-at (λ p. list_all (is_sound points polygons) (sides_of p)) polygons k [] inside (sym (all-flat_map (is_sound points polygons) sides_of polygons) ∙ sound-sides points polygons over) in
      let sound : is_sound points polygons s ≡ true = all-at (is_sound points polygons) (sides_of (polygon_at polygons k)) i (0, 0) at face in
      let parts = and_parts (is_named points polygons s) (is_inside points s) sound in
      (inside, here, parts.0, parts.1)

  -- one of the four sides that the side s of the face k gives
  abbrev pub IsOfFour : ℕ → ℕ × ℕ → ℕ × ℕ → Type 0
  IsOfFour k s t = (same_side t (s.0, edge_point points polygons s) ≡ true) ⊎ ((same_side t (edge_point points polygons s, face_point points k) ≡ true) ⊎ ((same_side t (face_point points k, edge_point points polygons s) ≡ true) ⊎ (same_side t (edge_point points polygons s, s.1) ≡ true)))

  -- each side of the child level is one of the four of a side of a face
  pub source : (t : ℕ × ℕ) → list_any (same_side t) (all_sides (child_polygons points polygons)) ≡ true → (k : ℕ) × (s : ℕ × ℕ) × Within k s × IsOfFour k s t
  source t there =
      let from = origin t there in
      (from.0, get_or (sides_of (polygon_at polygons from.0)) from.2.0 (0, 0), within-place from.0 from.2.0 from.1 from.2.1, one-passes _ _ _ _ from.2.2)

  module _ (both : (a : ℕ × ℕ) → list_any (same_side a) (all_sides polygons) ≡ true → Both polygons a) where
    -- each of the four sides that a side of a face gives goes both ways
    both-out : (k : ℕ) (s : ℕ × ℕ) → Within k s → Both (child_polygons points polygons) (s.0, edge_point points polygons s)
    both-out k s w =
        let base = both s (any-here (same_side s) polygons k w.1) in
        let other = times-in points polygons over (s.1, s.0) (back-named s w.2) (back-inside points s w.3) in
        (times-out points polygons over s w.2 w.3 ∙ base.0, ap (λ (n : ℕ). times_used (child_polygons points polygons) (n, s.0)) (sym (back-point s)) ∙ other ∙ base.1)

    both-in : (k : ℕ) (s : ℕ × ℕ) → Within k s → Both (child_polygons points polygons) (edge_point points polygons s, s.1)
    both-in k s w =
        let base = both s (any-here (same_side s) polygons k w.1) in
        let other = times-out points polygons over (s.1, s.0) (back-named s w.2) (back-inside points s w.3) in
        (times-in points polygons over s w.2 w.3 ∙ base.0, ap (λ (n : ℕ). times_used (child_polygons points polygons) (s.1, n)) (sym (back-point s)) ∙ other ∙ base.1)

    both-toward : (k : ℕ) (s : ℕ × ℕ) → Within k s → Both (child_polygons points polygons) (edge_point points polygons s, face_point points k)
    both-toward k s w = (times-toward points polygons over s k w.2 w.0 ∙ once k s w, times-away points polygons over s k w.2 w.0 ∙ once k s w)

    both-away : (k : ℕ) (s : ℕ × ℕ) → Within k s → Both (child_polygons points polygons) (face_point points k, edge_point points polygons s)
    both-away k s w = (times-away points polygons over s k w.2 w.0 ∙ once k s w, times-toward points polygons over s k w.2 w.0 ∙ once k s w)

    at-same : (t s : ℕ × ℕ) → same_side t s ≡ true → Both (child_polygons points polygons) s → Both (child_polygons points polygons) t
    at-same t s h b = let P : ℕ × ℕ → Type 0 = λ p. Both (child_polygons points polygons) p in subst P (sym (same-pair t s h)) b

    four-both : (k : ℕ) (s t : ℕ × ℕ) → Within k s → IsOfFour k s t → Both (child_polygons points polygons) t
    four-both k s t w (inl h) = at-same t _ h (both-out k s w)
    four-both k s t w (inr (inl h)) = at-same t _ h (both-toward k s w)
    four-both k s t w (inr (inr (inl h))) = at-same t _ h (both-away k s w)
    four-both k s t w (inr (inr (inr h))) = at-same t _ h (both-in k s w)

    -- each side of the child level goes both ways
    pub child-both : (t : ℕ × ℕ) → list_any (same_side t) (all_sides (child_polygons points polygons)) ≡ true → Both (child_polygons points polygons) t
    child-both t there = let from = source t there in four-both from.0 from.1 t from.2 from.3

-- the child level of a closed manifold is closed, and goes both ways at each edge
pub child-closed : (points : ℕ) (polygons : List Polygon) → is_over points polygons ≡ true → list_all is_simple polygons ≡ true → has_distinct_sides (all_sides polygons) ≡ true → is_closed polygons ≡ true → (goes_both_ways (child_polygons points polygons) ≡ true) × (is_closed (child_polygons points polygons) ≡ true)
child-closed points polygons over simple distinct closed =
    let both = child-both points polygons over simple (closed-times polygons simple distinct closed) in
    let simples = child-simple points polygons (child_polygons points polygons) (all-child points polygons over simple) in (
      sides-pass (λ side. nat_eq (times_used (child_polygons points polygons) side) 1 && nat_eq (times_used (child_polygons points polygons) (reversed side)) 1) (child_polygons points polygons) (λ a there.
          let times = both a there in
          and_from _ _ (eq-eqb _ _ times.0) (eq-eqb _ _ times.1)),
      both-closed (child_polygons points polygons) simples both,
    )
