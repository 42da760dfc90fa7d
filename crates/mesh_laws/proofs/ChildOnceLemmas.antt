-- The child level of simple polygons whose sides are distinct has distinct sides.
use Rattle.std.proofs.Common.{◌≡◌, ℕ, ◌≤◌, Bool, true, false, List, arith, refl, sym, inl, inr, subst}
use Rattle.std.specs.List.{list_any, list_all}
use Rattle.subdiv_model.specs.Polygons.{Polygon, same_side, is_over, has_distinct_sides}
use Rattle.subdiv_model.specs.Edges.{all_sides, times_used}
use Rattle.subdiv_model.specs.Manifold.{is_simple}
use Rattle.subdiv_model.specs.Child.{child_polygons}
use Rattle.number_laws.proofs.CountLemmas.{count-none}
use Rattle.mesh_laws.proofs.SideLemmas.{distinct-count, distinct-from_count}
use Rattle.mesh_laws.proofs.ChildCountLemmas.{times-out, times-in, times-toward, times-away}
use Rattle.mesh_laws.proofs.ChildClosedLemmas.{same-pair, Within, IsOfFour, once, source}

module _ (points : ℕ) (polygons : List Polygon) (over : is_over points polygons ≡ true) (simple : list_all is_simple polygons ≡ true) (distinct : has_distinct_sides (all_sides polygons) ≡ true) where
  -- a side that is used at most once is used at most once under an equal name
  at-most : (t s : ℕ × ℕ) → same_side t s ≡ true → times_used (child_polygons points polygons) s ≤ 1 → times_used (child_polygons points polygons) t ≤ 1
  at-most t s h most = let P : ℕ × ℕ → Type 0 = λ p. times_used (child_polygons points polygons) p ≤ 1 in subst P (sym (same-pair t s h)) most

  -- each of the four sides that a side of a face gives occurs once at most
  four-once : (k : ℕ) (s t : ℕ × ℕ) → Within points polygons over simple k s → IsOfFour points polygons over simple k s t → times_used (child_polygons points polygons) t ≤ 1
  four-once k s t w (inl h) = at-most t _ h (omega (arith, times-out points polygons over s w.2 w.3, distinct-count s (all_sides polygons) distinct))
  four-once k s t w (inr (inl h)) = at-most t _ h (omega (arith, times-toward points polygons over s k w.2 w.0, once points polygons over simple k s w))
  four-once k s t w (inr (inr (inl h))) = at-most t _ h (omega (arith, times-away points polygons over s k w.2 w.0, once points polygons over simple k s w))
  four-once k s t w (inr (inr (inr h))) = at-most t _ h (omega (arith, times-in points polygons over s w.2 w.3, distinct-count s (all_sides polygons) distinct))

  -- each side of the child level occurs once at most
  pub child-times : (t : ℕ × ℕ) → times_used (child_polygons points polygons) t ≤ 1
  child-times t = go (list_any (same_side t) (all_sides (child_polygons points polygons))) refl
    where
      go : (b : Bool) → list_any (same_side t) (all_sides (child_polygons points polygons)) ≡ b → times_used (child_polygons points polygons) t ≤ 1
      go false e = omega (arith, count-none (same_side t) (all_sides (child_polygons points polygons)) e)
      go true e = let from = source points polygons over simple t e in four-once from.0 from.1 t from.2 from.3

  -- no side of the child level occurs twice
  pub child-distinct : has_distinct_sides (all_sides (child_polygons points polygons)) ≡ true
  child-distinct = distinct-from_count (all_sides (child_polygons points polygons)) child-times
