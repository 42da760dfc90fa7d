-- Sides that occur once at most, since each has one polygon.
use Rattle.std.proofs.Common.{◌≡◌, ℕ, zero, suc, ◌+◌, ◌≤◌, Bool, true, false, nat_le, List, [], ◌∷◌, length, arith, refl}
use Rattle.std.specs.List.{list_any, list_all, count_by}
use Rattle.std.proofs.lemmas.Bool.{and_parts, false_from_ne_true}
use Rattle.subdiv_model.specs.Polygons.{Polygon, same_side, sides_of, has_side, is_distinct, polygon_at}
use Rattle.subdiv_model.specs.Edges.{all_sides}
use Rattle.subdiv_model.specs.Manifold.{is_simple}
use Rattle.number_laws.proofs.CountLemmas.{count-append, count-none}
use Rattle.mesh_laws.proofs.SideLemmas.{polygon-side-count}
use Rattle.mesh_laws.proofs.ClosedLemmas.{any-place}

-- a side that no two polygons share
abbrev pub HasOneOwner : List Polygon → ℕ × ℕ → Type 0
HasOneOwner polygons s = (f g : ℕ) → has_side s (polygon_at polygons f) ≡ true → has_side s (polygon_at polygons g) ≡ true → f ≡ g

-- a side occurs at most once among simple polygons
pub owner-count : (s : ℕ × ℕ) (polygons : List Polygon) → list_all is_simple polygons ≡ true → HasOneOwner polygons s → count_by (same_side s) (all_sides polygons) ≤ 1
owner-count s [] simple one = omega arith
owner-count s (polygon ∷ polygons) simple one =
    let parts = and_parts (is_simple polygon) (list_all is_simple polygons) simple in
    let both = count-append (same_side s) (sides_of polygon) (all_sides polygons) in
    here (has_side s polygon) refl parts.0 both (owner-count s polygons parts.1 (λ f g h k. let same = one (suc f) (suc g) h k in omega (arith, same)))
  where
    here : (b : Bool) → has_side s polygon ≡ b → is_simple polygon ≡ true → count_by (same_side s) (all_sides (polygon ∷ polygons)) ≡ count_by (same_side s) (sides_of polygon) + count_by (same_side s) (all_sides polygons) → count_by (same_side s) (all_sides polygons) ≤ 1 → count_by (same_side s) (all_sides (polygon ∷ polygons)) ≤ 1
    here true e proper both behind =
        let none : list_any (same_side s) (all_sides polygons) ≡ false = false_from_ne_true _ (λ there.
        let found = any-place (same_side s) polygons there in
        let same : zero ≡ suc found.0 = one zero (suc found.0) e found.2 in
        omega (arith, same)) in
        omega (arith, both, polygon-side-count polygon s (and_parts (nat_le 3 (length polygon)) (is_distinct polygon) proper).1, count-none (same_side s) (all_sides polygons) none)
    here false e proper both behind = omega (arith, both, behind, count-none (same_side s) (sides_of polygon) e)
