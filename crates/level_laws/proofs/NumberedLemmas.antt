-- Items listed for each edge or face in order, read by number.
use Rattle.std.proofs.Common.{◌≡◌, ℕ, ◌+◌, ◌<◌, Bool, true, false, List, [], ◌∷◌, length, map, get_or, arith, refl, ap, ◌∙◌, if◌then◌else◌}
use Rattle.std.specs.List.{list_any, position_or_len, enumerate_from}
use Rattle.std.proofs.Math.Numerals.{one-add}
use Rattle.subdiv_model.specs.Polygons.{Polygon, same_edge, polygon_at}
use Rattle.mesh_laws.proofs.ChildClosedLemmas.{numbered}

-- the item of an edge at its number, where equal edges have equal items; a pair that is no edge has the default
pub listed-at : {Y : Type 0} (f : ℕ × ℕ → Y) (d : Y) → ((s t : ℕ × ℕ) → same_edge s t ≡ true → f s ≡ f t)
    → (edge : ℕ × ℕ) (edges : List (ℕ × ℕ))
    → get_or (map f edges) (position_or_len (same_edge edge) edges) d ≡ (if list_any (same_edge edge) edges then f edge else d)
listed-at f d alike edge [] = refl
listed-at f d alike edge (e ∷ edges) = here (same_edge edge e) refl (listed-at f d alike edge edges)
  where
    here : (b : Bool) → same_edge edge e ≡ b
        → get_or (map f edges) (position_or_len (same_edge edge) edges) d ≡ (if list_any (same_edge edge) edges then f edge else d)
        → get_or (map f (e ∷ edges)) (position_or_len (same_edge edge) (e ∷ edges)) d ≡ (if list_any (same_edge edge) (e ∷ edges) then f edge else d)
    here true is after = let same = alike edge e is in rw (is, same) refl
    here false is after = rw (is, one-add) after

-- a face with its number
pub numbered-at : (polygons : List Polygon) (face : ℕ) → face < length polygons
    → get_or (enumerate_from 0 polygons) face (0, []) ≡ (face, polygon_at polygons face)
numbered-at polygons face inside =
    let number : 0 + face ≡ face = omega arith in
    numbered 0 face [] polygons inside ∙ ap (λ (n : ℕ). (n, polygon_at polygons face)) number
