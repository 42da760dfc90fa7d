-- The quads of a sheet: their corners and sides, and which row and column these give.
use Rattle.std.proofs.Common.{◌≡◌, ℕ, ◌+◌, ◌<◌, ◌≤◌, true, false, nat_eq, [], ◌∷◌, arith, ◌⊎◌, inl, inr}
use Rattle.std.proofs.lemmas.Nat.{same_from_place}
use Rattle.std.proofs.lemmas.Bool.Decides.{nat_tests}
use Rattle.std.proofs.lemmas.Bool.{or_cases, eqb-true}
use Rattle.subdiv_model.specs.Polygons.{has_side, has_corner}
use Rattle.subdiv_model.specs.Manifold.{is_simple}
use Rattle.subdiv_model.specs.Generator.{sheet_point, sheet_quad}

-- four ascending corners, the last two exchanged, are distinct
ascending-simple : (a b c d : ℕ) → a < b → b < d → d < c → is_simple (a ∷ b ∷ c ∷ d ∷ []) ≡ true
ascending-simple a b c d p q r = grind (arith, nat_tests)

-- a quad of a sheet is simple
pub quad-simple : (size i j : ℕ) → 0 < size → is_simple (sheet_quad size i j) ≡ true
quad-simple size i j some = ascending-simple (sheet_point size i j) (sheet_point size i (j + 1)) (sheet_point size (i + 1) (j + 1)) (sheet_point size (i + 1) j) (omega arith) (omega arith) (omega arith)

-- each corner of a quad has a side to the next one
pub quad-sides : (size i j : ℕ) → (has_side (sheet_point size i j, sheet_point size i (j + 1)) (sheet_quad size i j) ≡ true) × (has_side (sheet_point size i (j + 1), sheet_point size (i + 1) (j + 1)) (sheet_quad size i j) ≡ true) × (has_side (sheet_point size (i + 1) (j + 1), sheet_point size (i + 1) j) (sheet_quad size i j) ≡ true) × (has_side (sheet_point size (i + 1) j, sheet_point size i j) (sheet_quad size i j) ≡ true)
quad-sides size i j = (grind (arith, nat_tests), grind (arith, nat_tests), grind (arith, nat_tests), grind (arith, nat_tests))

-- the row and the column r and c of a point are those of a quad's row and column i and j, or the next ones
abbrev pub Touches : ℕ → ℕ → ℕ → ℕ → Type 0
Touches r c i j = ((r ≡ i) ⊎ (r ≡ i + 1)) × ((c ≡ j) ⊎ (c ≡ j + 1))

-- a corner of a quad gives its row and column
pub corner-touches : (size r c i j : ℕ) → c < size + 1 → j < size → has_corner (sheet_point size r c) (sheet_quad size i j) ≡ true → Touches r c i j
corner-touches size r c i j p q h = first (or_cases _ _ h)
  where
    at : (k l : ℕ) → l < size + 1 → nat_eq (sheet_point size r c) (sheet_point size k l) ≡ true → (r ≡ k) × (c ≡ l)
    at k l inside e = same_from_place r c k l (size + 1) p inside (eqb-true _ _ e)

    fourth : (nat_eq (sheet_point size r c) (sheet_point size (i + 1) j) ≡ true) ⊎ (false ≡ true) → Touches r c i j
    fourth (inl e) = let is = at (i + 1) j (omega arith) e in (inr is.0, inl is.1)
    fourth (inr e) = absurd (cc)

    third : (nat_eq (sheet_point size r c) (sheet_point size (i + 1) (j + 1)) ≡ true) ⊎ (has_corner (sheet_point size r c) (sheet_point size (i + 1) j ∷ []) ≡ true) → Touches r c i j
    third (inl e) = let is = at (i + 1) (j + 1) (omega arith) e in (inr is.0, inr is.1)
    third (inr e) = fourth (or_cases _ _ e)

    second : (nat_eq (sheet_point size r c) (sheet_point size i (j + 1)) ≡ true) ⊎ (has_corner (sheet_point size r c) (sheet_point size (i + 1) (j + 1) ∷ sheet_point size (i + 1) j ∷ []) ≡ true) → Touches r c i j
    second (inl e) = let is = at i (j + 1) (omega arith) e in (inl is.0, inr is.1)
    second (inr e) = third (or_cases _ _ e)

    first : (nat_eq (sheet_point size r c) (sheet_point size i j) ≡ true) ⊎ (has_corner (sheet_point size r c) (sheet_point size i (j + 1) ∷ sheet_point size (i + 1) (j + 1) ∷ sheet_point size (i + 1) j ∷ []) ≡ true) → Touches r c i j
    first (inl e) = let is = at i j (omega arith) e in (inl is.0, inl is.1)
    first (inr e) = second (or_cases _ _ e)

-- the side is one of the four of the quad that begins at the point x, where a row has w points
abbrev IsSideFrom : ℕ → ℕ → ℕ × ℕ → Type 0
IsSideFrom w x s = ((s.0 ≡ x) × (s.1 ≡ x + 1)) ⊎ (((s.0 ≡ x + 1) × (s.1 ≡ x + 1 + w)) ⊎ (((s.0 ≡ x + w + 1) × (s.1 ≡ x + w)) ⊎ ((s.0 ≡ x + w) × (s.1 ≡ x))))

-- the direction of a side gives which of the four it is, and so the point
from-one : (w x y : ℕ) (s : ℕ × ℕ) → 2 ≤ w → IsSideFrom w x s → IsSideFrom w y s → x ≡ y
from-one w x y s wide p q = omega arith

-- the sides of a quad are the four of its first point
side-from : (size i j : ℕ) (s : ℕ × ℕ) → has_side s (sheet_quad size i j) ≡ true → IsSideFrom (size + 1) (sheet_point size i j) s
side-from size i j s h = grind (arith, nat_tests)

-- a side of two quads makes them one
pub side-owner : (size i j k l : ℕ) (s : ℕ × ℕ) → 0 < size → j < size → l < size → has_side s (sheet_quad size i j) ≡ true → has_side s (sheet_quad size k l) ≡ true → (i ≡ k) × (j ≡ l)
side-owner size i j k l s some p q h m =
    same_from_place i j k l (size + 1) (omega arith) (omega arith) (from-one (size + 1) (sheet_point size i j) (sheet_point size k l) s (omega arith) (side-from size i j s h) (side-from size k l s m))
