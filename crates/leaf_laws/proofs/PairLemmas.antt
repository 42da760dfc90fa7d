-- The pairs of a quad and those of its children.
use Rattle.std.proofs.Common.{◌≡◌, ℕ, zero, suc, ◌*◌, ◌<◌, ◌≤◌, Bool, true, false, nat_eq, nat_le, List, [], ◌∷◌, get_or, arith, refl, ap, ◌∙◌}
use Rattle.std.specs.List.{filter, list_any, range_with_len}
use Rattle.std.proofs.lemmas.Bool.{and_parts, leb-true, or_right}
use Rattle.std.proofs.lemmas.Bool.Decides.{nat_tests}
use Rattle.subdiv_model.specs.Polygons.{is_among}
use Rattle.subdiv_model.specs.Leaf.{has_pair, in_child}
use Rattle.leaf_laws.specs.FirstLeaf.{first_with}

among-first : (x : ℕ) (xs : List ℕ) → is_among (x ∷ xs) x ≡ true
among-first x xs = let same : nat_eq x x ≡ true = grind (arith, nat_tests) in rw same refl

-- the kept items of a list, if any, begin with one that passes
pub record Begins (test : ℕ → Bool) (xs : List ℕ) : Type 0 where
  pub rest : List ℕ
  pub kept : filter test xs ≡ get_or (filter test xs) 0 0 ∷ rest
  pub passes : test (get_or (filter test xs) 0 0) ≡ true
  pub there : is_among xs (get_or (filter test xs) 0 0) ≡ true

pub kept-begins : (test : ℕ → Bool) (xs : List ℕ) → list_any test xs ≡ true → Begins test xs
kept-begins test [] h = absurd (cc)
kept-begins test (x ∷ xs) h = go (test x) refl (kept-begins test xs)
  where
    go : (b : Bool) → test x ≡ b → (list_any test xs ≡ true → Begins test xs) → Begins test (x ∷ xs)
    go true e rest =
        let first : get_or (filter test (x ∷ xs)) 0 0 ≡ x = rw e refl in
        record { rest = filter test xs; kept = rw e refl; passes = ap test first ∙ e; there = ap (is_among (x ∷ xs)) first ∙ among-first x xs }
    go false e rest =
        let behind = rest (rw e at h) in
        let same : filter test (x ∷ xs) ≡ filter test xs = rw e refl in
        record {
          rest = behind.rest;
          kept = rw e behind.kept;
          passes = rw e behind.passes;
          there = ap (λ ns. is_among (x ∷ xs) (get_or ns 0 0)) same ∙ or_right (nat_eq (get_or (filter test xs) 0 0) x) _ behind.there;
        }

-- some child of a quad has the pair
some-child : (grid s t : ℕ) → s ≤ grid → t ≤ grid → list_any (has_pair grid (s, t)) (range_with_len 0 4) ≡ true
some-child grid s t h k = grind (arith, nat_tests)

pub first-with : (grid s t : ℕ) → s ≤ grid → t ≤ grid → Begins (has_pair grid (s, t)) (range_with_len 0 4)
first-with grid s t h k = kept-begins (has_pair grid (s, t)) (range_with_len 0 4) (some-child grid s t h k)

pub first-below : (grid s t : ℕ) → s ≤ grid → t ≤ grid → first_with grid (s, t) < 4
first-below grid s t h k = within (first_with grid (s, t)) (first-with grid s t h k).there
  where
    within : (c : ℕ) → is_among (range_with_len 0 4) c ≡ true → c < 4
    within c h = grind (arith, nat_tests)

-- a pair that a child has lies there on the grid
pub child-within : (grid c s t : ℕ) → s ≤ grid → t ≤ grid → has_pair grid (s, t) c ≡ true → ((in_child grid (s, t) c).0 ≤ grid) × ((in_child grid (s, t) c).1 ≤ grid)
child-within grid zero s t h k is = let parts = and_parts (nat_le (2 * s) grid) (nat_le (2 * t) grid) is in (leb-true _ _ parts.0, leb-true _ _ parts.1)
child-within grid (suc zero) s t h k is =
    let parts = and_parts (nat_le grid (2 * s)) (nat_le (2 * t) grid) is in
    let far = leb-true grid (2 * s) parts.0 in
    (leb-true _ _ parts.1, omega (arith, h, far))
child-within grid (suc (suc zero)) s t h k is =
    let parts = and_parts (nat_le grid (2 * s)) (nat_le grid (2 * t)) is in
    let far = leb-true grid (2 * s) parts.0 in
    let up = leb-true grid (2 * t) parts.1 in
    (omega (arith, h, far), omega (arith, k, up))
child-within grid (suc (suc (suc c))) s t h k is =
    let parts = and_parts (nat_le (2 * s) grid) (nat_le grid (2 * t)) is in
    let up = leb-true grid (2 * t) parts.1 in
    (omega (arith, k, up), leb-true _ _ parts.0)
