-- Pairs on the border of a quad, and pairs that two of its children have.
use Rattle.std.proofs.Common.{◌≡◌, ◌≢◌, ℕ, zero, suc, ◌*◌, ◌≤◌, ◌<◌, Bool, true, ◌||◌, nat_eq, arith, refl}
use Rattle.std.proofs.lemmas.Bool.Decides.{nat_tests}
use Rattle.subdiv_model.specs.Leaf.{in_child, has_pair}
use Rattle.leaf_laws.specs.Paths.{is_on_border}

-- a pair on the border of the quad is on the border of each child that has it
pub border-child : (grid c s t : ℕ) → s ≤ grid → t ≤ grid → has_pair grid (s, t) c ≡ true → is_on_border grid (s, t) ≡ true → is_on_border grid (in_child grid (s, t) c) ≡ true
border-child grid zero s t h k is on = grind (arith, nat_tests)
border-child grid (suc zero) s t h k is on = grind (arith, nat_tests)
border-child grid (suc (suc zero)) s t h k is on = grind (arith, nat_tests)
border-child grid (suc (suc (suc c))) s t h k is on = grind (arith, nat_tests)

-- the pair is on one of the two lines between the children
abbrev is_middle : ℕ → ℕ → ℕ → Bool
is_middle grid s t = nat_eq (2 * s) grid || nat_eq (2 * t) grid

-- a pair on a line between the children is on the border of each child that has it
middle-child : (grid c s t : ℕ) → s ≤ grid → t ≤ grid → has_pair grid (s, t) c ≡ true → is_middle grid s t ≡ true → is_on_border grid (in_child grid (s, t) c) ≡ true
middle-child grid zero s t h k is on = grind (arith, nat_tests)
middle-child grid (suc zero) s t h k is on = grind (arith, nat_tests)
middle-child grid (suc (suc zero)) s t h k is on = grind (arith, nat_tests)
middle-child grid (suc (suc (suc c))) s t h k is on = grind (arith, nat_tests)

two-children : (grid c d s t : ℕ) → c < 4 → d < 4 → c ≢ d → has_pair grid (s, t) c ≡ true → has_pair grid (s, t) d ≡ true → is_middle grid s t ≡ true
two-children grid zero zero s t low high apart one two = absurd (apart refl)
two-children grid zero (suc zero) s t low high apart one two = grind (arith, nat_tests)
two-children grid zero (suc (suc zero)) s t low high apart one two = grind (arith, nat_tests)
two-children grid zero (suc (suc (suc d))) s t low high apart one two = grind (arith, nat_tests)
two-children grid (suc zero) zero s t low high apart one two = grind (arith, nat_tests)
two-children grid (suc zero) (suc zero) s t low high apart one two = absurd (apart refl)
two-children grid (suc zero) (suc (suc zero)) s t low high apart one two = grind (arith, nat_tests)
two-children grid (suc zero) (suc (suc (suc d))) s t low high apart one two = grind (arith, nat_tests)
two-children grid (suc (suc zero)) zero s t low high apart one two = grind (arith, nat_tests)
two-children grid (suc (suc zero)) (suc zero) s t low high apart one two = grind (arith, nat_tests)
two-children grid (suc (suc zero)) (suc (suc zero)) s t low high apart one two = absurd (apart refl)
two-children grid (suc (suc zero)) (suc (suc (suc d))) s t low high apart one two = grind (arith, nat_tests)
two-children grid (suc (suc (suc c))) zero s t low high apart one two = grind (arith, nat_tests)
two-children grid (suc (suc (suc c))) (suc zero) s t low high apart one two = grind (arith, nat_tests)
two-children grid (suc (suc (suc c))) (suc (suc zero)) s t low high apart one two = grind (arith, nat_tests)
two-children grid (suc (suc (suc c))) (suc (suc (suc d))) s t low high apart one two = absurd (apart (let e : suc (suc (suc c)) ≡ suc (suc (suc d)) = omega (arith, low, high) in e))

pub shared-border : (grid c d s t : ℕ) → s ≤ grid → t ≤ grid → c < 4 → d < 4 → c ≢ d → has_pair grid (s, t) c ≡ true → has_pair grid (s, t) d ≡ true
    → is_on_border grid (in_child grid (s, t) c) ≡ true
shared-border grid c d s t h k low high apart one two = middle-child grid c s t h k one (two-children grid c d s t low high apart one two)
