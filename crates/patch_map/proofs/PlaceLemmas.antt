-- Lists made item by item, searches for a place, and the descent to a leaf.
use Rattle.std.proofs.Common.{◌≡◌, ℕ, ◌+◌, ◌^◌, ◌<◌, ◌≤◌, Bool, true, false, nat_le, nat_lt, List, [], ◌∷◌, ◌++◌, length, get_or, map, Option, Some, None, if◌then◌else◌, arith, refl, ap, sym, ◌∙◌, subst}
use Rattle.std.specs.List.{All, position_or_len, range_with_len}
use Rattle.std.proofs.lemmas.Bool.Decides.{nat_tests}
use Rattle.std.proofs.Math.Nat.{pow-le-pow_right}
use Rattle.std.proofs.lemmas.List.FromFn.{map-range_with_len_more}
use Rattle.std.proofs.lemmas.List.Sums.{position_or_len_is, fails_before_first}
use Rattle.sparse_level.specs.View.{SparseTopology, IsSparseTopology}
use Rattle.patch_map.specs.Map.{Rises, first_at}

-- one more item, for a range of numbers
pub more-of-range : {X : Type 0} (made : ℕ → X) (n : ℕ) (now new : List X) (item : X) → now ≡ map made (range_with_len 0 n) → new ≡ now ++ item ∷ [] → item ≡ made n → new ≡ map made (range_with_len 0 (n + 1))
more-of-range made n now new item so put e =
    put ∙ ap (λ items. items ++ item ∷ []) so ∙ ap (λ x. map made (range_with_len 0 n) ++ x ∷ []) e ∙ sym (map-range_with_len_more made 0 n n (omega arith))

-- the search ends at the first number that is not below the start
pub place-found : (numbers : List ℕ) (from place start : ℕ) → from ≤ place → place ≤ length numbers → ((k : ℕ) → from ≤ k → k < place → get_or numbers k 0 < start)
    → (place < length numbers → start ≤ get_or numbers place 0) → ((k : ℕ) → k < from → get_or numbers k 0 < start) → place ≡ position_or_len (nat_le start) numbers
place-found numbers from place start low inside below ends before =
    sym (position_or_len_is (nat_le start) numbers place 0 inside (λ k h. fails k h (nat_lt k from) refl) (λ h. let high = ends h in passes high))
  where
    passes : start ≤ get_or numbers place 0 → nat_le start (get_or numbers place 0) ≡ true
    passes h = grind (arith, nat_tests)

    fails : (k : ℕ) → k < place → (b : Bool) → nat_lt k from ≡ b → nat_le start (get_or numbers k 0) ≡ false
    fails k h true e = let less = before k (grind (arith, nat_tests)) in grind (arith, nat_tests)
    fails k h false e = let less = below k (grind (arith, nat_tests)) h in grind (arith, nat_tests)

-- a number passed for a face is passed for each later face
pub passed-on : (starts numbers : List ℕ) (f place : ℕ) → Rises starts → f < length starts → place ≡ position_or_len (nat_le (get_or starts f 0)) numbers
    → (g k : ℕ) → f + 1 ≤ g → g < length starts → k < place → get_or numbers k 0 < get_or starts g 0
passed-on starts numbers f place rises inside e g k later exists low =
    let up = rises f g (omega (arith, later)) exists in
    let fails = fails_before_first (nat_le (get_or starts f 0)) numbers k 0 (omega (arith, low, e)) in
    let below = less (get_or starts f 0) (get_or numbers k 0) fails in
    omega (arith, below, up)
  where
    less : (a b : ℕ) → nat_le a b ≡ false → b < a
    less a b h = grind (arith, nat_tests)

-- the numbers of a sparse level are small
pub numbers-small : (t : SparseTopology) → IsSparseTopology t → (numbers : List ℕ) → numbers ≡ t.numbers → All (λ n. n < 2 ^ 60) numbers
numbers-small t is numbers e = subst (All (λ n. n < 2 ^ 60)) (sym e) (λ k d h.
    let below = is.small k d h in
    let power : 4 ^ t.depth ≤ 4 ^ 10 = pow-le-pow_right (omega arith) is.deep in
    omega (arith, below, power))

-- the place of the first child of a marked face
pub first-put : (selected : List Bool) (starts numbers : List ℕ) (f place : ℕ) (is_marked : Bool) (first : Option ℕ) → is_marked ≡ get_or selected f false → place ≡ position_or_len (nat_le (get_or starts f 0)) numbers
    → first ≡ (if is_marked then Some place else None) → first ≡ first_at selected starts numbers f
first-put selected starts numbers f place is_marked first e h is = is ∙ ap (λ b. if b then Some place else None) e ∙ ap (λ p. if get_or selected f false then Some p else None) h
