-- Ascending numbers below a bound, among all numbers below it.
use Rattle.std.proofs.Common.{◌≡◌, ℕ, zero, suc, ◌+◌, ◌<◌, ◌≤◌, Bool, true, false, nat_eq, List, [], ◌∷◌, ◌++◌, get_or, arith, refl, ap, sym, ◌∙◌, subst, ◌⊎◌, inl, inr}
use Rattle.std.specs.List.{All, AllPairs, filter, flat_map, range_with_len}
use Rattle.std.specs.List.Sorted.{IsStrictlyIncreasing}
use Rattle.std.proofs.lemmas.Bool.{cases_lt, false_from_ne_true}
use Rattle.std.proofs.lemmas.Bool.Decides.{nat_tests}
use Rattle.std.proofs.lemmas.List.Kept.{AllPairs-from_increasing}
use Rattle.subdiv_model.specs.Polygons.{is_among}

-- the numbers ascend from `a` on, and end before `b`
abbrev pub Ascends : ℕ → ℕ → List ℕ → Type 0
Ascends a b [] = Unit {0}
Ascends a b (n ∷ ns) = (a ≤ n) × (n < b) × Ascends (n + 1) b ns

from-pairs : (a b : ℕ) (ns : List ℕ) → AllPairs (λ x y. x < y) ns → All (λ n. a ≤ n) ns → All (λ n. n < b) ns → Ascends a b ns
from-pairs a b [] up low high = tt
from-pairs a b (n ∷ ns) up low high = (
  low 0 0 (omega arith),
  high 0 0 (omega arith),
  from-pairs (n + 1) b ns (λ i j d l k. up (suc i) (suc j) d (omega arith) (omega arith))
      (λ k d l. let above : n < get_or ns k d = up 0 (suc k) d (omega arith) (omega arith) in omega arith)
      (λ k d l. high (suc k) d (omega arith)),
)

pub ascends : (b : ℕ) (ns : List ℕ) → IsStrictlyIncreasing ns → All (λ n. n < b) ns → Ascends 0 b ns
ascends b ns up high = from-pairs 0 b ns (AllPairs-from_increasing ns up) (λ k d l. omega arith) high

-- a number before an ascending list is not in the list
pub before-none : (a b m : ℕ) (ns : List ℕ) → Ascends a b ns → m < a → is_among ns m ≡ false
before-none a b m [] up less = refl
before-none a b m (n ∷ ns) up less =
    let low = up.0 in
    let here : nat_eq m n ≡ false = grind (arith, nat_tests, low) in
    let rest = before-none (n + 1) b m ns up.2 (omega (arith, low)) in
    rw (here, rest) refl

pub lower : (a c b : ℕ) (ns : List ℕ) → c ≤ a → Ascends a b ns → Ascends c b ns
lower a c b [] less up = tt
lower a c b (n ∷ ns) less up = (omega (arith, up.0), up.1, up.2)

-- a test that passes only for these numbers keeps the same of all numbers
pub kept-of-all : (test : ℕ → Bool) (a n : ℕ) (ns : List ℕ) → Ascends a (a + n) ns → ((i : ℕ) → a ≤ i → i < a + n → test i ≡ true → is_among ns i ≡ true) → filter test (range_with_len a n) ≡ filter test ns
kept-of-all test a zero [] up all = refl
kept-of-all test a zero (m ∷ ns) up all = absurd (omega (arith, up.0, up.1))
kept-of-all test a (suc n) [] up all =
    let none : test a ≡ false = false_from_ne_true _ (λ yes. let there = all a (omega arith) (omega arith) yes in absurd (cc)) in
    let rest = kept-of-all test (a + 1) n [] tt (λ i l h yes. all i (omega arith) (omega arith) yes) in
    rw none rest
kept-of-all test a (suc n) (m ∷ ns) up all = go (cases_lt a m) (kept-of-all test (a + 1) n)
  where
    end : a + suc n ≡ a + 1 + n
    end = omega arith

    either : (b : Bool) → test a ≡ b → m ≡ a → filter test (range_with_len (a + 1) n) ≡ filter test ns → filter test (range_with_len a (suc n)) ≡ filter test (m ∷ ns)
    either true f e rest = rw (e, f) (ap (λ l. a ∷ l) rest)
    either false f e rest = rw (e, f) rest

    go : (a < m) ⊎ (m ≤ a) → ((ms : List ℕ) → Ascends (a + 1) (a + 1 + n) ms → ((i : ℕ) → a + 1 ≤ i → i < a + 1 + n → test i ≡ true → is_among ms i ≡ true) → filter test (range_with_len (a + 1) n) ≡ filter test ms) → filter test (range_with_len a (suc n)) ≡ filter test (m ∷ ns)
    go (inl less) rest =
        let gone = before-none (a + 1) (a + suc n) a (m ∷ ns) (omega (arith, less), up.1, up.2) (omega arith) in
        let none : test a ≡ false = false_from_ne_true _ (λ yes. let there = all a (omega arith) (omega arith) yes in absurd (cc)) in
        let behind = rest (m ∷ ns) (subst (λ b. Ascends (a + 1) b (m ∷ ns)) end (omega (arith, less), up.1, up.2)) (λ i l h yes. all i (omega arith) (omega arith) yes) in
        rw none behind
    go (inr more) rest =
        let e : m ≡ a = omega (arith, more, up.0) in
        let behind = rest ns (subst (λ k. Ascends (k + 1) (a + 1 + n) ns) e (subst (λ b. Ascends (m + 1) b ns) end up.2)) (λ i l h yes.
        let there = all i (omega arith) (omega arith) yes in
        let other : nat_eq i m ≡ false = grind (arith, nat_tests) in
        grind (arith, nat_tests)) in
        either (test a) refl e behind

-- lists that are empty but at these numbers are joined to the same
pub joined-of-all : {X : Type 0} (parts : ℕ → List X) (a n : ℕ) (ns : List ℕ) → Ascends a (a + n) ns → ((i : ℕ) → a ≤ i → is_among ns i ≡ false → parts i ≡ []) → flat_map parts (range_with_len a n) ≡ flat_map parts ns
joined-of-all parts a zero [] up none = refl
joined-of-all parts a zero (m ∷ ns) up none = absurd (omega (arith, up.0, up.1))
joined-of-all parts a (suc n) [] up none = ap (λ l. l ++ flat_map parts (range_with_len (a + 1) n)) (none a (omega arith) refl) ∙ joined-of-all parts (a + 1) n [] tt (λ i l. none i (omega arith))
joined-of-all {X} parts a (suc n) (m ∷ ns) up none = go (cases_lt a m) (joined-of-all parts (a + 1) n)
  where
    end : a + suc n ≡ a + 1 + n
    end = omega arith

    go : (a < m) ⊎ (m ≤ a) → ((ms : List ℕ) → Ascends (a + 1) (a + 1 + n) ms → ((i : ℕ) → a + 1 ≤ i → is_among ms i ≡ false → parts i ≡ []) → flat_map parts (range_with_len (a + 1) n) ≡ flat_map parts ms) → flat_map parts (range_with_len a (suc n)) ≡ flat_map parts (m ∷ ns)
    go (inl less) rest =
        let gone = before-none (a + 1) (a + suc n) a (m ∷ ns) (omega (arith, less), up.1, up.2) (omega arith) in
        ap (λ l. l ++ flat_map parts (range_with_len (a + 1) n)) (none a (omega arith) gone)
        ∙ rest (m ∷ ns) (subst (λ b. Ascends (a + 1) b (m ∷ ns)) end (omega (arith, less), up.1, up.2)) (λ i l. none i (omega arith))
    go (inr more) rest =
        let e : m ≡ a = omega (arith, more, up.0) in
        ap (λ l. parts a ++ l)
        (rest ns (subst (λ k. Ascends (k + 1) (a + 1 + n) ns) e (subst (λ b. Ascends (m + 1) b ns) end up.2)) (λ i l gone.
        let other : nat_eq i m ≡ false = grind (arith, nat_tests) in
        none i (omega arith) (rw other gone)))
        ∙ ap (λ k. parts k ++ flat_map parts ns) (sym e)
