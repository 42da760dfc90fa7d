-- What all of a list pass.
use Rattle.std.proofs.Common.{◌≡◌, ℕ, zero, suc, ◌+◌, ◌<◌, ◌≤◌, Bool, true, nat_lt, List, [], ◌∷◌, ◌++◌, length, arith, refl, ◌∙◌}
use Rattle.std.specs.List.{AllByRecursion, filter, list_all, range_with_len}
use Rattle.std.proofs.lemmas.Bool.{and_from, and_parts, cond_both, lt-ltb}
use Rattle.std.proofs.lemmas.List.Folds.{list_all-append}
use Rattle.subdiv_model.specs.Lists.{places_from}

-- a test of all, as a fact of each, and back
pub each-passes : {X : Type 0} (p : X → Bool) (xs : List X) → list_all p xs ≡ true → AllByRecursion (λ x. p x ≡ true) xs
each-passes p [] h = tt
each-passes p (x ∷ xs) h = let parts = and_parts (p x) (list_all p xs) h in (parts.0, each-passes p xs parts.1)

pub all-pass : {X : Type 0} (p : X → Bool) (xs : List X) → AllByRecursion (λ x. p x ≡ true) xs → list_all p xs ≡ true
all-pass p [] h = refl
all-pass p (x ∷ xs) h = and_from _ _ h.0 (all-pass p xs h.1)

pub all-kept : {X : Type 0} (keep p : X → Bool) (xs : List X) → list_all p xs ≡ true → list_all p (filter keep xs) ≡ true
all-kept keep p [] h = refl
all-kept keep p (x ∷ xs) h =
    let parts = and_parts (p x) (list_all p xs) h in
    cond_both (keep x) (x ∷ filter keep xs) (filter keep xs) (λ ys. list_all p ys ≡ true)
    (λ _. and_from _ _ parts.0 (all-kept keep p xs parts.1)) (λ _. all-kept keep p xs parts.1)

pub all-range : (p : ℕ → Bool) (a n : ℕ) → ((i : ℕ) → a ≤ i → i < a + n → p i ≡ true) → list_all p (range_with_len a n) ≡ true
all-range p a zero h = refl
all-range p a (suc n) h =
    and_from _ _ (h a (omega arith) (omega arith)) (all-range p (a + 1) n (λ i low high. h i (omega arith) (omega arith)))

pub all-append : {X : Type 0} (p : X → Bool) (xs ys : List X) → list_all p xs ≡ true → list_all p ys ≡ true → list_all p (xs ++ ys) ≡ true
all-append p xs ys h k = list_all-append p xs ys ∙ and_from _ _ h k

pub places-below : {X : Type 0} (test : X → Bool) (place n : ℕ) (xs : List X) → place + length xs ≤ n
    → list_all (λ f. nat_lt f n) (places_from place test xs) ≡ true
places-below test place n [] h = refl
places-below test place n (x ∷ xs) h =
    let rest = places-below test (place + 1) n xs (omega arith) in
    cond_both (test x) (place ∷ places_from (place + 1) test xs) (places_from (place + 1) test xs)
    (λ ys. list_all (λ f. nat_lt f n) ys ≡ true) (λ _. and_from _ _ (lt-ltb place n (omega arith)) rest) (λ _. rest)
