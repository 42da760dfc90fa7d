-- How often a list has what passes a test.
use Rattle.std.proofs.Common.{◌≡◌, ℕ, zero, suc, ◌+◌, ◌<◌, ◌≤◌, Bool, true, false, cond, ◌&&◌, nat_lt, List, [], ◌∷◌, ◌++◌, length, get_or, arith, refl, ap, sym, ◌∙◌}
use Rattle.std.specs.List.{list_any, list_all, flat_map, sum_by, count_by}
use Rattle.std.proofs.lemmas.Bool.Decides.{nat_tests}
use Rattle.std.proofs.lemmas.Bool.{and_parts, and_from}
use Rattle.std.proofs.lemmas.List.Sums.{sum_by-cons, sum_by-append}
use Rattle.std.proofs.lemmas.List.Folds.{list_all-append}

-- 1 for a test that passes, and 0 for one that does not
abbrev pub one_if : Bool → ℕ
one_if b = cond b 1 0

pub one-yes : (passes : Bool) → passes ≡ true → one_if passes ≡ 1
one-yes passes e = rw e refl

pub one-no : (passes : Bool) → passes ≡ false → one_if passes ≡ 0
one-no passes e = rw e refl

pub count-cons : {X : Type 0} (test : X → Bool) (x : X) (xs : List X) → count_by test (x ∷ xs) ≡ one_if (test x) + count_by test xs
count-cons test x xs = sum_by-cons (λ y. one_if (test y)) x xs

pub count-append : {X : Type 0} (test : X → Bool) (xs ys : List X) → count_by test (xs ++ ys) ≡ count_by test xs + count_by test ys
count-append test xs ys = sum_by-append (λ y. one_if (test y)) xs ys

-- something passes exactly where the count is above 0
pub any-count : {X : Type 0} (test : X → Bool) (xs : List X) → list_any test xs ≡ nat_lt 0 (count_by test xs)
any-count test [] = refl
any-count test (x ∷ xs) = grind (arith, nat_tests, count-cons test x xs, any-count test xs)

pub count-none : {X : Type 0} (test : X → Bool) (xs : List X) → list_any test xs ≡ false → count_by test xs ≡ 0
count-none test xs h = grind (arith, nat_tests, any-count test xs)

pub count-some : {X : Type 0} (test : X → Bool) (xs : List X) → list_any test xs ≡ true → 1 ≤ count_by test xs
count-some test xs h = grind (arith, nat_tests, any-count test xs)

pub any-from_count : {X : Type 0} (test : X → Bool) (xs : List X) → 1 ≤ count_by test xs → list_any test xs ≡ true
any-from_count test xs h = grind (arith, nat_tests, any-count test xs)

-- sums of equal amounts are equal, where the amounts need be equal only at what passes
pub sum-agree : {X : Type 0} (keep : X → Bool) (f g : X → ℕ) → ((x : X) → keep x ≡ true → f x ≡ g x) → (xs : List X) → list_all keep xs ≡ true → sum_by f xs ≡ sum_by g xs
sum-agree keep f g same [] h = refl
sum-agree keep f g same (x ∷ xs) h =
    let parts = and_parts (keep x) (list_all keep xs) h in
    sum_by-cons f x xs ∙ ap (λ n. n + sum_by f xs) (same x parts.0) ∙ ap (λ n. g x + n) (sum-agree keep f g same xs parts.1) ∙ sym (sum_by-cons g x xs)

pub count-agree : {X : Type 0} (p q : X → Bool) → ((x : X) → p x ≡ q x) → (xs : List X) → count_by p xs ≡ count_by q xs
count-agree p q same [] = refl
count-agree p q same (x ∷ xs) =
    count-cons p x xs ∙ ap (λ b. one_if b + count_by p xs) (same x) ∙ ap (λ n. one_if (q x) + n) (count-agree p q same xs) ∙ sym (count-cons q x xs)

-- two tests beside each other
pub sum-plus : {X : Type 0} (f g : X → ℕ) (xs : List X) → sum_by (λ x. f x + g x) xs ≡ sum_by f xs + sum_by g xs
sum-plus f g [] = refl
sum-plus f g (x ∷ xs) = omega (arith, sum_by-cons (λ y. f y + g y) x xs, sum_by-cons f x xs, sum_by-cons g x xs, sum-plus f g xs)

pub sum-zero : {X : Type 0} (f : X → ℕ) → ((x : X) → f x ≡ 0) → (xs : List X) → sum_by f xs ≡ 0
sum-zero f none [] = refl
sum-zero f none (x ∷ xs) = omega (arith, sum_by-cons f x xs, none x, sum-zero f none xs)

-- a sum above 0 has a place above 0
pub sum-place : {X : Type 0} (f : X → ℕ) (d : X) (xs : List X) → 1 ≤ sum_by f xs → (i : ℕ) × (i < length xs) × (1 ≤ f (get_or xs i d))
sum-place f d [] h = absurd (omega arith)
sum-place f d (x ∷ xs) h = here (f x) refl (λ more. sum-place f d xs more)
  where
    here : (n : ℕ) → f x ≡ n → (1 ≤ sum_by f xs → (i : ℕ) × (i < length xs) × (1 ≤ f (get_or xs i d))) → (i : ℕ) × (i < length (x ∷ xs)) × (1 ≤ f (get_or (x ∷ xs) i d))
    here (suc n) e behind = (0, omega arith, omega (arith, e))
    here zero e behind =
        let more : 1 ≤ sum_by f xs = omega (arith, sum_by-cons f x xs, e, h) in
        let found = behind more in
        (suc found.0, omega (arith, found.1), found.2)

pub all-flat_map : {X Y : Type 0} (test : Y → Bool) (parts : X → List Y) (xs : List X) → list_all test (flat_map parts xs) ≡ list_all (λ x. list_all test (parts x)) xs
all-flat_map test parts [] = refl
all-flat_map test parts (x ∷ xs) = list_all-append test (parts x) (flat_map parts xs) ∙ ap (λ b. list_all test (parts x) && b) (all-flat_map test parts xs)

-- what each has that passes one test, passes another
pub all-weaker : {X : Type 0} (p q : X → Bool) → ((x : X) → p x ≡ true → q x ≡ true) → (xs : List X) → list_all p xs ≡ true → list_all q xs ≡ true
all-weaker p q weaker [] h = refl
all-weaker p q weaker (x ∷ xs) h =
    let parts = and_parts (p x) (list_all p xs) h in and_from _ _ (weaker x parts.0) (all-weaker p q weaker xs parts.1)

pub any-weaker : {X : Type 0} (p q : X → Bool) → ((x : X) → p x ≡ true → q x ≡ true) → (xs : List X) → list_any p xs ≡ true → list_any q xs ≡ true
any-weaker p q weaker [] h = h
any-weaker p q weaker (x ∷ xs) h = grind (arith, nat_tests, weaker x, any-weaker p q weaker xs)
