-- What passes a test in a list: whether there is such, the last of it, and how many places it has.
use Rattle.std.proofs.Common.{◌≡◌, ℕ, ◌+◌, Bool, true, false, ◌&&◌, ◌||◌, List, [], ◌∷◌, ◌++◌, length, map, arith, refl, ap, ◌∙◌}
use Rattle.std.specs.List.{filter, flat_map, list_any, list_all, count_by}
use Rattle.std.proofs.lemmas.Bool.{cond_both, and_from, and_parts}
use Rattle.std.proofs.lemmas.Bool.Decides.{nat_tests}
use Rattle.std.proofs.lemmas.List.Folds.{list_any-append}
use Rattle.subdiv_model.specs.Lists.{last_of, places_from}
use Rattle.number_laws.proofs.CountLemmas.{one-yes, one-no, count-cons}

-- an item of joined lists passes exactly if an item of one list does
pub any-flat_map : {X Y : Type 0} (test : Y → Bool) (parts : X → List Y) (xs : List X)
    → list_any test (flat_map parts xs) ≡ list_any (λ x. list_any test (parts x)) xs
any-flat_map test parts [] = refl
any-flat_map test parts (x ∷ xs) =
    list_any-append test (parts x) (flat_map parts xs) ∙ ap (λ b. list_any test (parts x) || b) (any-flat_map test parts xs)

-- one test after another passes where both pass
pub any-both : {X : Type 0} (keep test : X → Bool) (xs : List X) → list_any test (filter keep xs) ≡ list_any (λ x. keep x && test x) xs
any-both keep test [] = refl
any-both keep test (x ∷ xs) = here (keep x) refl (any-both keep test xs)
  where
    here : (b : Bool) → keep x ≡ b → list_any test (filter keep xs) ≡ list_any (λ y. keep y && test y) xs
        → list_any test (filter keep (x ∷ xs)) ≡ list_any (λ y. keep y && test y) (x ∷ xs)
    here true e after = rw e (ap (λ b. test x || b) after)
    here false e after = rw e after

-- a test that passes for all items passes for all kept items
pub all-kept : {X : Type 0} (keep test : X → Bool) (xs : List X) → list_all test xs ≡ true → list_all test (filter keep xs) ≡ true
all-kept keep test [] h = refl
all-kept keep test (x ∷ xs) h =
    let parts = and_parts (test x) (list_all test xs) h in
    let rest = all-kept keep test xs parts.1 in
    cond_both (keep x) (x ∷ filter keep xs) (filter keep xs) (λ l. list_all test l ≡ true) (λ _. and_from _ _ parts.0 rest) (λ _. rest)

-- the last of two lists is the last of the second, or else that of the first
pub last-split : {X Y : Type 0} (value : X → Y) (keep : X → Bool) (y : Y) (xs ys : List X)
    → last_of y (map value (filter keep (xs ++ ys))) ≡ last_of (last_of y (map value (filter keep xs))) (map value (filter keep ys))
last-split value keep y [] ys = refl
last-split value keep y (x ∷ xs) ys = here (keep x) refl (last-split value keep (value x) xs ys) (last-split value keep y xs ys)
  where
    here : (b : Bool) → keep x ≡ b
        → last_of (value x) (map value (filter keep (xs ++ ys)))
        ≡ last_of (last_of (value x) (map value (filter keep xs))) (map value (filter keep ys))
        → last_of y (map value (filter keep (xs ++ ys))) ≡ last_of (last_of y (map value (filter keep xs))) (map value (filter keep ys))
        → last_of y (map value (filter keep (x ∷ (xs ++ ys))))
        ≡ last_of (last_of y (map value (filter keep (x ∷ xs)))) (map value (filter keep ys))
    here true e kept other = rw e kept
    here false e kept other = rw e other

-- if no item passes, the last one is the default
pub last-none : {X Y : Type 0} (value : X → Y) (keep : X → Bool) (y : Y) (xs : List X) → list_any keep xs ≡ false
    → last_of y (map value (filter keep xs)) ≡ y
last-none value keep y [] none = refl
last-none value keep y (x ∷ xs) none =
    let this : keep x ≡ false = grind (arith, nat_tests) in
    let rest : list_any keep xs ≡ false = grind (arith, nat_tests) in
    rw this (last-none value keep y xs rest)

-- if an item passes, the default does not matter
pub last-some : {X Y : Type 0} (value : X → Y) (keep : X → Bool) (y z : Y) (xs : List X) → list_any keep xs ≡ true
    → last_of y (map value (filter keep xs)) ≡ last_of z (map value (filter keep xs))
last-some value keep y z [] some = absurd (cc)
last-some value keep y z (x ∷ xs) some = here (keep x) refl (λ more. last-some value keep y z xs more)
  where
    here : (b : Bool) → keep x ≡ b
        → (list_any keep xs ≡ true → last_of y (map value (filter keep xs)) ≡ last_of z (map value (filter keep xs)))
        → last_of y (map value (filter keep (x ∷ xs))) ≡ last_of z (map value (filter keep (x ∷ xs)))
    here true e after = rw e refl
    here false e after =
        let more : list_any keep xs ≡ true = grind (arith, nat_tests) in
        rw e (after more)

-- the last item that passes counts, whatever items come before it
pub last-kept : {X Y : Type 0} (value : X → Y) (keep : X → Bool) (y : Y) (before : List X) (x : X) (after : List X) → keep x ≡ true
    → list_any keep after ≡ false → last_of y (map value (filter keep (before ++ (x ∷ after)))) ≡ value x
last-kept value keep y before x after this none =
    last-split value keep y before (x ∷ after) ∙ rw this (last-none value keep (value x) after none)

-- the list has as many places as items that pass
pub places-from-length : {X : Type 0} (test : X → Bool) (place : ℕ) (xs : List X) → length (places_from place test xs) ≡ count_by test xs
places-from-length test place [] = refl
places-from-length test place (x ∷ xs) =
    cond_both (test x) (place ∷ places_from (place + 1) test xs) (places_from (place + 1) test xs) (λ l. length l ≡ count_by test (x ∷ xs))
    (λ yes. omega (arith, count-cons test x xs, one-yes (test x) yes, places-from-length test (place + 1) xs))
    (λ no. omega (arith, count-cons test x xs, one-no (test x) no, places-from-length test (place + 1) xs))
