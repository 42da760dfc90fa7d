-- Ascending numbers: a number occurs once exactly where it equals neither neighbour.
use Rattle.std.proofs.Common.{◌≡◌, ℕ, ◌+◌, ◌<◌, Bool, true, false, not, ◌&&◌, ◌||◌, nat_eq, nat_le, nat_lt, List, [], ◌∷◌, ◌++◌, length, append-nil, arith, refl, ap, sym, ◌∙◌, if◌then◌else◌}
use Rattle.std.specs.List.{list_all, count_by}
use Rattle.std.proofs.lemmas.Bool.Decides.{nat_tests}
use Rattle.std.proofs.lemmas.Bool.{and_parts, and_from, eqb-true}
use Rattle.subdiv_model.specs.Polygons.{is_among, is_distinct}
use Rattle.number_laws.proofs.CountLemmas.{count-cons, one_if}
use Rattle.level_builder.specs.Keys.{Rises, is_again, unrepeated_after}
use Rattle.level_builder.proofs.KeyLemmas.{again-count}

-- a number that may be kept before others
below-kept : (keep : Bool) (n x : ℕ) (xs : List ℕ) → nat_le n x ≡ true → list_all (nat_le n) xs ≡ true → list_all (nat_le n) (if keep then x ∷ xs else xs) ≡ true
below-kept true n x xs first behind = and_from _ _ first behind
below-kept false n x xs first behind = behind

rise-kept : (keep : Bool) (x : ℕ) (xs : List ℕ) → list_all (nat_le x) xs ≡ true → Rises xs → Rises (if keep then x ∷ xs else xs)
rise-kept true x xs below behind = (below, behind)
rise-kept false x xs below behind = behind

among-kept : (keep : Bool) (n x : ℕ) (xs : List ℕ) → is_among (if keep then x ∷ xs else xs) n ≡ ((keep && nat_eq n x) || is_among xs n)
among-kept true n x xs = refl
among-kept false n x xs = refl

-- a number below all is below those that occur once
below-unrepeated : (again : Bool) (n : ℕ) (xs : List ℕ) → list_all (nat_le n) xs ≡ true → list_all (nat_le n) (unrepeated_after again xs) ≡ true
below-unrepeated again n [] h = refl
below-unrepeated again n (x ∷ xs) h =
    let parts = and_parts (nat_le n x) (list_all (nat_le n) xs) h in
    below-kept (not again && not (is_again 1 (x ∷ xs) x)) n x (unrepeated_after (is_again 1 (x ∷ xs) x) xs) parts.0 (below-unrepeated (is_again 1 (x ∷ xs) x) n xs parts.1)

-- the kept numbers ascend
pub unrepeated-rise : (again : Bool) (xs : List ℕ) → Rises xs → Rises (unrepeated_after again xs)
unrepeated-rise again [] h = h
unrepeated-rise again (x ∷ xs) h =
    let next = is_again 1 (x ∷ xs) x in
    rise-kept (not again && not next) x (unrepeated_after next xs) (below-unrepeated next x xs h.0) (unrepeated-rise next xs h.1)

-- a kept number occurs once, and is not the first if the first equals the number before it
among-unrepeated : (n : ℕ) (again : Bool) (xs : List ℕ) → Rises xs → is_among (unrepeated_after again xs) n ≡ (nat_eq (count_by (nat_eq n) xs) 1 && not (again && is_again 0 xs n))
among-unrepeated n again [] h = grind (arith, nat_tests)
among-unrepeated n again (x ∷ xs) h =
    among-kept (not again && not (is_again 1 (x ∷ xs) x)) n x (unrepeated_after (is_again 1 (x ∷ xs) x) xs)
    ∙ go (nat_eq n x) refl (again-count 0 x xs h.0 h.1) (among-unrepeated n (is_again 1 (x ∷ xs) x) xs h.1)
  where
    next : is_again 1 (x ∷ xs) x ≡ is_again 0 xs x
    next = grind (arith, nat_tests)

    more : nat_eq n x ≡ true → count_by (nat_eq n) (x ∷ xs) ≡ 1 + count_by (nat_eq n) xs
    more e = let first : one_if (nat_eq n x) ≡ 1 = ap one_if e in omega (arith, count-cons (nat_eq n) x xs, first)

    apart : nat_eq n x ≡ false → count_by (nat_eq n) (x ∷ xs) ≡ count_by (nat_eq n) xs
    apart e = let first : one_if (nat_eq n x) ≡ 0 = ap one_if e in omega (arith, count-cons (nat_eq n) x xs, first)

    same : nat_eq n x ≡ true → count_by (nat_eq x) xs ≡ count_by (nat_eq n) xs
    same e = ap (λ k. count_by (nat_eq k) xs) (sym (eqb-true n x e))

    go : (b : Bool) → nat_eq n x ≡ b → is_again 0 xs x ≡ nat_lt 0 (count_by (nat_eq x) xs)
        → is_among (unrepeated_after (is_again 1 (x ∷ xs) x) xs) n ≡ (nat_eq (count_by (nat_eq n) xs) 1 && not (is_again 1 (x ∷ xs) x && is_again 0 xs n))
        → (((not again && not (is_again 1 (x ∷ xs) x)) && nat_eq n x) || is_among (unrepeated_after (is_again 1 (x ∷ xs) x) xs) n) ≡ (nat_eq (count_by (nat_eq n) (x ∷ xs)) 1 && not (again && is_again 0 (x ∷ xs) n))
    go true e counted behind = let m = more e in let s = same e in grind (arith, nat_tests, next)
    go false e counted behind = let m = apart e in grind (arith, nat_tests, next)

-- the kept numbers are those that occur once
pub unrepeated-count : (n : ℕ) (xs : List ℕ) → Rises xs → is_among (unrepeated_after false xs) n ≡ nat_eq (count_by (nat_eq n) xs) 1
unrepeated-count n xs h = among-unrepeated n false xs h ∙ whole (nat_eq (count_by (nat_eq n) xs) 1)
  where
    whole : (b : Bool) → (b && true) ≡ b
    whole true = refl
    whole false = refl

distinct-kept : (keep : Bool) (x : ℕ) (xs : List ℕ) → (keep ≡ true → is_among xs x ≡ false) → is_distinct xs ≡ true → is_distinct (if keep then x ∷ xs else xs) ≡ true
distinct-kept true x xs apart behind = and_from _ _ (ap not (apart refl)) behind
distinct-kept false x xs apart behind = behind

-- a number is kept once
pub unrepeated-distinct : (again : Bool) (xs : List ℕ) → Rises xs → is_distinct (unrepeated_after again xs) ≡ true
unrepeated-distinct again [] h = refl
unrepeated-distinct again (x ∷ xs) h =
    let next = is_again 1 (x ∷ xs) x in
    distinct-kept (not again && not next) x (unrepeated_after next xs) apart (unrepeated-distinct next xs h.1)
  where
    apart : (not again && not (is_again 1 (x ∷ xs) x)) ≡ true → is_among (unrepeated_after (is_again 1 (x ∷ xs) x) xs) x ≡ false
    apart kept =
        let behind = among-unrepeated x (is_again 1 (x ∷ xs) x) xs h.1 in
        let counted = again-count 0 x xs h.0 h.1 in
        grind (arith, nat_tests)

-- once no number is left, all are found
pub unrepeated-end : (found rest keys : List ℕ) (again : Bool) → length rest < 1 → found ++ unrepeated_after again rest ≡ unrepeated_after false keys → found ≡ unrepeated_after false keys
unrepeated-end found [] keys again h is = sym (append-nil found) ∙ is
unrepeated-end found (n ∷ rest) keys again h is = absurd (omega arith)
