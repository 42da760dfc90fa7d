-- Consecutive numbers in an ascending list.
use Rattle.std.proofs.Common.{◌≡◌, ℕ, zero, suc, ◌+◌, ◌<◌, ◌≤◌, Bool, true, false, nat_eq, nat_le, List, [], ◌∷◌, length, get_or, arith, refl, ap, sym, ◌∙◌}
use Rattle.std.specs.List.{position_or_len}
use Rattle.std.proofs.lemmas.Bool.{leb-true}
use Rattle.std.proofs.lemmas.Bool.Decides.{nat_tests}
use Rattle.subdiv_model.specs.Polygons.{is_among}
use Rattle.part_laws.proofs.AscendingLemmas.{Ascends, before-none, lower}

-- a number that is not the first of a list is among the others
pub among-behind : (m n : ℕ) (ns : List ℕ) → is_among (n ∷ ns) m ≡ true → nat_eq m n ≡ false → is_among ns m ≡ true
among-behind m n ns there apart = rw apart at there

-- a run from the first number on
pub run-from : (c m b : ℕ) (ns : List ℕ) → Ascends m b ns → ((i : ℕ) → i ≤ c → is_among ns (m + i) ≡ true) → (c < length ns) × (get_or ns c 0 ≡ m + c)
run-from c m b [] up there = let no = there 0 (omega arith) in absurd (cc)
run-from zero m b (n ∷ ns) up there = (omega arith, first (nat_eq (m + 0) n) refl)
  where
    first : (e : Bool) → nat_eq (m + 0) n ≡ e → n ≡ m + 0
    first true e = grind (arith, nat_tests)
    first false e =
        let behind = among-behind (m + 0) n ns (there 0 (omega arith)) e in
        let none = before-none (n + 1) b (m + 0) ns up.2 (omega (arith, up.0)) in
        absurd (cc)
run-from (suc c) m b (n ∷ ns) up there =
    let rest = run-from c (m + 1) b ns (lower (n + 1) (m + 1) b ns (omega (arith, up.0)) up.2) (λ i h. behind i h (nat_eq (m + 1 + i) n) refl) in
    (omega (arith, rest.0), omega (arith, rest.1))
  where
    low : m ≤ n
    low = up.0

    -- the first is the number itself
    first : (e : Bool) → nat_eq m n ≡ e → n ≡ m
    first true e = grind (arith, nat_tests)
    first false e =
        let same : m + 0 ≡ m = omega arith in
        let here : is_among (n ∷ ns) m ≡ true = ap (is_among (n ∷ ns)) (sym same) ∙ there 0 (omega arith) in
        let later = among-behind m n ns here e in
        let none = before-none (n + 1) b m ns up.2 (omega (arith, low)) in
        absurd (cc)

    behind : (i : ℕ) → i ≤ c → (e : Bool) → nat_eq (m + 1 + i) n ≡ e → is_among ns (m + 1 + i) ≡ true
    behind i h true e =
        let n_is = first (nat_eq m n) refl in
        let other : nat_eq (m + 1 + i) n ≡ false = grind (arith, nat_tests) in
        absurd (cc)
    behind i h false e =
        let same : m + suc i ≡ m + 1 + i = omega arith in
        among-behind (m + 1 + i) n ns (ap (is_among (n ∷ ns)) (sym same) ∙ there (suc i) (omega (arith, h))) e

-- a run begins at the first number that is not below its start
pub run-at : (a b m c : ℕ) (ns : List ℕ) → Ascends a b ns → ((i : ℕ) → i ≤ c → is_among ns (m + i) ≡ true)
    → (position_or_len (nat_le m) ns + c < length ns) × (get_or ns (position_or_len (nat_le m) ns + c) 0 ≡ m + c)
run-at a b m c [] up there = let no = there 0 (omega arith) in absurd (cc)
run-at a b m c (n ∷ ns) up there = go (nat_le m n) refl (run-at (n + 1) b m c ns up.2)
  where
    go : (e : Bool) → nat_le m n ≡ e
        → (((i : ℕ) → i ≤ c → is_among ns (m + i) ≡ true) → (position_or_len (nat_le m) ns + c < length ns) × (get_or ns (position_or_len (nat_le m) ns + c) 0 ≡ m + c))
        → (position_or_len (nat_le m) (n ∷ ns) + c < length (n ∷ ns)) × (get_or (n ∷ ns) (position_or_len (nat_le m) (n ∷ ns) + c) 0 ≡ m + c)
    go true e rest =
        let low : m ≤ n = leb-true m n e in
        let first : position_or_len (nat_le m) (n ∷ ns) ≡ 0 = rw e refl in
        let run = run-from c m b (n ∷ ns) (low, up.1, up.2) there in
        let place : position_or_len (nat_le m) (n ∷ ns) + c ≡ c = omega (arith, first) in
        (omega (arith, place, run.0), ap (λ k. get_or (n ∷ ns) k 0) place ∙ run.1)
    go false e rest =
        let later : position_or_len (nat_le m) (n ∷ ns) ≡ 1 + position_or_len (nat_le m) ns = rw e refl in
        let run = rest (λ i h. let apart : nat_eq (m + i) n ≡ false = grind (arith, nat_tests) in among-behind (m + i) n ns (there i h) apart) in
        let place : position_or_len (nat_le m) (n ∷ ns) + c ≡ suc (position_or_len (nat_le m) ns + c) = omega (arith, later) in
        (omega (arith, place, run.0), ap (λ k. get_or (n ∷ ns) k 0) place ∙ run.1)
