-- Lists of distinct numbers, with each number replaced, or last first.
use Rattle.std.proofs.Common.{◌≡◌, ℕ, Bool, true, false, not, ◌||◌, nat_eq, List, [], ◌∷◌, map, arith, refl, ap, sym, ◌∙◌}
use Rattle.std.proofs.lemmas.Bool.Decides.{nat_tests}
use Rattle.std.proofs.lemmas.Bool.{and_parts, and_from, eqb-true, eq-eqb, false_from_ne_true}
use Rattle.subdiv_model.specs.Polygons.{is_among, is_distinct}

-- an item of the list of results is the result of a number of the list
pub among-map : (g : ℕ → ℕ) (xs : List ℕ) (n : ℕ) → is_among (map g xs) n ≡ true → (m : ℕ) × (is_among xs m ≡ true) × (g m ≡ n)
among-map g [] n h = absurd (cc)
among-map g (x ∷ xs) n h = here (nat_eq n (g x)) refl (λ k. among-map g xs n k)
  where
    here : (b : Bool) → nat_eq n (g x) ≡ b → (is_among (map g xs) n ≡ true → (m : ℕ) × (is_among xs m ≡ true) × (g m ≡ n)) → (m : ℕ) × (is_among (x ∷ xs) m ≡ true) × (g m ≡ n)
    here true e behind = (x, grind (arith, nat_tests), sym (eqb-true n (g x) e))
    here false e behind =
        let more : is_among (map g xs) n ≡ true = grind (arith, nat_tests) in
        let found = behind more in
        (found.0, let there = found.1 in grind (arith, nat_tests), found.2)

-- the result of each number of the list is in the list of results
pub map-among : (g : ℕ → ℕ) (xs : List ℕ) (m n : ℕ) → is_among xs m ≡ true → g m ≡ n → is_among (map g xs) n ≡ true
map-among g [] m n h e = absurd (cc)
map-among g (x ∷ xs) m n h e = here (nat_eq m x) refl (λ k. map-among g xs m n k e)
  where
    here : (b : Bool) → nat_eq m x ≡ b → (is_among xs m ≡ true → is_among (map g xs) n ≡ true) → is_among (map g (x ∷ xs)) n ≡ true
    here true d behind =
        let first : nat_eq n (g x) ≡ true = eq-eqb n (g x) (sym e ∙ ap g (eqb-true m x d)) in
        grind (arith, nat_tests)
    here false d behind =
        let more : is_among xs m ≡ true = grind (arith, nat_tests) in
        let found = behind more in
        grind (arith, nat_tests)

-- distinct numbers give distinct numbers where no two give the same
pub map-distinct : (g : ℕ → ℕ) (xs : List ℕ) → ((m n : ℕ) → is_among xs m ≡ true → is_among xs n ≡ true → g m ≡ g n → m ≡ n) → is_distinct xs ≡ true → is_distinct (map g xs) ≡ true
map-distinct g [] one d = refl
map-distinct g (x ∷ xs) one d =
    let parts = and_parts (not (is_among xs x)) (is_distinct xs) d in
    let none : is_among (map g xs) (g x) ≡ false = false_from_ne_true _ (λ there.
    let found = among-map g xs (g x) there in
    let among = found.1 in
    let same = one found.0 x (grind (arith, nat_tests)) (grind (arith, nat_tests)) found.2 in
    let self : is_among xs x ≡ true = ap (is_among xs) (sym same) ∙ found.1 in
    absurd (grind (arith, nat_tests))) in
    and_from _ _ (ap not none) (map-distinct g xs (λ m n h k e. one m n (grind (arith, nat_tests)) (grind (arith, nat_tests)) e) parts.1)

-- the numbers xs, last first, before those of acc
abbrev pub onto : List ℕ → List ℕ → List ℕ
onto acc [] = acc
onto acc (x ∷ xs) = onto (x ∷ acc) xs

-- the joined list has the numbers of both lists
pub onto-among : (acc xs : List ℕ) (n : ℕ) → is_among (onto acc xs) n ≡ (is_among acc n || is_among xs n)
onto-among acc [] n = grind (arith, nat_tests)
onto-among acc (x ∷ xs) n = let behind = onto-among (x ∷ acc) xs n in grind (arith, nat_tests)

-- two joined lists are distinct if no number of one is in the other
pub onto-distinct : (acc xs : List ℕ) → is_distinct acc ≡ true → is_distinct xs ≡ true → ((n : ℕ) → is_among xs n ≡ true → is_among acc n ≡ false) → is_distinct (onto acc xs) ≡ true
onto-distinct acc [] d e apart = d
onto-distinct acc (x ∷ xs) d e apart =
    let parts = and_parts (not (is_among xs x)) (is_distinct xs) e in
    let new : is_among acc x ≡ false = apart x (grind (arith, nat_tests)) in
    onto-distinct (x ∷ acc) xs (and_from _ _ (ap not new) d) parts.1 (λ n h. other n h (nat_eq n x) refl parts.0 (apart n (grind (arith, nat_tests))))
  where
    other : (n : ℕ) → is_among xs n ≡ true → (b : Bool) → nat_eq n x ≡ b → not (is_among xs x) ≡ true → is_among acc n ≡ false → is_among (x ∷ acc) n ≡ false
    other n h true same gone k = let self : is_among xs x ≡ true = ap (is_among xs) (sym (eqb-true n x same)) ∙ h in absurd (grind (arith, nat_tests))
    other n h false same gone k = grind (arith, nat_tests)
