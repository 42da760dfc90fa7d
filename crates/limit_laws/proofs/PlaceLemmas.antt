-- The places of what passes a test, where two of a list do.
use Rattle.std.proofs.Common.{◌≡◌, ℕ, zero, suc, ◌+◌, ◌<◌, ◌≤◌, Bool, true, false, ◌&&◌, List, [], ◌∷◌, length, map, get_or, arith, refl, ap, ◌∙◌}
use Rattle.std.specs.List.{filter, list_all, count_by}
use Rattle.std.proofs.lemmas.Bool.{and_from, cond_both, cond-true, cond-false}
use Rattle.subdiv_model.specs.Lists.{places_from}
use Rattle.number_laws.proofs.CountLemmas.{one_if, one-yes, one-no, count-cons}

-- kept items pass the test
pub kept-pass : {X : Type 0} (keep : X → Bool) (xs : List X) → list_all keep (filter keep xs) ≡ true
kept-pass keep [] = refl
kept-pass keep (x ∷ xs) =
    cond_both (keep x) (x ∷ filter keep xs) (filter keep xs) (λ l. list_all keep l ≡ true)
    (λ yes. and_from _ _ yes (kept-pass keep xs)) (λ _. kept-pass keep xs)

-- counting the kept items that pass counts the items that pass both
pub count-kept : {X : Type 0} (keep test : X → Bool) (xs : List X) → count_by test (filter keep xs) ≡ count_by (λ x. keep x && test x) xs
count-kept keep test [] = refl
count-kept keep test (x ∷ xs) =
    let behind = count-kept keep test xs in
    let both = count-cons (λ y. keep y && test y) x xs in
    cond_both (keep x) (x ∷ filter keep xs) (filter keep xs) (λ l. count_by test l ≡ count_by (λ y. keep y && test y) (x ∷ xs))
    (λ yes. let same : one_if (keep x && test x) ≡ one_if (test x) = ap (λ b. one_if (b && test x)) yes in
    omega (arith, count-cons test x (filter keep xs), both, same, behind))
    (λ no. let none : one_if (keep x && test x) ≡ 0 = ap (λ b. one_if (b && test x)) no in omega (arith, both, none, behind))

-- places in a list of results
pub places-mapped : {X Y : Type 0} (f : X → Y) (test : Y → Bool) (n : ℕ) (xs : List X)
    → places_from n test (map f xs) ≡ places_from n (λ x. test (f x)) xs
places-mapped f test n [] = refl
places-mapped f test n (x ∷ xs) = here (test (f x)) refl (places-mapped f test (n + 1) xs)
  where
    here : (b : Bool) → test (f x) ≡ b → places_from (n + 1) test (map f xs) ≡ places_from (n + 1) (λ y. test (f y)) xs
        → places_from n test (map f (x ∷ xs)) ≡ places_from n (λ y. test (f y)) (x ∷ xs)
    here true e behind = rw e (ap (λ l. n ∷ l) behind)
    here false e behind = rw e behind

module _ {X : Type 0} (test : X → Bool) (d : X) where
  -- the first of a list, where it passes
  placed : (n : ℕ) (x : X) (xs : List X) → test x ≡ true → places_from n test (x ∷ xs) ≡ n ∷ places_from (n + 1) test xs
  placed n x xs e = cond-true (test x) (n ∷ places_from (n + 1) test xs) (places_from (n + 1) test xs) e

  -- an item that does not pass adds no place
  skipped : (n : ℕ) (x : X) (xs : List X) → test x ≡ false → places_from n test (x ∷ xs) ≡ places_from (n + 1) test xs
  skipped n x xs e = cond-false (test x) (n ∷ places_from (n + 1) test xs) (places_from (n + 1) test xs) e

  -- if no item passes, there is no place
  none-placed : (n : ℕ) (xs : List X) → count_by test xs ≡ 0 → places_from n test xs ≡ []
  none-placed n [] h = refl
  none-placed n (x ∷ xs) h = here (test x) refl (λ k. none-placed (n + 1) xs k)
    where
      here : (b : Bool) → test x ≡ b → (count_by test xs ≡ 0 → places_from (n + 1) test xs ≡ []) → places_from n test (x ∷ xs) ≡ []
      here true e behind = absurd (omega (arith, count-cons test x xs, one-yes (test x) e))
      here false e behind = rw e (behind (omega (arith, count-cons test x xs)))

  -- the one place where an item passes, counted from n
  pub record HasOnePlace (n : ℕ) (xs : List X) : Type 0 where
    pub i : ℕ
    pub within : i < length xs
    pub is : places_from n test xs ≡ (n + i) ∷ []
    pub passes : test (get_or xs i d) ≡ true

  -- if one item passes, there is one place
  pub one-placed : (n : ℕ) (xs : List X) → count_by test xs ≡ 1 → HasOnePlace n xs
  one-placed n [] h = absurd (omega arith)
  one-placed n (x ∷ xs) h = here (test x) refl (λ k. one-placed (n + 1) xs k)
    where
      here : (b : Bool) → test x ≡ b → (count_by test xs ≡ 1 → HasOnePlace (n + 1) xs) → HasOnePlace n (x ∷ xs)
      here true e behind =
          let none = none-placed (n + 1) xs (omega (arith, count-cons test x xs, one-yes (test x) e)) in
          let same : n ≡ n + 0 = omega arith in
          record { i = 0; within = omega arith; is = placed n x xs e ∙ ap (λ l. n ∷ l) none ∙ ap (λ m. m ∷ []) same; passes = e }
      here false e behind =
          let found = behind (omega (arith, count-cons test x xs, one-no (test x) e)) in
          let same : n + 1 + found.i ≡ n + suc found.i = omega arith in
          record {
            i = suc found.i;
            within = omega (arith, found.within);
            is = skipped n x xs e ∙ found.is ∙ ap (λ m. m ∷ []) same;
            passes = found.passes;
          }

  -- the two places where items pass, counted from n
  pub record HasTwoPlaces (n : ℕ) (xs : List X) : Type 0 where
    pub i : ℕ
    pub j : ℕ
    pub order : i < j
    pub within : j < length xs
    pub is : places_from n test xs ≡ (n + i) ∷ ((n + j) ∷ [])
    pub first : test (get_or xs i d) ≡ true
    pub second : test (get_or xs j d) ≡ true

  -- if two items pass, there are two places
  pub two-placed : (n : ℕ) (xs : List X) → count_by test xs ≡ 2 → HasTwoPlaces n xs
  two-placed n [] h = absurd (omega arith)
  two-placed n (x ∷ xs) h = here (test x) refl (λ k. two-placed (n + 1) xs k)
    where
      here : (b : Bool) → test x ≡ b → (count_by test xs ≡ 2 → HasTwoPlaces (n + 1) xs) → HasTwoPlaces n (x ∷ xs)
      here true e behind =
          let found = one-placed (n + 1) xs (omega (arith, count-cons test x xs, one-yes (test x) e)) in
          let same : n ≡ n + 0 = omega arith in
          let next : n + 1 + found.i ≡ n + suc found.i = omega arith in
          record {
            i = 0;
            j = suc found.i;
            order = omega arith;
            within = omega (arith, found.within);
            is = placed n x xs e ∙ ap (λ l. n ∷ l) found.is ∙ ap (λ m. m ∷ ((n + 1 + found.i) ∷ [])) same ∙ ap (λ m. (n + 0) ∷ (m ∷ [])) next;
            first = e;
            second = found.passes;
          }
      here false e behind =
          let found = behind (omega (arith, count-cons test x xs, one-no (test x) e)) in
          let one : n + 1 + found.i ≡ n + suc found.i = omega arith in
          let two : n + 1 + found.j ≡ n + suc found.j = omega arith in
          record {
            i = suc found.i;
            j = suc found.j;
            order = omega (arith, found.order);
            within = omega (arith, found.within);
            is = skipped n x xs e ∙ found.is ∙ ap (λ m. m ∷ ((n + 1 + found.j) ∷ [])) one ∙ ap (λ m. (n + suc found.i) ∷ (m ∷ [])) two;
            first = found.first;
            second = found.second;
          }

  -- what passes at a place is counted
  some-count : (xs : List X) (i : ℕ) → i < length xs → test (get_or xs i d) ≡ true → 1 ≤ count_by test xs
  some-count [] i h p = absurd (omega arith)
  some-count (x ∷ xs) zero h p = omega (arith, count-cons test x xs, one-yes (test x) p)
  some-count (x ∷ xs) (suc i) h p = omega (arith, count-cons test x xs, some-count xs i (omega arith) p)

  -- two places that pass count at least two
  pub two-count : (xs : List X) (i j : ℕ) → i < j → j < length xs → test (get_or xs i d) ≡ true → test (get_or xs j d) ≡ true
      → 2 ≤ count_by test xs
  two-count [] i j o h p q = absurd (omega arith)
  two-count (x ∷ xs) i zero o h p q = absurd (omega arith)
  two-count (x ∷ xs) zero (suc j) o h p q =
      omega (arith, count-cons test x xs, one-yes (test x) p, some-count xs j (omega arith) q)
  two-count (x ∷ xs) (suc i) (suc j) o h p q =
      omega (arith, count-cons test x xs, two-count xs i j (omega arith) (omega arith) p q)
