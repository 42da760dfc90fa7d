-- Lists of things that differ, and tables of their places.
use Rattle.std.proofs.Common.{◌≡◌, ◌≢◌, ℕ, suc, ◌+◌, ◌-◌, ◌<◌, ◌≤◌, ◌^◌, Bool, true, false, not, nat_eq, nat_lt, List, [], ◌∷◌, ◌++◌, length, map, get_or, set, take, replicate, Option, Some, None, arith, refl, ap, sym, ◌∙◌, subst}
use Rattle.std.specs.List.{All, AllPairs, position, position_or_len}
use Rattle.std.proofs.lemmas.Bool.{eqb-true, eqb-false, eq-eqb, ne_eqb, lt-ltb, le-ltb, ltb-true, false_from_ne_true}
use Rattle.std.proofs.lemmas.List.{get_or-map, length-map, get_or-take, length-take-le, get_or-set_same, get_or-set_other, length-set, get_or-replicate, length-replicate, length_push, take_more, take_all}
use Rattle.std.proofs.lemmas.List.FromFn.{fill_by_all}
use Rattle.std.proofs.lemmas.List.Folds.{position_or_len_push}
use Rattle.std.proofs.lemmas.List.Sums.{position_or_len_is, prefix_len-le-length}
use Rattle.std.proofs.lemmas.List.Quantifiers.{position-Some}
use Rattle.level_topology.specs.ChildTables.{kept_place, present_place, IsInverse, numbers_in}

-- An item at the end of a list is found there, if no earlier item passes.
pub push-new : {X : Type 0} (test : X → Bool) (xs : List X) (y : X) → position_or_len test xs ≡ length xs → test y ≡ true → position_or_len test (xs ++ y ∷ []) ≡ length xs
push-new test xs y none passes =
    let all = eq-eqb (position_or_len test xs) (length xs) none in
    position_or_len_push test xs y ∙ rw (all, passes) (omega arith)

position-new : {X : Type 0} (test : X → Bool) (xs : List X) (y : X) → position_or_len test xs ≡ length xs → test y ≡ true → position test (xs ++ y ∷ []) ≡ Some (length xs)
position-new test xs y none passes =
    let within = lt-ltb (length xs) (length (xs ++ y ∷ [])) (omega (arith, length_push xs y)) in
    rw (push-new test xs y none passes, within) refl

-- An item at the end of a list that does not pass changes nothing.
position-old : {X : Type 0} (test : X → Bool) (xs : List X) (y : X) → test y ≡ false → position test (xs ++ y ∷ []) ≡ position test xs
position-old test xs y fails = here (nat_eq (position_or_len test xs) (length xs)) refl
  where
    here : (b : Bool) → nat_eq (position_or_len test xs) (length xs) ≡ b → position test (xs ++ y ∷ []) ≡ position test xs
    here true e =
        let same = eqb-true (position_or_len test xs) (length xs) e in
        let at : position_or_len test (xs ++ y ∷ []) ≡ length xs + 1 = position_or_len_push test xs y ∙ rw (e, fails) refl in
        let past = le-ltb (length xs + 1) (length (xs ++ y ∷ [])) (omega (arith, length_push xs y)) in
        let old = le-ltb (position_or_len test xs) (length xs) (omega arith) in
        rw (at, past, old) refl
    here false e =
        let at : position_or_len test (xs ++ y ∷ []) ≡ position_or_len test xs = position_or_len_push test xs y ∙ rw e refl in
        let differ : position_or_len test xs ≢ length xs = λ same. eqb-false (position_or_len test xs) (length xs) e same in
        let inside : position_or_len test xs < length xs = omega (arith, prefix_len-le-length (λ x. not (test x)) xs) in
        let old = lt-ltb (position_or_len test xs) (length xs) inside in
        let new = lt-ltb (position_or_len test xs) (length (xs ++ y ∷ [])) (omega (arith, length_push xs y)) in
        rw (at, new, old) refl

-- a table of a list has the place of one more number
pub inverse-more : (numbers table : List ℕ) (n : ℕ) → IsInverse numbers table → n < length table → position_or_len (nat_eq n) numbers ≡ length numbers → IsInverse (numbers ++ n ∷ []) (set table n (length numbers))
inverse-more numbers table n is inside none m h = here (nat_eq m n) refl
  where
    here : (b : Bool) → nat_eq m n ≡ b → get_or (set table n (length numbers)) m 0 ≡ kept_place (position (nat_eq m) (numbers ++ n ∷ []))
    here true e =
        let same = eqb-true m n e in
        let missing : position_or_len (nat_eq m) numbers ≡ length numbers = ap (λ k. position_or_len (nat_eq k) numbers) same ∙ none in
        ap (λ k. get_or (set table n (length numbers)) k 0) same ∙ get_or-set_same table n (length numbers) 0 inside
        ∙ sym (ap kept_place (position-new (nat_eq m) numbers n missing e))
    here false e =
        let other : m ≢ n = λ same. absurd (let passes = eq-eqb m n same in cc) in
        get_or-set_other table n m (length numbers) 0 other ∙ is m (omega (arith, length-set table n (length numbers)))
        ∙ sym (ap kept_place (position-old (nat_eq m) numbers n e))

-- a table of nothing
pub inverse-none : (limit : ℕ) → IsInverse [] (replicate limit (2 ^ 32 - 1))
inverse-none limit n h = get_or-replicate limit n (2 ^ 32 - 1) 0 (omega (arith, length-replicate limit (2 ^ 32 - 1)))

-- each of different numbers is not among those before it
pub none-before : (numbers : List ℕ) (p : ℕ) → AllPairs (λ a b. a ≢ b) numbers → p < length numbers → position_or_len (nat_eq (get_or numbers p 0)) (take p numbers) ≡ length (take p numbers)
none-before numbers p once inside =
    position_or_len_is (nat_eq (get_or numbers p 0)) (take p numbers) (length (take p numbers)) 0 (omega arith) other (λ h. absurd (omega arith))
  where
    other : (k : ℕ) → k < length (take p numbers) → nat_eq (get_or numbers p 0) (get_or (take p numbers) k 0) ≡ false
    other k h =
        let before : k < p = omega (arith, length-take-le p numbers (omega arith)) in
        rw (get_or-take p numbers k 0 before) (ne_eqb (get_or numbers p 0) (get_or numbers k 0) (λ same. once k p 0 before inside (sym same)))

-- each of different things is the first of its kind
pub position-own : {X : Type 0} (same : X → X → Bool) → ((a : X) → same a a ≡ true) → ((a b : X) → same a b ≡ true → a ≡ b) → (xs : List X) (p : ℕ) (d : X) → AllPairs (λ a b. a ≢ b) xs → p < length xs → position_or_len (same (get_or xs p d)) xs ≡ p
position-own same itself equal xs p d once inside =
    position_or_len_is (same (get_or xs p d)) xs p d (omega arith) earlier (λ h. itself (get_or xs p d))
  where
    earlier : (k : ℕ) → k < p → same (get_or xs p d) (get_or xs k d) ≡ false
    earlier k before = false_from_ne_true _ (λ passes. once k p d before inside (sym (equal _ _ passes)))

pub position-there : {X : Type 0} (test : X → Bool) (xs : List X) (p : ℕ) → position_or_len test xs ≡ p → p < length xs → position test xs ≡ Some p
position-there test xs p at inside = let within = lt-ltb p (length xs) inside in rw (at, within) refl

-- Different things that their numbers determine have different numbers.
pub pairs-map : {X : Type 0} (number : X → ℕ) (back : ℕ → X) (xs : List X) → All (λ x. back (number x) ≡ x) xs → AllPairs (λ a b. a ≢ b) xs → AllPairs (λ a b. a ≢ b) (map number xs)
pairs-map number back [] recovers once i j d before inside = absurd (omega arith)
pairs-map number back (x ∷ xs) recovers once i j d before inside = λ same.
    let all = x ∷ xs in
    let second : j < length all = omega (arith, inside, length-map all number) in
    let first : i < length all = omega arith in
    let numbers = sym (get_or-map number all i x d first) ∙ same ∙ get_or-map number all j x d second in
    once i j x before second (sym (recovers i x first) ∙ ap back numbers ∙ recovers j x second)

pub map-back : {X : Type 0} (number : X → ℕ) (back : ℕ → X) (xs : List X) → All (λ x. back (number x) ≡ x) xs → map back (map number xs) ≡ xs
map-back number back [] recovers = refl
map-back number back (x ∷ xs) recovers =
    let first = recovers 0 x (omega arith) in
    let rest = map-back number back xs (λ k d h. recovers (suc k) d (omega arith)) in
    cc

-- The numbers of a table are those of its list.
pub numbers-back : (numbers table : List ℕ) (count : ℕ) → IsInverse numbers table → count ≡ length numbers → length numbers < 2 ^ 32 → All (λ n. n < length table) numbers → AllPairs (λ a b. a ≢ b) numbers → numbers_in table count ≡ numbers
numbers-back numbers table count is counted few inside once =
    sym (fill_by_all (λ p. position_or_len (nat_eq p) table) numbers count 0 (sym counted) (λ p h. sym (at p (omega arith))))
  where
    own : (p : ℕ) → p < length numbers → position (nat_eq (get_or numbers p 0)) numbers ≡ Some p
    own p h = position-there (nat_eq (get_or numbers p 0)) numbers p (position-own nat_eq (λ a. eq-eqb a a refl) eqb-true numbers p 0 once h) h

    at : (p : ℕ) → p < length numbers → position_or_len (nat_eq p) table ≡ get_or numbers p 0
    at p h =
        let within = inside p 0 h in
        position_or_len_is (nat_eq p) table (get_or numbers p 0) 0 (omega arith) earlier (λ k. eq-eqb p _ (sym (is (get_or numbers p 0) within ∙ ap kept_place (own p h))))
      where
        earlier : (n : ℕ) → n < get_or numbers p 0 → nat_eq p (get_or table n 0) ≡ false
        earlier n before = other (position (nat_eq n) numbers) refl
          where
            other : (o : Option ℕ) → position (nat_eq n) numbers ≡ o → nat_eq p (get_or table n 0) ≡ false
            other None e =
                let kept : get_or table n 0 ≡ 2 ^ 32 - 1 = is n (omega arith) ∙ ap kept_place e in
                rw kept (ne_eqb p (2 ^ 32 - 1) (λ same. absurd (omega arith)))
            other (Some q) e =
                let kept : get_or table n 0 ≡ q = is n (omega arith) ∙ ap kept_place e in
                let there = position-Some (nat_eq n) numbers q 0 e in
                let number : n ≡ get_or numbers q 0 = eqb-true n (get_or numbers q 0) there.1 in
                rw kept (ne_eqb p q (λ same. absurd (omega (arith, ap (λ k. get_or numbers k 0) same))))

-- A table returns the place that it keeps.
pub present-kept : {X : Type 0} (test : X → Bool) (xs : List X) → length xs < 2 ^ 32 → present_place (kept_place (position test xs)) ≡ position test xs
present-kept test xs few = here (nat_lt (position_or_len test xs) (length xs)) refl
  where
    here : (b : Bool) → nat_lt (position_or_len test xs) (length xs) ≡ b → present_place (kept_place (position test xs)) ≡ position test xs
    here true e =
        let inside = ltb-true (position_or_len test xs) (length xs) e in
        let other = ne_eqb (position_or_len test xs) (2 ^ 32 - 1) (λ same. absurd (omega arith)) in
        rw (e, other) refl
    here false e = rw e refl

-- If numbers are equal exactly if things are, both are found at the same place.
pub position-numbered : {X : Type 0} (P : X → Type 0) (number : X → ℕ) (same : X → X → Bool) → ((a b : X) → P a → P b → nat_eq (number a) (number b) ≡ same a b) → (x : X) (xs : List X) → P x → All P xs → position_or_len (nat_eq (number x)) (map number xs) ≡ position_or_len (same x) xs
position-numbered P number same equal x [] is all = refl
position-numbered P number same equal x (y ∷ ys) is all =
    let first = equal x y is (all 0 y (omega arith)) in
    let rest = position-numbered P number same equal x ys is (λ k d h. all (suc k) d (omega arith)) in
    rw (first, rest) refl

pub position-same : {X : Type 0} (P : X → Type 0) (number : X → ℕ) (same : X → X → Bool) → ((a b : X) → P a → P b → nat_eq (number a) (number b) ≡ same a b) → (x : X) (xs : List X) → P x → All P xs → position (nat_eq (number x)) (map number xs) ≡ position (same x) xs
position-same P number same equal x xs is all =
    rw (position-numbered P number same equal x xs is all, length-map xs number) refl

-- one step of a table over a list of different numbers
pub inverse-step : (numbers table : List ℕ) (p : ℕ) → AllPairs (λ a b. a ≢ b) numbers → p < length numbers → IsInverse (take p numbers) table → get_or numbers p 0 < length table → IsInverse (take (p + 1) numbers) (set table (get_or numbers p 0) p)
inverse-step numbers table p once inside is below =
    let count : length (take p numbers) ≡ p = length-take-le p numbers (omega arith) in
    let made = inverse-more (take p numbers) table (get_or numbers p 0) is below (none-before numbers p once inside) in
    let P : ℕ → Type 0 = λ n. IsInverse (take (p + 1) numbers) (set table (get_or numbers p 0) n) in
    let Q : List ℕ → Type 0 = λ ns. IsInverse ns (set table (get_or numbers p 0) (length (take p numbers))) in
    subst P count (subst Q (sym (take_more numbers p 0 inside)) made)

pub inverse-end : (numbers table : List ℕ) (p : ℕ) → length numbers ≤ p → IsInverse (take p numbers) table → IsInverse numbers table
inverse-end numbers table p past is = let Q : List ℕ → Type 0 = λ ns. IsInverse ns table in subst Q (take_all p numbers past) is

-- an item of a list that is mapped twice
pub twice-at : {X Y : Type 0} (f : X → Y) (number : Y → ℕ) (xs : List X) (p : ℕ) (d : X) → p < length xs → number (f (get_or xs p d)) ≡ get_or (map number (map f xs)) p 0
twice-at f number xs p d inside =
    sym (get_or-map number (map f xs) p (f d) 0 (omega (arith, length-map xs f)) ∙ ap number (get_or-map f xs p d (f d) inside))
