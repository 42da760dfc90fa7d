-- Numbers listed once, in the order of their first appearance.
use Rattle.std.proofs.Common.{◌≡◌, ℕ, zero, suc, ◌+◌, ◌<◌, ◌≤◌, Bool, true, false, not, ◌&&◌, ◌||◌, nat_eq, nat_lt, nat_le, List, [], ◌∷◌, ◌++◌, append-nil, append_assoc, length, take, get_or, arith, refl, ap, sym, ◌∙◌, if◌then◌else◌}
use Rattle.std.specs.List.{filter, position_or_len, range_with_len}
use Rattle.std.proofs.lemmas.Bool.Decides.{nat_tests}
use Rattle.std.proofs.lemmas.Bool.{and_parts, and_from, eqb-true, eq-eqb, not_from_false, false_from_ne_true}
use Rattle.std.proofs.lemmas.List.{take_more, length_push}
use Rattle.std.proofs.lemmas.List.Elements.{filter-append}
use Rattle.std.proofs.lemmas.List.FromFn.{length-range_with_len}
use Rattle.std.proofs.lemmas.List.Folds.{list_any_at}
use Rattle.std.proofs.lemmas.List.Sums.{passes_at_first, length-filter, count_by-le-length}
use Rattle.mesh_laws.proofs.ChildPlaceLemmas.{first-within}
use Rattle.mesh_laws.proofs.WalkLemmas.{distinct-le}
use Rattle.subdiv_model.specs.Lists.{each_once_by}
use Rattle.subdiv_model.specs.Polygons.{is_among, is_distinct}
use Rattle.sparse_level.specs.Places.{with_point, with_points}

others-among : (x n : ℕ) (xs : List ℕ) → is_among (filter (λ y. not (nat_eq x y)) xs) n ≡ (if nat_eq x n then false else is_among xs n)
others-among x n [] = grind (arith, nat_tests)
others-among x n (y ∷ xs) = grind (arith, nat_tests, others-among x n xs)

-- each once, and all of them
pub once-among : (xs : List ℕ) (n : ℕ) → is_among (each_once_by nat_eq xs) n ≡ is_among xs n
once-among [] n = refl
once-among (x ∷ xs) n = grind (arith, nat_tests, once-among xs n, others-among x n (each_once_by nat_eq xs))

among-less : (keep : ℕ → Bool) (n : ℕ) (xs : List ℕ) → is_among xs n ≡ false → is_among (filter keep xs) n ≡ false
among-less keep n [] h = refl
among-less keep n (x ∷ xs) h = grind (arith, nat_tests, among-less keep n xs)

distinct-less : (keep : ℕ → Bool) (xs : List ℕ) → is_distinct xs ≡ true → is_distinct (filter keep xs) ≡ true
distinct-less keep [] h = refl
distinct-less keep (x ∷ xs) h = grind (arith, nat_tests, distinct-less keep xs, among-less keep x xs)

pub once-distinct : (xs : List ℕ) → is_distinct (each_once_by nat_eq xs) ≡ true
once-distinct [] = refl
once-distinct (x ∷ xs) =
    let self = eq-eqb x x refl in
    let gone : is_among (filter (λ y. not (nat_eq x y)) (each_once_by nat_eq xs)) x ≡ false = others-among x x (each_once_by nat_eq xs) ∙ ap (λ b. if b then false else is_among (each_once_by nat_eq xs) x) self in
    and_from _ _ (not_from_false _ gone) (distinct-less (λ y. not (nat_eq x y)) (each_once_by nat_eq xs) (once-distinct xs))

pub once-length : (xs : List ℕ) → length (each_once_by nat_eq xs) ≤ length xs
once-length [] = omega arith
once-length (x ∷ xs) =
    let others = each_once_by nat_eq xs in
    let keep = λ (y : ℕ). not (nat_eq x y) in
    omega (arith, length-filter keep others, count_by-le-length keep others, once-length xs)

-- a number more
once-push : (xs : List ℕ) (n : ℕ) → each_once_by nat_eq (xs ++ n ∷ []) ≡ with_point (each_once_by nat_eq xs) n
once-push [] n = refl
once-push (x ∷ xs) n = go (nat_eq x n) (is_among rest n) refl refl (once-push xs n)
  where
    rest : List ℕ
    rest = each_once_by nat_eq xs

    keep : ℕ → Bool
    keep = λ y. not (nat_eq x y)

    turn : nat_eq n x ≡ nat_eq x n
    turn = grind (arith, nat_tests)

    there : is_among (x ∷ filter keep rest) n ≡ (nat_eq x n || (if nat_eq x n then false else is_among rest n))
    there = ap (λ b. nat_eq n x || b) (others-among x n rest) ∙ ap (λ b. b || (if nat_eq x n then false else is_among rest n)) turn

    go : (same among : Bool) → nat_eq x n ≡ same → is_among rest n ≡ among → each_once_by nat_eq (xs ++ n ∷ []) ≡ with_point rest n → each_once_by nat_eq ((x ∷ xs) ++ n ∷ []) ≡ with_point (x ∷ filter keep rest) n
    go same true e f behind =
        let first : each_once_by nat_eq ((x ∷ xs) ++ n ∷ []) ≡ x ∷ filter keep rest = ap (λ l. x ∷ filter keep l) (behind ∙ ap (λ b. if b then rest else rest ++ n ∷ []) f) in
        let among : is_among (x ∷ filter keep rest) n ≡ true = there ∙ ap (λ b. nat_eq x n || (if nat_eq x n then false else b)) f ∙ either (nat_eq x n) in
        first ∙ sym (ap (λ b. if b then x ∷ filter keep rest else (x ∷ filter keep rest) ++ n ∷ []) among)
      where
        either : (b : Bool) → (b || (if b then false else true)) ≡ true
        either true = refl
        either false = refl
    go true false e f behind =
        let first : each_once_by nat_eq ((x ∷ xs) ++ n ∷ []) ≡ x ∷ filter keep (rest ++ n ∷ []) = ap (λ l. x ∷ filter keep l) (behind ∙ ap (λ b. if b then rest else rest ++ n ∷ []) f) in
        let gone : filter keep (n ∷ []) ≡ [] = let off = ap not e in rw off refl in
        let kept : filter keep (rest ++ n ∷ []) ≡ filter keep rest = filter-append keep rest (n ∷ []) ∙ ap (λ l. filter keep rest ++ l) gone ∙ append-nil (filter keep rest) in
        let among : is_among (x ∷ filter keep rest) n ≡ true = there ∙ ap (λ b. b || (if b then false else is_among rest n)) e in
        first ∙ ap (λ l. x ∷ l) kept ∙ sym (ap (λ b. if b then x ∷ filter keep rest else (x ∷ filter keep rest) ++ n ∷ []) among)
    go false false e f behind =
        let first : each_once_by nat_eq ((x ∷ xs) ++ n ∷ []) ≡ x ∷ filter keep (rest ++ n ∷ []) = ap (λ l. x ∷ filter keep l) (behind ∙ ap (λ b. if b then rest else rest ++ n ∷ []) f) in
        let stays : filter keep (n ∷ []) ≡ n ∷ [] = let on = ap not e in rw on refl in
        let kept : filter keep (rest ++ n ∷ []) ≡ filter keep rest ++ n ∷ [] = filter-append keep rest (n ∷ []) ∙ ap (λ l. filter keep rest ++ l) stays in
        let among : is_among (x ∷ filter keep rest) n ≡ false = there ∙ ap (λ b. b || (if b then false else is_among rest n)) e ∙ f in
        first ∙ ap (λ l. x ∷ l) kept ∙ sym (ap (λ b. if b then x ∷ filter keep rest else (x ∷ filter keep rest) ++ n ∷ []) among)

-- some numbers more
pub once-more : (xs ys : List ℕ) → each_once_by nat_eq (xs ++ ys) ≡ with_points (each_once_by nat_eq xs) ys
once-more xs [] = ap (each_once_by nat_eq) (append-nil xs)
once-more xs (y ∷ ys) = ap (each_once_by nat_eq) (sym (append_assoc xs (y ∷ []) ys)) ∙ once-more (xs ++ y ∷ []) ys ∙ ap (λ l. with_points l ys) (once-push xs y)

with-push : (xs ys : List ℕ) (n : ℕ) → with_points xs (ys ++ n ∷ []) ≡ with_point (with_points xs ys) n
with-push xs [] n = refl
with-push xs (y ∷ ys) n = with-push (with_point xs y) ys n

pub with-more : (xs ys : List ℕ) (i : ℕ) → i < length ys → with_points xs (take (i + 1) ys) ≡ with_point (with_points xs (take i ys)) (get_or ys i 0)
with-more xs ys i h = ap (with_points xs) (take_more ys i 0 h) ∙ with-push xs (take i ys) (get_or ys i 0)

pub with-few : (xs : List ℕ) (n : ℕ) → length (with_point xs n) ≤ length xs + 1
with-few xs n = go (is_among xs n) refl
  where
    go : (b : Bool) → is_among xs n ≡ b → length (with_point xs n) ≤ length xs + 1
    go true e = rw e (omega arith)
    go false e = rw e (omega (arith, length_push xs n))

-- distinct numbers below another are no more than it
among-range : (a n m : ℕ) → is_among (range_with_len a n) m ≡ (nat_le a m && nat_lt m (a + n))
among-range a zero m = grind (arith, nat_tests)
among-range a (suc n) m = grind (arith, nat_tests, among-range (a + 1) n m)

pub distinct-few : (xs : List ℕ) (count : ℕ) → is_distinct xs ≡ true → ((n : ℕ) → is_among xs n ≡ true → n < count) → length xs ≤ count
distinct-few xs count once below =
    omega (arith, length-range_with_len 0 count, distinct-le xs (range_with_len 0 count) once (λ n h. within n (below n h)))
  where
    within : (n : ℕ) → n < count → is_among (range_with_len 0 count) n ≡ true
    within n h = let is = among-range 0 count n in grind (arith, nat_tests)

-- each of distinct numbers has one place
pub own-place : (xs : List ℕ) (i : ℕ) → is_distinct xs ≡ true → i < length xs → position_or_len (nat_eq (get_or xs i 0)) xs ≡ i
own-place [] i once h = absurd (omega arith)
own-place (x ∷ xs) zero once h = let self = eq-eqb x x refl in rw self refl
own-place (x ∷ xs) (suc i) once h =
    let parts = and_parts (not (is_among xs x)) (is_distinct xs) once in
    let inside : i < length xs = omega arith in
    let behind = own-place xs i parts.1 inside in
    let other : nat_eq (get_or xs i 0) x ≡ false = false_from_ne_true _ (λ same.
    let there : is_among xs x ≡ true = ap (is_among xs) (sym (eqb-true _ _ same)) ∙ list_any_at (nat_eq (get_or xs i 0)) xs i 0 inside (eq-eqb _ _ refl) in
    absurd (let none = parts.0 in cc)) in
    rw other (omega (arith, behind))

pub own-among : (xs : List ℕ) (i : ℕ) → i < length xs → is_among xs (get_or xs i 0) ≡ true
own-among xs i h = list_any_at (nat_eq (get_or xs i 0)) xs i 0 h (eq-eqb (get_or xs i 0) (get_or xs i 0) refl)

-- the place of a number in a list has that number
pub place-of : (xs : List ℕ) (n : ℕ) → is_among xs n ≡ true → (position_or_len (nat_eq n) xs < length xs) × (get_or xs (position_or_len (nat_eq n) xs) 0 ≡ n)
place-of xs n h =
    let within = first-within (nat_eq n) xs h in
    (within, sym (eqb-true _ _ (passes_at_first (nat_eq n) xs 0 within)))
