-- Lists over ranges of numbers.
use Rattle.std.proofs.Common.{◌≡◌, ℕ, zero, suc, ◌+◌, ◌*◌, ◌<◌, List, [], ◌∷◌, ◌++◌, length, map, get_or, arith, ap, sym, ◌∙◌, add-one}
use Rattle.std.specs.Prelude.{zip}
use Rattle.std.specs.List.{All, flat_map, range_with_len}
use Rattle.std.proofs.lemmas.List.{append-nil, append_assoc, length-append}
use Rattle.std.proofs.lemmas.List.Elements.{All-nil, All-cons, All-append}
use Rattle.std.proofs.lemmas.Grind.{flat_map-append}

-- a property of the item of each number of a range
pub all-map : {X : Type 0} (P : X → Type 0) (f : ℕ → X) (a n : ℕ) → ((j : ℕ) → j < a + n → P (f j)) → All P (map f (range_with_len a n))
all-map P f a zero each = All-nil P
all-map P f a (suc n) each =
    All-cons P (f a) (map f (range_with_len (a + 1) n)) (each a (omega arith)) (all-map P f (a + 1) n (λ j less. each j (omega (arith, less))))

pub all-flat : {X : Type 0} (P : X → Type 0) (f : ℕ → List X) (a n : ℕ) → ((j : ℕ) → j < a + n → All P (f j)) → All P (flat_map f (range_with_len a n))
all-flat P f a zero each = All-nil P
all-flat P f a (suc n) each =
    All-append P (f a) (flat_map f (range_with_len (a + 1) n)) (each a (omega arith)) (all-flat P f (a + 1) n (λ j less. each j (omega (arith, less))))

-- the length of lists of one length
pub length-flat : {X : Type 0} (f : ℕ → List X) (each a n : ℕ) → ((j : ℕ) → length (f j) ≡ each) → length (flat_map f (range_with_len a n)) ≡ n * each
length-flat f each a zero same = omega arith
length-flat f each a (suc n) same =
    omega (arith, length-append (f a) (flat_map f (range_with_len (a + 1) n)), same a, length-flat f each (a + 1) n same)

flat-suc : {X : Type 0} (f : ℕ → List X) (a n j : ℕ) → a + n ≡ j → flat_map f (range_with_len a (suc n)) ≡ flat_map f (range_with_len a n) ++ f j
flat-suc f a zero j e =
    let same : a ≡ j = omega (arith, e) in append-nil (f a) ∙ ap f same
flat-suc f a (suc n) j e =
    ap (λ xs. f a ++ xs) (flat-suc f (a + 1) n j (omega (arith, e))) ∙ sym (append_assoc (f a) (flat_map f (range_with_len (a + 1) n)) (f j))

-- the item of one more number
pub flat-more : {X : Type 0} (f : ℕ → List X) (a n j : ℕ) → a + n ≡ j → flat_map f (range_with_len a (n + 1)) ≡ flat_map f (range_with_len a n) ++ f j
flat-more f a n j e = ap (λ k. flat_map f (range_with_len a k)) (add-one n) ∙ flat-suc f a n j e

-- one more pair of a number and the item beside it
zip-suc : (a n j : ℕ) (xs : List ℕ) → n < length xs → a + n ≡ j → zip (range_with_len a (suc n)) xs ≡ zip (range_with_len a n) xs ++ (j, get_or xs n 0) ∷ []
zip-suc a n j [] h e = absurd (omega arith)
zip-suc a zero j (x ∷ xs) h e =
    let same : a ≡ j = omega (arith, e) in ap (λ k. (k, x) ∷ []) same
zip-suc a (suc n) j (x ∷ xs) h e = ap (λ ps. (a, x) ∷ ps) (zip-suc (a + 1) n j xs (omega (arith, h)) (omega (arith, e)))

pub flat-zip-more : {X : Type 0} (f : ℕ × ℕ → List X) (a n j : ℕ) (xs : List ℕ) → n < length xs → a + n ≡ j
    → flat_map f (zip (range_with_len a (n + 1)) xs) ≡ flat_map f (zip (range_with_len a n) xs) ++ f (j, get_or xs n 0)
flat-zip-more f a n j xs h e =
    ap (λ k. flat_map f (zip (range_with_len a k) xs)) (add-one n)
    ∙ ap (flat_map f) (zip-suc a n j xs h e)
    ∙ flat_map-append f (zip (range_with_len a n) xs) ((j, get_or xs n 0) ∷ [])
    ∙ ap (λ ys. flat_map f (zip (range_with_len a n) xs) ++ ys) (append-nil (f (j, get_or xs n 0)))
