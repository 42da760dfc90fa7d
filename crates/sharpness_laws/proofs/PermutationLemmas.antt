-- What a list and a permutation of it share.
use Rattle.std.proofs.Common.{◌≡◌, ℕ, zero, suc, ◌<◌, Bool, true, false, cond, List, [], ◌∷◌, ◌++◌, length, get_or, set, arith, refl, ap, sym, ◌∙◌, subst, append_assoc}
use Rattle.std.specs.List.{swap, filter, flat_map}
use Rattle.std.specs.List.Sorted.{IsPermutation}
use Rattle.std.proofs.lemmas.List.Sorted.{IsPermutation-refl, IsPermutation-trans, IsPermutation-cons, IsPermutation-keeps, IsPermutation-append_comm, IsPermutation-append_left, IsPermutation-append_right, IsPermutation-swap}

-- a relation that is kept where two neighbours are exchanged holds between a list and each permutation of it
module _ {X : Type 0} (R : List X → List X → Type 0)
    (unmoved : (xs : List X) → R xs xs)
    (then : (xs ys zs : List X) → R xs ys → R ys zs → R xs zs)
    (longer : (x : X) (xs ys : List X) → R xs ys → R (x ∷ xs) (x ∷ ys))
    (exchanged : (x y : X) (xs : List X) → R (x ∷ y ∷ xs) (y ∷ x ∷ xs)) where
  first-exchanged : (x : X) (xs : List X) (j : ℕ) (d : X) → j < length xs → R (x ∷ xs) (get_or xs j d ∷ set xs j x)
  first-exchanged x [] j d h = absurd (omega arith)
  first-exchanged x (y ∷ xs) zero d h = exchanged x y xs
  first-exchanged x (y ∷ xs) (suc j) d h =
      then _ _ _ (exchanged x y xs) (then _ _ _ (longer y _ _ (first-exchanged x xs j d (omega arith))) (exchanged y (get_or xs j d) (set xs j x)))

  two-exchanged : (xs : List X) (i j : ℕ) (d : X) → i < length xs → j < length xs
      → R xs (set (set xs i (get_or xs j d)) j (get_or xs i d))
  two-exchanged [] i j d h k = absurd (omega arith)
  two-exchanged (x ∷ xs) zero zero d h k = unmoved (x ∷ xs)
  two-exchanged (x ∷ xs) zero (suc j) d h k = first-exchanged x xs j d (omega arith)
  two-exchanged (x ∷ xs) (suc i) zero d h k = first-exchanged x xs i d (omega arith)
  two-exchanged (x ∷ xs) (suc i) (suc j) d h k = longer x _ _ (two-exchanged xs i j d (omega arith) (omega arith))

  swapped : (xs : List X) (i j : ℕ) → i < length xs → j < length xs → R xs (swap xs i j)
  swapped [] i j h k = absurd (omega arith)
  swapped (x ∷ xs) i j h k = two-exchanged (x ∷ xs) i j x h k

  pub by_exchanges : (xs ys : List X) → IsPermutation xs ys → R xs ys
  by_exchanges xs ys h = IsPermutation-keeps xs (R xs) (unmoved xs) (λ l i j p q k. then xs l (swap l i j) k (swapped l i j p q)) ys h

-- a function that goes by the elements one at a time, where two neighbours may go in either order
module _ {X A : Type 0} (f : List X → A) (step : X → A → A)
    (each : (x : X) (xs : List X) → f (x ∷ xs) ≡ step x (f xs))
    (commutes : (x y : X) (a : A) → step x (step y a) ≡ step y (step x a)) where
  pub same_in_any_order : (xs ys : List X) → IsPermutation xs ys → f xs ≡ f ys
  same_in_any_order = by_exchanges (λ xs ys. f xs ≡ f ys) (λ xs. refl) (λ xs ys zs p q. p ∙ q)
      (λ x xs ys p. each x xs ∙ ap (step x) p ∙ sym (each x ys))
      (λ x y xs. each x (y ∷ xs) ∙ ap (step x) (each y xs) ∙ commutes x y (f xs) ∙ sym (ap (step y) (each x xs)) ∙ sym (each y (x ∷ xs)))

-- the first two exchanged
pub first-two : {X : Type 0} (x y : X) (xs : List X) → IsPermutation (x ∷ y ∷ xs) (y ∷ x ∷ xs)
first-two x y xs = IsPermutation-swap (x ∷ y ∷ xs) (y ∷ x ∷ xs) 0 1 (omega arith) (omega arith) refl

pub IsPermutation-filter : {X : Type 0} (test : X → Bool) (xs ys : List X) → IsPermutation xs ys
    → IsPermutation (filter test xs) (filter test ys)
IsPermutation-filter {X = X} test =
    by_exchanges (λ xs ys. IsPermutation (filter test xs) (filter test ys)) (λ xs. IsPermutation-refl (filter test xs))
    (λ xs ys zs. IsPermutation-trans (filter test xs) (filter test ys) (filter test zs))
    (λ x xs ys p. kept (test x) x (filter test xs) (filter test ys) p)
    (λ x y xs. either (test x) (test y) x y (filter test xs))
  where
    kept : (b : Bool) (x : X) (us vs : List X) → IsPermutation us vs → IsPermutation (cond b (x ∷ us) us) (cond b (x ∷ vs) vs)
    kept true x us vs p = IsPermutation-cons x us vs p
    kept false x us vs p = p

    either : (b c : Bool) (x y : X) (us : List X)
        → IsPermutation (cond b (x ∷ cond c (y ∷ us) us) (cond c (y ∷ us) us)) (cond c (y ∷ cond b (x ∷ us) us) (cond b (x ∷ us) us))
    either true true x y us = first-two x y us
    either true false x y us = IsPermutation-refl (x ∷ us)
    either false true x y us = IsPermutation-refl (y ∷ us)
    either false false x y us = IsPermutation-refl us

pub IsPermutation-flat_map : {X Y : Type 0} (parts : X → List Y) (xs ys : List X) → IsPermutation xs ys
    → IsPermutation (flat_map parts xs) (flat_map parts ys)
IsPermutation-flat_map {Y = Y} parts =
    by_exchanges (λ xs ys. IsPermutation (flat_map parts xs) (flat_map parts ys)) (λ xs. IsPermutation-refl (flat_map parts xs))
    (λ xs ys zs. IsPermutation-trans (flat_map parts xs) (flat_map parts ys) (flat_map parts zs))
    (λ x xs ys p. IsPermutation-append_right (parts x) (flat_map parts xs) (flat_map parts ys) p)
    (λ x y xs. two (parts x) (parts y) (flat_map parts xs))
  where
    two : (us vs ws : List Y) → IsPermutation (us ++ (vs ++ ws)) (vs ++ (us ++ ws))
    two us vs ws =
        let moved : IsPermutation ((us ++ vs) ++ ws) ((vs ++ us) ++ ws) =
        IsPermutation-append_left ws (us ++ vs) (vs ++ us) (IsPermutation-append_comm us vs) in
        let left : IsPermutation (us ++ (vs ++ ws)) ((vs ++ us) ++ ws) =
        subst (λ l. IsPermutation l ((vs ++ us) ++ ws)) (append_assoc us vs ws) moved in
        subst (λ l. IsPermutation (us ++ (vs ++ ws)) l) (append_assoc vs us ws) left
