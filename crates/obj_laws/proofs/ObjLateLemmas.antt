-- Lines of another channel have no late fault, and the lines of a kind by their places.
use Rattle.std.proofs.Common.{◌≡◌, ℕ, suc, ◌+◌, ◌<◌, Bool, List, [], ◌∷◌, length, map, get_or, arith, refl, ap, sym, ◌∙◌}
use Rattle.std.specs.List.{filter}
use Rattle.std.proofs.lemmas.Bool.{cond_both, cond-true, cond-false}
use Rattle.subdiv_model.specs.Lists.{places, places_from}

filter-places-from : {X : Type 0} (kind : X → Bool) (f : ℕ → X) (d : X) (place : ℕ) (xs : List X)
    → ((i : ℕ) → i < length xs → f (place + i) ≡ get_or xs i d) → map f (places_from place kind xs) ≡ filter kind xs
filter-places-from kind f d place [] h = refl
filter-places-from kind f d place (x ∷ xs) h =
    let rest : map f (places_from (place + 1) kind xs) ≡ filter kind xs =
    filter-places-from kind f d (place + 1) xs (λ i low. let e : place + 1 + i ≡ place + suc i = omega arith in ap f e ∙ h (suc i) (omega arith)) in
    let first : place ≡ place + 0 = omega arith in
    let here : f place ≡ x = ap f first ∙ h 0 (omega arith) in
    cond_both (kind x) (place ∷ places_from (place + 1) kind xs) (places_from (place + 1) kind xs) (λ ps. map f ps ≡ filter kind (x ∷ xs))
    (λ passes. ap (λ y. y ∷ map f (places_from (place + 1) kind xs)) here ∙ ap (λ ys. x ∷ ys) rest ∙ sym (cond-true (kind x) (x ∷ filter kind xs) (filter kind xs) passes))
    (λ fails. rest ∙ sym (cond-false (kind x) (x ∷ filter kind xs) (filter kind xs) fails))

-- the lines of a kind are those at the places of the kind
pub filter-places : {X : Type 0} (kind : X → Bool) (d : X) (xs : List X) → map (λ i. get_or xs i d) (places kind xs) ≡ filter kind xs
filter-places kind d xs = filter-places-from kind (λ i. get_or xs i d) d 0 xs (λ i low. let e : 0 + i ≡ i = omega arith in ap (λ j. get_or xs j d) e)
