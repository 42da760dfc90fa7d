-- Lists that are made item by item.
use Rattle.std.proofs.Common.{◌≡◌, ℕ, ◌+◌, ◌<◌, ◌≤◌, List, [], ◌∷◌, ◌++◌, length, map, take, get_or, ap, sym, ◌∙◌}
use Rattle.std.proofs.lemmas.List.{map_more, take_all}
use Rattle.part_laws.proofs.ListLemmas.{map-twice}

-- one value more of those that a function gives
pub made-more : {X Y : Type 0} (g : X → Y) (xs : List X) (old new : List Y) (i : ℕ) (d : X) (y : Y) → i < length xs → old ≡ map g (take i xs) → new ≡ old ++ y ∷ [] → y ≡ g (get_or xs i d) → new ≡ map g (take (i + 1) xs)
made-more g xs old new i d y inside e f h = f ∙ ap (λ ys. ys ++ y ∷ []) e ∙ ap (λ z. map g (take i xs) ++ z ∷ []) h ∙ sym (map_more g xs i d inside)

pub made-all : {X Y : Type 0} (g : X → Y) (xs : List X) (made : List Y) (i : ℕ) → length xs ≤ i → made ≡ map g (take i xs) → made ≡ map g xs
made-all g xs made i past e = e ∙ ap (map g) (take_all i xs past)

-- all values of a function that reads the list through another function
pub made-through : {X Y Z : Type 0} (f : X → Y) (g : Y → Z) (xs : List X) (made : List Z) (i : ℕ) → length xs ≤ i → made ≡ map (λ x. g (f x)) (take i xs) → made ≡ map g (map f xs)
made-through f g xs made i past e = made-all (λ x. g (f x)) xs made i past e ∙ sym (map-twice f g xs)
