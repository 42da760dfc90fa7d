-- Whole lists of a level's tables, read at a place.
use Rattle.std.proofs.Common.{◌≡◌, ℕ, ◌<◌, List, length, map, get_or, arith, ap, sym, ◌∙◌}
use Rattle.std.proofs.lemmas.List.{get_or-map, length-map}

-- where two functions give equal lists, they give equal items
pub maps-at : {X Y Z : Type 0} (f : X → Z) (g : Y → Z) (xs : List X) (ys : List Y) (i : ℕ) (d : X) (e : Y) → map f xs ≡ map g ys → i < length ys → f (get_or xs i d) ≡ g (get_or ys i e)
maps-at f g xs ys i d e same inside =
    let within : i < length xs = omega (arith, ap length same, length-map xs f, length-map ys g) in
    sym (get_or-map f xs i d (f d) within) ∙ ap (λ zs. get_or zs i (f d)) same ∙ get_or-map g ys i e (f d) inside
