-- Lists that grow by one item after another.
use Rattle.std.proofs.Common.{◌≡◌, ℕ, ◌+◌, List, [], ◌∷◌, ◌++◌, map, arith, ap, sym, ◌∙◌}
use Rattle.std.specs.List.{range_with_len}
use Rattle.std.proofs.lemmas.List.{map_push}
use Rattle.std.proofs.lemmas.List.FromFn.{map-range_with_len_more}

-- one item more of the values of a function for each number
pub pushed : {X Y : Type 0} (view : X → Y) (f : ℕ → Y) (n : ℕ) (old new : List X) (x : X) → new ≡ old ++ x ∷ [] → view x ≡ f n
    → map view old ≡ map f (range_with_len 0 n) → map view new ≡ map f (range_with_len 0 (n + 1))
pushed view f n old new x put is before =
    ap (map view) put ∙ map_push view old x ∙ ap (λ ys. ys ++ view x ∷ []) before
    ∙ ap (λ y. map f (range_with_len 0 n) ++ y ∷ []) is ∙ sym (map-range_with_len_more f 0 n n (omega arith))
