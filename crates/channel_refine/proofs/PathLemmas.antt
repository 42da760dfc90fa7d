-- Control numbers as values over 1.
use Rattle.std.proofs.Common.{◌≡◌, ℕ, ◌+◌, ◌<◌, ℤ, List, [], ◌∷◌, ◌++◌, length, map, take, get_or, refl, ap, sym, ◌∙◌}
use Rattle.std.proofs.lemmas.List.{map-append, take_more}
use Rattle.ratio128.specs.declared.valued.Valued.{Valued}
use Rattle.primvar_refine.specs.View.{rows_of}
use Rattle.channel_refine.specs.Evaluated.{control_rows}
use Rattle.channel_refine.specs.View.{control_of}

-- one more control
pub next-control : {P : Type 0} (numbers : List P) (i : ℕ) (d p : P) (old new : List (Valued P)) → i < length numbers → p ≡ get_or numbers i d → old ≡ map control_of (take i numbers)
    → new ≡ old ++ control_of p ∷ [] → new ≡ map control_of (take (i + 1) numbers)
next-control numbers i d p old new within is before pushed =
    pushed
    ∙ ap (λ xs. xs ++ control_of p ∷ []) before
    ∙ ap (λ x. map control_of (take i numbers) ++ control_of x ∷ []) is
    ∙ sym (map-append control_of (take i numbers) (get_or numbers i d ∷ []))
    ∙ ap (map control_of) (sym (take_more numbers i d within))

-- the controls of a table are the same rows
pub control-rows : {P : Type 0} (numbers : P → List ℤ) (points : List P) → control_rows (map numbers points) ≡ rows_of numbers (map control_of points)
control-rows numbers [] = refl
control-rows numbers (p ∷ points) = ap (λ rows. record { numbers = numbers p; den = 1 } ∷ rows) (control-rows numbers points)
