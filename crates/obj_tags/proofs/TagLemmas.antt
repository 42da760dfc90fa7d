-- How much was read of a tag.
use Rattle.std.proofs.Common.{◌≡◌, ℕ, ◌+◌, ◌≤◌, List, length, map, take, drop, arith, ap, sym, ◌∙◌, length-drop}
use Rattle.std.proofs.lemmas.List.{length-map, length-take-le}

-- n words give n values
pub length-said : {X : Type 0} (read : List ℕ → X) (n : ℕ) (words : List (List ℕ)) → n ≤ length words → length (map read (take n words)) ≡ n
length-said read n words h = length-map (take n words) read ∙ length-take-le n words h

-- The lists that were read have the lengths of the counts.
pub sizes-said : {S X Y : Type 0} (view : S → X) (read : List ℕ → X) (index : List ℕ → Y) (wholes numerals : ℕ) (words : List (List ℕ)) (vertices : List Y) (values : List S)
    → wholes + numerals ≤ length words → vertices ≡ map index (take wholes words)
    → map view values ≡ map read (take numerals (drop wholes words)) → (length vertices ≡ wholes) × (length values ≡ numerals)
sizes-said view read index wholes numerals words vertices values enough e f = (
  ap length e ∙ length-said index wholes words (omega arith),
  sym (length-map values view) ∙ ap length f ∙ length-said read numerals (drop wholes words) (omega (arith, length-drop wholes words)),
)
