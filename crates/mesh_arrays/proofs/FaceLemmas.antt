-- The faces so far, and one more.
use Rattle.std.proofs.Common.{◌≡◌, ℕ, ◌+◌, ◌^◌, ◌<◌, ◌≤◌, List, [], ◌∷◌, ◌++◌, length, map, sum, take, Some, slice_get, arith, ap, sym, ◌∙◌}
use Rattle.std.specs.List.{flat_map, sum_by}
use Rattle.std.proofs.lemmas.List.{append-nil, map-append, take_more}
use Rattle.std.proofs.lemmas.List.Sums.{sum-map, sum_by-append, sum_by-take-le}
use Rattle.std.proofs.lemmas.Grind.{flat_map-append}
use Rattle.std.proofs.lemmas.Option.{get_or_from_slice_get, slice_get_within}

-- Lists with equal sizes have equally many items in all.
pub same-count : (xs ys : List (List ℕ)) → map length xs ≡ map length ys → sum_by length xs ≡ sum_by length ys
same-count xs ys same = sym (sum-map length xs) ∙ ap sum same ∙ sum-map length ys

module _ (faces : List (List ℕ)) (f : ℕ) (face : List ℕ) (at : slice_get faces f ≡ Some face) where
  taken : take (f + 1) faces ≡ take f faces ++ face ∷ []
  taken = take_more faces f face (slice_get_within faces f face at) ∙ ap (λ y. take f faces ++ y ∷ []) (get_or_from_slice_get faces f face face at)

  pub sizes-next : map length (take (f + 1) faces) ≡ map length (take f faces) ++ length face ∷ []
  sizes-next = ap (map length) taken ∙ map-append length (take f faces) (face ∷ [])

  pub count-next : sum_by length (take (f + 1) faces) ≡ sum_by length (take f faces) + length face
  count-next = ap (sum_by length) taken ∙ sum_by-append length (take f faces) (face ∷ []) ∙ omega (arith)

  pub corners-next : flat_map (λ (x : List ℕ). x) (take (f + 1) faces) ≡ flat_map (λ (x : List ℕ). x) (take f faces) ++ face
  corners-next = ap (flat_map (λ (x : List ℕ). x)) taken ∙ flat_map-append (λ (x : List ℕ). x) (take f faces) (face ∷ []) ∙ ap (λ xs. flat_map (λ (x : List ℕ). x) (take f faces) ++ xs) (append-nil face)

  pub corners-fit : sum_by length (take f faces) + length face ≤ sum_by length faces
  corners-fit = omega (arith, count-next, sum_by-take-le length faces (f + 1))

  pub size-fits : sum_by length faces < 2 ^ 27 → length face < 2 ^ 32
  size-fits few = omega (arith, few, corners-fit)
