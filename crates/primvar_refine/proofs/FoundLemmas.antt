-- The denominators of values, one by one.
use Rattle.std.proofs.Common.{◌≡◌, ℕ, ◌+◌, ◌<◌, ◌≤◌, ℤ, List, [], ◌∷◌, ◌++◌, length, take, get_or, ap, sym, ◌∙◌, subst}
use Rattle.std.proofs.lemmas.List.{take_more, take_all, length-map, get_or-map}
use Rattle.ratio128.specs.declared.valued.Valued.{Valued}
use Rattle.primvar_refine.specs.Rows.{Row, dens_of}
use Rattle.primvar_refine.specs.View.{row_of, rows_of}

-- there is one for each value
length-dens : {P : Type 0} (numbers : P → List ℤ) (values : List (Valued P)) → length (dens_of (rows_of numbers values)) ≡ length values
length-dens numbers values = length-map (rows_of numbers values) (λ (row : Row). row.den) ∙ length-map values (row_of numbers)

-- at its place
den-at : {P : Type 0} (numbers : P → List ℤ) (values : List (Valued P)) (i : ℕ) (v : Valued P) → i < length values
    → get_or (dens_of (rows_of numbers values)) i 1 ≡ (get_or values i v).den
den-at numbers values i v inside =
    get_or-map (λ (row : Row). row.den) (rows_of numbers values) i (row_of numbers v) 1 (subst (λ n. i < n) (sym (length-map values (row_of numbers))) inside)
    ∙ ap (λ (row : Row). row.den) (get_or-map (row_of numbers) values i v (row_of numbers v) inside)

-- one value more
pub dens-more : {P : Type 0} (numbers : P → List ℤ) (values : List (Valued P)) (i : ℕ) (v : Valued P) (dens new : List ℕ) → i < length values
    → dens ≡ take i (dens_of (rows_of numbers values)) → v ≡ get_or values i v → new ≡ dens ++ v.den ∷ [] → new ≡ take (i + 1) (dens_of (rows_of numbers values))
dens-more numbers values i v dens new inside e at pushed =
    let all = dens_of (rows_of numbers values) in
    let here : v.den ≡ get_or all i 1 = ap (λ (x : Valued _). x.den) at ∙ sym (den-at numbers values i v inside) in
    pushed ∙ ap (λ xs. xs ++ v.den ∷ []) e ∙ ap (λ n. take i all ++ n ∷ []) here
    ∙ sym (take_more all i 1 (subst (λ n. i < n) (sym (length-dens numbers values)) inside))

-- all values
pub dens-all : {P : Type 0} (numbers : P → List ℤ) (values : List (Valued P)) (i : ℕ) (dens : List ℕ) → length values ≤ i
    → dens ≡ take i (dens_of (rows_of numbers values)) → dens ≡ dens_of (rows_of numbers values)
dens-all numbers values i dens past e =
    e ∙ take_all i (dens_of (rows_of numbers values)) (subst (λ n. n ≤ i) (sym (length-dens numbers values)) past)
