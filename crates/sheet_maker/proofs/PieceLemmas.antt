-- Pieces of one length in a row: their number of elements, and the place of each element.
use Rattle.std.proofs.Common.{◌≡◌, ℕ, ◌+◌, ◌*◌, ◌<◌, List, [], ◌∷◌, length, get_or, take, arith, ap, ◌∙◌}
use Rattle.std.specs.List.{flat_map}
use Rattle.std.proofs.lemmas.List.{length-append, length-take-le}
use Rattle.std.proofs.lemmas.List.Concat.{get_or-flat_map}

-- pieces of n elements each have n elements for each piece
pub pieces-length : {X Y : Type 0} (parts : X → List Y) (n : ℕ) → ((x : X) → length (parts x) ≡ n) → (xs : List X) → length (flat_map parts xs) ≡ length xs * n
pieces-length parts n each [] = omega arith
pieces-length parts n each (x ∷ xs) =
    let behind = pieces-length parts n each xs in
    omega (arith, behind, each x, length-append (parts x) (flat_map parts xs))

-- element j of piece i comes after i pieces and j elements
pub piece-at : {X Y : Type 0} (parts : X → List Y) (n : ℕ) → ((x : X) → length (parts x) ≡ n) → (xs : List X) (i j : ℕ) (e : X) (d : Y) → i < length xs → j < n
    → get_or (flat_map parts xs) (i * n + j) d ≡ get_or (parts (get_or xs i e)) j d
piece-at parts n each xs i j e d h k =
    let before : length (take i xs) ≡ i = length-take-le i xs (omega arith) in
    let place : i * n + j ≡ length (flat_map parts (take i xs)) + j = omega (arith, pieces-length parts n each (take i xs), ap (λ (m : ℕ). m * n) before) in
    ap (λ (m : ℕ). get_or (flat_map parts xs) m d) place ∙ get_or-flat_map parts xs i j e d h (omega (arith, k, each (get_or xs i e)))
