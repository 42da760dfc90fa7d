-- Pieces of the bytes left and of the bytes written.
use Rattle.std.proofs.Common.{◌≡◌, ℕ, ◌<◌, ◌≤◌, List, [], ◌∷◌, ◌++◌, length, take, drop, min, arith, sym, ap, ◌∙◌, ◌%◌, Result, Ok, Err, IfOk}
use Rattle.std.specs.List.{All}
use Rattle.std.proofs.Math.Nat.{mod-lt}
use Rattle.std.proofs.lemmas.List.{take-append-drop, drop-append-le}
use Rattle.std.proofs.lemmas.List.Elements.{All-get_or}
use Rattle.far_io.specs.Memory.{piece_of}

-- A call passes on at least one byte, if there is one.
pub piece_of-some : (sizes : List ℕ) (call n : ℕ) → All (λ size. 0 < size) sizes → 0 < n → 0 < piece_of sizes call n
piece_of-some [] call n positive some = some
piece_of-some (size ∷ sizes) call n positive some =
    let place : call % length (size ∷ sizes) < length (size ∷ sizes) = mod-lt call (omega arith) in
    let here = All-get_or (λ s. 0 < s) (size ∷ sizes) (call % length (size ∷ sizes)) 1 place positive in
    omega (arith, here, some)

-- The bytes that a read leaves in its part of a buffer, it leaves in the whole buffer.
pub rest-of_part : (size n : ℕ) (part buf : List ℕ) → n ≤ length part → length part ≡ length (take size buf) →
    drop n part ≡ drop n (take size buf) → drop n (part ++ drop size buf) ≡ drop n buf
rest-of_part size n part buf within same rest =
    drop-append-le n part (drop size buf) within
    ∙ ap (λ r. r ++ drop size buf) rest
    ∙ sym (drop-append-le n (take size buf) (drop size buf) (omega (arith, within, same)))
    ∙ ap (drop n) (take-append-drop size buf)

-- The bytes that a successful read leaves in its part of a buffer, it leaves in the whole buffer.
pub OnOk-rest : {E : Type 0} (r : Result ℕ E) (size most : ℕ) (part buf : List ℕ) → IfOk r (λ n. n ≡ min most (length (take size buf))) →
    length part ≡ length (take size buf) → IfOk r (λ n. drop n part ≡ drop n (take size buf)) →
    IfOk r (λ n. drop n (part ++ drop size buf) ≡ drop n buf)
OnOk-rest (Ok n) size most part buf count same rest = rest-of_part size n part buf (omega (arith, count, same)) same rest
OnOk-rest (Err e) size most part buf count same rest = tt
