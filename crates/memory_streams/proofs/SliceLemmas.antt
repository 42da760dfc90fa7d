-- The slice of a sink keeps its name and, behind the text, its bytes.
use Rattle.std.proofs.Common.{◌≡◌, ℕ, zero, suc, ◌+◌, ◌*◌, ◌<◌, List, [], ◌∷◌, drop, refl, ap, sym, ◌∙◌, arith}
use Rattle.std.proofs.lemmas.List.{drop-drop}
use Rattle.memory_streams.specs.Number.{doubled, number_of_list}

more-than-nothing : (count n : ℕ) → 0 < n → 0 < doubled count n
more-than-nothing zero n some = some
more-than-nothing (suc count) n some = let more = more-than-nothing count n some in omega arith

same-odd : (j k m n : ℕ) → doubled j (2 * m + 1) ≡ doubled k (2 * n + 1) → (j ≡ k) × (m ≡ n)
same-odd zero zero m n same = (refl, omega arith)
same-odd zero (suc k) m n same = absurd (omega arith)
same-odd (suc j) zero m n same = absurd (omega arith)
same-odd (suc j) (suc k) m n same = let both = same-odd j k m n (omega arith) in (ap suc both.0, both.1)

-- different lists have different numbers
same-list : (xs ys : List ℕ) → number_of_list xs ≡ number_of_list ys → xs ≡ ys
unfolding number_of_list
same-list [] [] same = refl
same-list [] (y ∷ ys) same = absurd (omega (arith, more-than-nothing y (2 * number_of_list ys + 1) (omega arith)))
same-list (x ∷ xs) [] same = absurd (omega (arith, more-than-nothing x (2 * number_of_list xs + 1) (omega arith)))
same-list (x ∷ xs) (y ∷ ys) same =
    let both = same-odd x y (number_of_list xs) (number_of_list ys) same in
    let first : x ≡ y = both.0 in
    let rest : xs ≡ ys = same-list xs ys both.1 in
    cc

-- the number stays with the name and the first bytes
pub number-kept : {name name' : ℕ} {bytes bytes' : List ℕ} → name' ≡ name → bytes' ≡ bytes → number_of_list (name' ∷ bytes') ≡ number_of_list (name ∷ bytes)
number-kept same_name same_bytes = cc

-- the name and the first bytes stay with the number
pub slice-kept : (name name' : ℕ) (bytes bytes' : List ℕ) → number_of_list (name' ∷ bytes') ≡ number_of_list (name ∷ bytes) → (name' ≡ name) × (bytes' ≡ bytes)
slice-kept name name' bytes bytes' same = let list : name' ∷ bytes' ≡ name ∷ bytes = same-list (name' ∷ bytes') (name ∷ bytes) same in (cc, cc)

-- bytes that stay behind a place stay behind a later one
pub later-kept : (out before : List ℕ) (at n : ℕ) → drop at out ≡ drop at before → drop (at + n) out ≡ drop (at + n) before
later-kept out before at n kept = sym (drop-drop n at out) ∙ ap (drop n) kept ∙ drop-drop n at before
