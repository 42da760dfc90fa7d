-- Nearest numbers joined end to end.
use Rattle.std.proofs.Common.{◌≡◌, ℕ, ℤ, ◌+◌, ◌<◌, List, [], ◌∷◌, ◌++◌, length, take, get_or, sym, ◌∙◌, ap, subst}
use Rattle.std.proofs.lemmas.List.{take_more}
use Rattle.nearest_float.specs.Binary.{Format}
use Rattle.nearest_float.specs.Nearest.{IsNearest}
use Rattle.nearest_float.specs.NearestArrays.{AreNearest}

pub AreNearest-append : (f : Format) (fractions others : List (ℤ × ℕ)) (bits more : List ℕ) → AreNearest f fractions bits → AreNearest f others more →
    AreNearest f (fractions ++ others) (bits ++ more)
AreNearest-append f [] rs [] ys first second = second
AreNearest-append f [] rs (x ∷ xs) ys first second = absurd first
AreNearest-append f (q ∷ qs) rs [] ys first second = absurd first
AreNearest-append f (q ∷ qs) rs (x ∷ xs) ys first second = (first.0, AreNearest-append f qs rs xs ys first.1 second)

pub AreNearest-push : (f : Format) (fractions : List (ℤ × ℕ)) (bits : List ℕ) (num : ℤ) (den one : ℕ) → AreNearest f fractions bits → IsNearest f num den one →
    AreNearest f (fractions ++ (num, den) ∷ []) (bits ++ one ∷ [])
AreNearest-push f qs xs num den bits all one = AreNearest-append f qs ((num, den) ∷ []) xs (bits ∷ []) all (one, tt)

-- a number more behind the first `at`, which stay
pub AreNearest-put : (f : Format) (fractions : List (ℤ × ℕ)) (old new : List ℕ) (at : ℕ) (num : ℤ) (den : ℕ) → at < length new → take at new ≡ take at old →
    IsNearest f num den (get_or new at 0) → AreNearest f fractions (take at old) → AreNearest f (fractions ++ (num, den) ∷ []) (take (at + 1) new)
AreNearest-put f qs old new at num den inside kept one all =
    let split = take_more new at 0 inside ∙ ap (λ xs. xs ++ get_or new at 0 ∷ []) kept in
    subst (λ xs. AreNearest f (qs ++ (num, den) ∷ []) xs) (sym split) (AreNearest-push f qs (take at old) num den (get_or new at 0) all one)
