-- Three numbers written one after another.
use Rattle.std.proofs.Common.{◌≡◌, ℕ, ℤ, ◌+◌, ◌^◌, ◌<◌, ◌≤◌, List, [], ◌∷◌, ◌++◌, length, take, get_or, to_z, of_z, unsigned_abs, arith, sym, subst, append_assoc}
use Rattle.std.specs.Int.{w128}
use Rattle.std.proofs.lemmas.Int.{to_z-of_z, fits_signed_from_abs}
use Rattle.nearest_float.specs.Binary.{Format}
use Rattle.nearest_float.specs.Nearest.{IsNearest}
use Rattle.nearest_float.specs.NearestArrays.{AreNearest}
use Rattle.nearest_float.proofs.ArrayLemmas.{AreNearest-put}

-- a number that is passed
passed : (f : Format) (n : ℤ) (den one : ℕ) → unsigned_abs n < 2 ^ 127 → IsNearest f (to_z w128 (of_z w128 n)) den one → IsNearest f n den one
passed f n den one fits is = subst (λ z. IsNearest f z den one) (to_z-of_z w128 n (fits_signed_from_abs w128 n fits)) is

put-more : (f : Format) (fractions : List (ℤ × ℕ)) (before after : List ℕ) (at next : ℕ) (n : ℤ) (den : ℕ) → unsigned_abs n < 2 ^ 127 → next ≡ at + 1 →
    at < length after → take at after ≡ take at before → IsNearest f (to_z w128 (of_z w128 n)) den (get_or after at 0) →
    AreNearest f fractions (take at before) → AreNearest f (fractions ++ (n, den) ∷ []) (take next after)
put-more f fractions before after at next n den fits is inside kept one all =
    subst (λ k. AreNearest f (fractions ++ (n, den) ∷ []) (take k after)) (sym is)
    (AreNearest-put f fractions before after at n den inside kept (passed f n den (get_or after at 0) fits one) all)

joined : (fractions : List (ℤ × ℕ)) (x y z : ℤ × ℕ) → ((fractions ++ x ∷ []) ++ y ∷ []) ++ z ∷ [] ≡ fractions ++ x ∷ y ∷ z ∷ []
joined fractions x y z = simp append_assoc

-- the arrays before and after each of three numbers
pub put-three : (f : Format) (before first second third : List ℕ) (at : ℕ) (x y z : ℤ) (den : ℕ) → at + 3 ≤ length before →
    unsigned_abs x < 2 ^ 127 → unsigned_abs y < 2 ^ 127 → unsigned_abs z < 2 ^ 127 →
    length first ≡ length before → length second ≡ length first → length third ≡ length second →
    take at first ≡ take at before → take (at + 1) second ≡ take (at + 1) first → take (at + 2) third ≡ take (at + 2) second →
    IsNearest f (to_z w128 (of_z w128 x)) den (get_or first at 0) → IsNearest f (to_z w128 (of_z w128 y)) den (get_or second (at + 1) 0) →
    IsNearest f (to_z w128 (of_z w128 z)) den (get_or third (at + 2) 0) → (fractions : List (ℤ × ℕ)) → AreNearest f fractions (take at before) →
    AreNearest f (fractions ++ (x, den) ∷ (y, den) ∷ (z, den) ∷ []) (take (at + 3) third)
put-three f before first second third at x y z den inside x-fits y-fits z-fits first-len second-len third-len first-kept second-kept third-kept first-is second-is third-is fractions all =
    subst (λ qs. AreNearest f qs (take (at + 3) third)) (joined fractions (x, den) (y, den) (z, den))
    (put-more f ((fractions ++ (x, den) ∷ []) ++ (y, den) ∷ []) second third (at + 2) (at + 3) z den z-fits (omega arith) (omega arith) third-kept third-is
    (put-more f (fractions ++ (x, den) ∷ []) first second (at + 1) (at + 2) y den y-fits (omega arith) (omega arith) second-kept second-is
    (put-more f fractions before first at (at + 1) x den x-fits (omega arith) (omega arith) first-kept first-is all)))
