-- The rows of flat arrays.
use Rattle.std.proofs.Common.{◌≡◌, ℕ, zero, suc, ◌+◌, ◌<◌, ◌≤◌, List, [], ◌∷◌, ◌++◌, length, map, get_or, arith, refl, ap, slice_range}
use Rattle.std.proofs.lemmas.Grind.{common_steps}
use Rattle.std.proofs.lemmas.List.Sums.{sum_by-cons}
use Rattle.stencil_apply.specs.Table.{Share, Row, entries_of}
use Rattle.stencil_apply.specs.Arrays.{rows_from, Ascend}

-- the denominators are those that were given
pub dens-rows_from : (from : ℕ) (ends dens : List ℕ) (shares : List Share) → length dens ≡ length ends → map (λ (r : Row). r.den) (rows_from from ends dens shares) ≡ dens
dens-rows_from from [] [] shares h = refl
dens-rows_from from [] (den ∷ dens) shares h = absurd (omega (arith, h))
dens-rows_from from (end ∷ ends) [] shares h = absurd (omega (arith, h))
dens-rows_from from (end ∷ ends) (den ∷ dens) shares h = ap (λ xs. den ∷ xs) (dens-rows_from end ends dens shares (omega (arith, h)))

-- a row for each end
pub length-rows_from : (from : ℕ) (ends dens : List ℕ) (shares : List Share) → length dens ≡ length ends → length (rows_from from ends dens shares) ≡ length ends
length-rows_from from [] dens shares e = refl
length-rows_from from (end ∷ ends) [] shares e = absurd (omega (arith, e))
length-rows_from from (end ∷ ends) (den ∷ dens) shares e = omega (arith, length-rows_from end ends dens shares (omega (arith, e)))

-- a row is its denominator and its part of the shares
pub row_from-at : (from : ℕ) (ends dens : List ℕ) (shares : List Share) (i : ℕ) (d : Row) (n : ℕ) → length dens ≡ length ends → i < length ends → get_or (rows_from from ends dens shares) i d ≡ record { den = get_or dens i n; shares = slice_range shares (get_or (from ∷ ends) i 0) (get_or ends i 0) }
row_from-at from [] dens shares i d n e h = absurd (omega arith)
row_from-at from (end ∷ ends) [] shares i d n e h = absurd (omega (arith, e))
row_from-at from (end ∷ ends) (den ∷ dens) shares zero d n e h = refl
row_from-at from (end ∷ ends) (den ∷ dens) shares (suc i) d n e h = row_from-at end ends dens shares i d n (omega (arith, e)) (omega arith)

from_below : (from : ℕ) (ends : List ℕ) (last : ℕ) → Ascend from ends last → from ≤ last
from_below from [] last a = omega (arith, a)
from_below from (end ∷ ends) last a = omega (arith, a.0, from_below end ends last a.1)

-- a row ends where it begins or later, and within the array
pub ascend-at : (from : ℕ) (ends : List ℕ) (last i : ℕ) → Ascend from ends last → i < length ends → (get_or (from ∷ ends) i 0 ≤ get_or ends i 0) × (get_or ends i 0 ≤ last)
ascend-at from [] last i a h = absurd (omega arith)
ascend-at from (end ∷ ends) last zero a h = (a.0, from_below end ends last a.1)
ascend-at from (end ∷ ends) last (suc i) a h = ascend-at end ends last i a.1 (omega arith)

-- one row more ascends
pub Ascend-push : (from : ℕ) (ends : List ℕ) (last more : ℕ) → Ascend from ends last → Ascend from (ends ++ (last + more) ∷ []) (last + more)
Ascend-push from [] last more a = (omega (arith, a), refl)
Ascend-push from (end ∷ ends) last more a = (a.0, Ascend-push end ends last more a.1)

-- a part of a list stays when more comes after it
range-append : {X : Type 0} (xs ys : List X) (a b : ℕ) → b ≤ length xs → slice_range (xs ++ ys) a b ≡ slice_range xs a b
range-append xs ys a b h = grind (arith, common_steps)

range-rest : {X : Type 0} (xs ys : List X) → slice_range (xs ++ ys) (length xs) (length xs + length ys) ≡ ys
range-rest xs ys = grind (arith, common_steps)

length-range : {X : Type 0} (xs : List X) (a b : ℕ) → a ≤ b → b ≤ length xs → length (slice_range xs a b) + a ≡ b
length-range xs a b h k = grind (arith, common_steps)

abbrev made : ℕ → List Share → Row
made den shares = record { den = den; shares = shares }

-- lists with equal firsts and rests
pub cons_both : {Y : Type 0} {p q : Y} {ps qs : List Y} → p ≡ q → ps ≡ qs → (p ∷ ps) ≡ (q ∷ qs)
cons_both e f = cc

-- one row more in the arrays is one row more in the table
pub rows_from-push : (from : ℕ) (ends dens : List ℕ) (den : ℕ) (shares more : List Share) → Ascend from ends (length shares) → length dens ≡ length ends → rows_from from (ends ++ (length shares + length more) ∷ []) (dens ++ den ∷ []) (shares ++ more) ≡ rows_from from ends dens shares ++ (record { den = den; shares = more }) ∷ []
rows_from-push from [] [] den shares more a e = ap (λ s. made den s ∷ []) (rw a (range-rest shares more))
rows_from-push from [] (d ∷ dens) den shares more a e = absurd (omega (arith, e))
rows_from-push from (end ∷ ends) [] den shares more a e = absurd (omega (arith, e))
rows_from-push from (end ∷ ends) (d ∷ dens) den shares more a e =
    cons_both (ap (made d) (range-append shares more from end (from_below end ends (length shares) a.1))) (rows_from-push end ends dens den shares more a.1 (omega (arith, e)))

entries_from : (from : ℕ) (ends dens : List ℕ) (shares : List Share) → Ascend from ends (length shares) → length dens ≡ length ends → entries_of (rows_from from ends dens shares) + from ≡ length shares
entries_from from [] dens shares a e = omega (arith, a)
entries_from from (end ∷ ends) [] shares a e = absurd (omega (arith, e))
entries_from from (end ∷ ends) (den ∷ dens) shares a e =
    omega (arith, sum_by-cons (λ row. length row.shares) (made den (slice_range shares from end)) (rows_from end ends dens shares), entries_from end ends dens shares a.1 (omega (arith, e)), length-range shares from end a.0 (from_below end ends (length shares) a.1))

-- the rows have all shares
pub entries-whole : (ends dens : List ℕ) (shares : List Share) → Ascend 0 ends (length shares) → length dens ≡ length ends → entries_of (rows_from 0 ends dens shares) ≡ length shares
entries-whole ends dens shares a e = omega (arith, entries_from 0 ends dens shares a e)
