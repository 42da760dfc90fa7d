-- Sums by place: what an addition changes, and the shares that are read from the sums.
use Rattle.std.proofs.Common.{◌≡◌, ℕ, zero, suc, ◌+◌, ◌*◌, ◌<◌, ◌≤◌, Bool, true, false, ◌||◌, nat_eq, nat_lt, if◌then◌else◌, ℤ, pos, ◌+ℤ◌, ◌*ℤ◌, List, [], ◌∷◌, length, get_or, replicate, arith, refl, ap, sym, ◌∙◌, subst}
use Rattle.std.specs.List.{AllByRecursion}
use Rattle.std.specs.List.Sorted.{IsStrictlyIncreasing}
use Rattle.std.proofs.lemmas.Bool.Decides.{nat_tests}
use Rattle.std.proofs.lemmas.Int.{ints}
use Rattle.std.proofs.lemmas.List.Folds.{sum_by-replicate}
use Rattle.std.proofs.lemmas.List.Sums.{sum_by-cons}
use Rattle.std.proofs.Math.Nat.{mul-pos}
use Rattle.std.proofs.Math.IntN.{zero-*ℤ, *ℤ-zero, +ℤ_assoc, +ℤ_idl, +ℤ_idr}
use Rattle.number_laws.proofs.WholeNumberLemmas.{pos-sum, pos-distrib, pos-assoc}
use Rattle.subdiv_model.specs.Polygons.{is_among}
use Rattle.stencil_apply.specs.Table.{Share, total_of}
use Rattle.place_sums.specs.Shares.{support_of, share_sum}
use Rattle.place_sums.specs.Sums.{added_at, added_shares, sum_of, shares_from, dense_sum_from, dense_sum}

-- there are as many sums as before
pub length-added_at : (place amount : ℕ) (sums : List ℕ) → length (added_at place amount sums) ≡ length sums
length-added_at place amount [] = refl
length-added_at zero amount (sum ∷ sums) = refl
length-added_at (suc place) amount (sum ∷ sums) = omega (arith, length-added_at place amount sums)

pub length-added_shares : (factor : ℕ) (shares : List Share) (sums : List ℕ) → length (added_shares factor shares sums) ≡ length sums
length-added_shares factor [] sums = refl
length-added_shares factor (share ∷ shares) sums =
    length-added_shares factor shares (added_at share.0 (factor * share.1) sums) ∙ length-added_at share.0 (factor * share.1) sums

sum-first : (sum : ℕ) (sums : List ℕ) → sum_of (sum ∷ sums) ≡ sum + sum_of sums
sum-first sum sums = sum_by-cons (λ s. s) sum sums

-- all sums together are more by the amount
pub sum-added_at : (place amount : ℕ) (sums : List ℕ) → place < length sums → sum_of (added_at place amount sums) ≡ sum_of sums + amount
sum-added_at place amount [] h = absurd (omega arith)
sum-added_at zero amount (sum ∷ sums) h = omega (arith, sum-first sum sums, sum-first (sum + amount) sums)
sum-added_at (suc place) amount (sum ∷ sums) h =
    omega (arith, sum-first sum sums, sum-first sum (added_at place amount sums), sum-added_at place amount sums (omega arith))

-- An addition keeps the number of places, so shares keep their places.
inside-added : (place amount : ℕ) (shares : List Share) (sums : List ℕ) → AllByRecursion (λ share. share.0 < length sums) shares → AllByRecursion (λ share. share.0 < length (added_at place amount sums)) shares
inside-added place amount shares sums inside = subst (λ n. AllByRecursion (λ share. share.0 < n) shares) (sym (length-added_at place amount sums)) inside

-- a share more in all shares together
pub total-first : (factor : ℕ) (share : Share) (shares : List Share) → factor * total_of (share ∷ shares) ≡ factor * share.1 + factor * total_of shares
total-first factor share shares = let first = sum_by-cons (λ (s : Share). s.1) share shares in ap (λ n. factor * n) first ∙ omega arith

-- Adding shares raises the total by the factor times the total of the shares.
pub sum-added_shares : (factor : ℕ) (shares : List Share) (sums : List ℕ) → AllByRecursion (λ share. share.0 < length sums) shares → sum_of (added_shares factor shares sums) ≡ sum_of sums + factor * total_of shares
sum-added_shares factor [] sums inside = omega arith
sum-added_shares factor (share ∷ shares) sums inside =
    let later = sum-added_shares factor shares (added_at share.0 (factor * share.1) sums) (inside-added share.0 (factor * share.1) shares sums inside.1) in
    omega (arith, later, sum-added_at share.0 (factor * share.1) sums inside.0, total-first factor share shares)

-- no sum is more than all together
pub place-le-sum : (v : ℕ) (sums : List ℕ) → get_or sums v 0 ≤ sum_of sums
place-le-sum v [] = omega arith
place-le-sum zero (sum ∷ sums) = omega (arith, sum-first sum sums)
place-le-sum (suc v) (sum ∷ sums) = omega (arith, sum-first sum sums, place-le-sum v sums)

-- the sum of a place after an addition
pub place-added_at : (place amount v : ℕ) (sums : List ℕ) → place < length sums → get_or (added_at place amount sums) v 0 ≡ get_or sums v 0 + (if nat_eq place v then amount else 0)
place-added_at place amount v [] h = absurd (omega arith)
place-added_at zero amount zero (sum ∷ sums) h = refl
place-added_at zero amount (suc v) (sum ∷ sums) h = grind (arith, nat_tests)
place-added_at (suc place) amount zero (sum ∷ sums) h = grind (arith, nat_tests)
place-added_at (suc place) amount (suc v) (sum ∷ sums) h = let later = place-added_at place amount v sums (omega arith) in grind (arith, nat_tests)

-- a place is above 0 where it was, and where something was added
pub some-added_at : (place amount v : ℕ) (sums : List ℕ) → 0 < amount → place < length sums → nat_lt 0 (get_or (added_at place amount sums) v 0) ≡ (nat_lt 0 (get_or sums v 0) || nat_eq v place)
some-added_at place amount v sums some h = let at = place-added_at place amount v sums h in grind (arith, nat_tests)

-- shares with numerators above 0, added to sums: a place is above 0 where it was or where a share names it
pub some-added_shares : (factor v : ℕ) (shares : List Share) (sums : List ℕ) → 0 < factor → AllByRecursion (λ share. share.0 < length sums) shares → AllByRecursion (λ share. 0 < share.1) shares → nat_lt 0 (get_or (added_shares factor shares sums) v 0) ≡ (nat_lt 0 (get_or sums v 0) || is_among (support_of shares) v)
some-added_shares factor v [] sums some inside each = no_more (nat_lt 0 (get_or sums v 0))
  where
    no_more : (b : Bool) → b ≡ (b || false)
    no_more true = refl
    no_more false = refl
some-added_shares factor v (share ∷ shares) sums some inside each =
    some-added_shares factor v shares (added_at share.0 (factor * share.1) sums) some (inside-added share.0 (factor * share.1) shares sums inside.1) each.1
    ∙ ap (λ b. b || is_among (support_of shares) v) (some-added_at share.0 (factor * share.1) v sums (mul-pos some each.0) inside.0)
    ∙ joined (nat_lt 0 (get_or sums v 0)) (nat_eq v share.0) (is_among (support_of shares) v)
  where
    joined : (a b c : Bool) → ((a || b) || c) ≡ (a || (b || c))
    joined true b c = refl
    joined false b c = refl

-- zeros sum to 0
pub replicate-sum : (n : ℕ) → sum_of (replicate n 0) ≡ 0
replicate-sum n = sum_by-replicate (λ s. s) n 0 ∙ omega arith

first-above : (place : ℕ) (sums : List ℕ) → 0 < length (support_of (shares_from place sums)) → place ≤ get_or (support_of (shares_from place sums)) 0 0
first-above place [] some = absurd (omega arith)
first-above place (zero ∷ sums) some = omega (arith, first-above (place + 1) sums some)
first-above place (suc n ∷ sums) some = omega arith

-- The shares ascend by place.
pub shares-ascending : (place : ℕ) (sums : List ℕ) → IsStrictlyIncreasing (support_of (shares_from place sums))
shares-ascending place [] k h = absurd (omega arith)
shares-ascending place (zero ∷ sums) k h = shares-ascending (place + 1) sums k h
shares-ascending place (suc n ∷ sums) zero h = omega (arith, first-above (place + 1) sums (omega arith))
shares-ascending place (suc n ∷ sums) (suc k) h =
    let next : suc (k + 1) ≡ suc k + 1 = omega arith in
    subst (λ i. get_or (support_of (shares_from (place + 1) sums)) k 0 < get_or (support_of (shares_from place (suc n ∷ sums))) i 0) next (shares-ascending (place + 1) sums k (omega arith))

-- each share is above 0
pub shares-each : (place : ℕ) (sums : List ℕ) → AllByRecursion (λ share. 0 < share.1) (shares_from place sums)
shares-each place [] = tt
shares-each place (zero ∷ sums) = shares-each (place + 1) sums
shares-each place (suc n ∷ sums) = (omega arith, shares-each (place + 1) sums)

inside-next : (place count : ℕ) (shares : List Share) → AllByRecursion (λ share. (place + 1 ≤ share.0) × (share.0 < place + 1 + count)) shares → AllByRecursion (λ share. (place ≤ share.0) × (share.0 < place + suc count)) shares
inside-next place count [] inside = tt
inside-next place count (share ∷ shares) inside = let first = inside.0 in ((omega (arith, first.0), omega (arith, first.1)), inside-next place count shares inside.1)

-- Each share has a place of the sums.
pub shares-inside : (place : ℕ) (sums : List ℕ) → AllByRecursion (λ share. (place ≤ share.0) × (share.0 < place + length sums)) (shares_from place sums)
shares-inside place [] = tt
shares-inside place (zero ∷ sums) = inside-next place (length sums) (shares_from (place + 1) sums) (shares-inside (place + 1) sums)
shares-inside place (suc n ∷ sums) = ((omega arith, omega arith), inside-next place (length sums) (shares_from (place + 1) sums) (shares-inside (place + 1) sums))

-- all shares together are all sums together
pub shares-total : (place : ℕ) (sums : List ℕ) → total_of (shares_from place sums) ≡ sum_of sums
shares-total place [] = refl
shares-total place (zero ∷ sums) = omega (arith, shares-total (place + 1) sums, sum-first 0 sums)
shares-total place (suc n ∷ sums) =
    omega (arith, shares-total (place + 1) sums, sum-first (suc n) sums, sum_by-cons (λ (s : Share). s.1) (place, suc n) (shares_from (place + 1) sums))

-- the shares times numbers are the sums times numbers
pub share_sum-shares_from : (place : ℕ) (numbers : List ℤ) (sums : List ℕ) → share_sum numbers (shares_from place sums) ≡ dense_sum_from place numbers sums
share_sum-shares_from place numbers [] = refl
share_sum-shares_from place numbers (zero ∷ sums) =
    share_sum-shares_from (place + 1) numbers sums
    ∙ sym (ap (λ z. z +ℤ dense_sum_from (place + 1) numbers sums) (zero-*ℤ (get_or numbers place (pos 0))) ∙ +ℤ_idl (dense_sum_from (place + 1) numbers sums))
share_sum-shares_from place numbers (suc n ∷ sums) =
    ap (λ z. pos (suc n) *ℤ get_or numbers place (pos 0) +ℤ z) (share_sum-shares_from (place + 1) numbers sums)

module _ (numbers : List ℤ) where
  swap_last : (a b c : ℤ) → (a +ℤ b) +ℤ c ≡ (a +ℤ c) +ℤ b
  swap_last a b c = omega (arith, ints)

  dense-added : (from place amount : ℕ) (sums : List ℕ) → place < length sums → dense_sum_from from numbers (added_at place amount sums) ≡ dense_sum_from from numbers sums +ℤ pos amount *ℤ get_or numbers (from + place) (pos 0)
  dense-added from place amount [] h = absurd (omega arith)
  dense-added from zero amount (sum ∷ sums) h =
      let here : from ≡ from + 0 = omega arith in
      let x = get_or numbers from (pos 0) in
      let rest = dense_sum_from (from + 1) numbers sums in
      ap (λ z. z +ℤ rest) (sym (pos-sum sum amount x))
      ∙ swap_last (pos sum *ℤ x) (pos amount *ℤ x) rest
      ∙ ap (λ p. (pos sum *ℤ x +ℤ rest) +ℤ pos amount *ℤ get_or numbers p (pos 0)) here
  dense-added from (suc place) amount (sum ∷ sums) h =
      let there : from + 1 + place ≡ from + suc place = omega arith in
      let first = pos sum *ℤ get_or numbers from (pos 0) in
      let rest = dense_sum_from (from + 1) numbers sums in
      ap (λ z. first +ℤ z) (dense-added (from + 1) place amount sums (omega arith))
      ∙ sym (+ℤ_assoc first rest (pos amount *ℤ get_or numbers (from + 1 + place) (pos 0)))
      ∙ ap (λ p. (first +ℤ rest) +ℤ pos amount *ℤ get_or numbers p (pos 0)) there

  -- an amount more at a place is as much more of its number
  pub dense_sum-added_at : (place amount : ℕ) (sums : List ℕ) → place < length sums → dense_sum numbers (added_at place amount sums) ≡ dense_sum numbers sums +ℤ pos amount *ℤ get_or numbers place (pos 0)
  dense_sum-added_at place amount sums h =
      let same : 0 + place ≡ place = omega arith in
      dense-added 0 place amount sums h ∙ ap (λ p. dense_sum numbers sums +ℤ pos amount *ℤ get_or numbers p (pos 0)) same

  -- Shares times a factor add the factor times their sum with numbers.
  pub dense_sum-added_shares : (factor : ℕ) (shares : List Share) (sums : List ℕ) → AllByRecursion (λ share. share.0 < length sums) shares → dense_sum numbers (added_shares factor shares sums) ≡ dense_sum numbers sums +ℤ pos factor *ℤ share_sum numbers shares
  dense_sum-added_shares factor [] sums inside = sym (ap (λ z. dense_sum numbers sums +ℤ z) (*ℤ-zero (pos factor)) ∙ +ℤ_idr (dense_sum numbers sums))
  dense_sum-added_shares factor (share ∷ shares) sums inside =
      let x = get_or numbers share.0 (pos 0) in
      let rest = share_sum numbers shares in
      let whole = dense_sum numbers sums in
      dense_sum-added_shares factor shares (added_at share.0 (factor * share.1) sums) (inside-added share.0 (factor * share.1) shares sums inside.1)
      ∙ ap (λ z. z +ℤ pos factor *ℤ rest) (dense_sum-added_at share.0 (factor * share.1) sums inside.0)
      ∙ +ℤ_assoc whole (pos (factor * share.1) *ℤ x) (pos factor *ℤ rest)
      ∙ ap (λ z. whole +ℤ (z +ℤ pos factor *ℤ rest)) (sym (pos-assoc factor share.1 x))
      ∙ ap (λ z. whole +ℤ z) (sym (pos-distrib factor (pos share.1 *ℤ x) rest))

  zeros-from : (from n : ℕ) → dense_sum_from from numbers (replicate n 0) ≡ pos 0
  zeros-from from zero = refl
  zeros-from from (suc n) =
      ap (λ z. z +ℤ dense_sum_from (from + 1) numbers (replicate n 0)) (zero-*ℤ (get_or numbers from (pos 0)))
      ∙ +ℤ_idl (dense_sum_from (from + 1) numbers (replicate n 0)) ∙ zeros-from (from + 1) n

  -- zeros make 0
  pub dense_sum-zeros : (n : ℕ) → dense_sum numbers (replicate n 0) ≡ pos 0
  dense_sum-zeros n = zeros-from 0 n
