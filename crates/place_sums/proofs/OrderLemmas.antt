-- The sum of shares times their controls does not depend on the order of the shares.
use Rattle.std.proofs.Common.{◌≡◌, ℕ, zero, suc, ◌+◌, ◌*◌, ◌<◌, ◌≤◌, ℤ, pos, ◌+ℤ◌, ◌*ℤ◌, List, [], ◌∷◌, length, map, get_or, set, drop, replicate, add-one, arith, refl, ap, sym, ◌∙◌, subst}
use Rattle.std.specs.List.{All, AllByRecursion, zip}
use Rattle.std.proofs.Math.Seq.{drop-cons}
use Rattle.std.proofs.lemmas.Bool.{ltb-true}
use Rattle.std.proofs.lemmas.Int.{ints}
use Rattle.std.proofs.lemmas.List.{get_or-map, length-map, length-set, map-id}
use Rattle.std.proofs.lemmas.List.Elements.{All-from_get_or, All-from_recursion, recursion_from_All}
use Rattle.std.proofs.lemmas.List.Sums.{sum_by-cons}
use Rattle.mesh_laws.proofs.SideLemmas.{among-place}
use Rattle.ratio128.specs.Numbers.{plus_times, greatest_amount}
use Rattle.stencil_apply.specs.Table.{Share, total_of, sum_of_shares}
use Rattle.stencil_apply.specs.Means.{CanSum}
use Rattle.stencil_apply.proofs.ArrayLemmas.{cons_both}
use Rattle.place_sums.specs.Sums.{sum_of, shares_from}
use Rattle.place_sums.specs.Touched.{AreTouched, moved, cleared}
use Rattle.place_sums.proofs.SumLemmas.{sum-added_at, shares-total, replicate-sum}
use Rattle.place_sums.proofs.TouchedLemmas.{added-back, cleared-zeros, each-share, moved-any, moved-same, moved-support, one, touched-inside}
use Rattle.place_sums.proofs.PairLemmas.{zip-halves}

-- Two products may be added in either order.
plus-commutes : (a b : ℤ) (xs ys zs : List ℤ) → plus_times a (plus_times b xs ys) zs ≡ plus_times b (plus_times a xs zs) ys
plus-commutes a b [] ys zs = refl
plus-commutes a b (x ∷ xs) [] [] = refl
plus-commutes a b (x ∷ xs) [] (z ∷ zs) = refl
plus-commutes a b (x ∷ xs) (y ∷ ys) [] = refl
plus-commutes a b (x ∷ xs) (y ∷ ys) (z ∷ zs) = cons_both (swap_last x (b *ℤ y) (a *ℤ z)) (plus-commutes a b xs ys zs)
  where
    swap_last : (p q r : ℤ) → (p +ℤ q) +ℤ r ≡ (p +ℤ r) +ℤ q
    swap_last p q r = omega (arith, ints)

no-shares : (from n : ℕ) → shares_from from (replicate n 0) ≡ []
no-shares from zero = refl
no-shares from (suc n) = no-shares (from + 1) n

there : (from place : ℕ) → from + suc place ≡ from + 1 + place
there from place = omega arith

module _ (controls : List (List ℤ)) where
  -- A sum may be read before those at places below it.
  read-first : (from place : ℕ) (start : List ℤ) (sums : List ℕ) → 0 < get_or sums place 0
      → sum_of_shares (plus_times (pos (get_or sums place 0)) start (get_or controls (from + place) [])) controls (shares_from from (set sums place 0)) ≡ sum_of_shares start controls (shares_from from sums)
  read-first from place start [] some = absurd (omega (arith, some))
  read-first from zero start (zero ∷ sums) some = absurd (omega (arith, some))
  read-first from zero start (suc n ∷ sums) some =
      let here : from + 0 ≡ from = omega arith in
      ap (λ v. sum_of_shares (plus_times (pos (suc n)) start (get_or controls v [])) controls (shares_from (from + 1) sums)) here
  read-first from (suc place) start (zero ∷ sums) some =
      ap (λ v. sum_of_shares (plus_times (pos (get_or sums place 0)) start (get_or controls v [])) controls (shares_from (from + 1) (set sums place 0))) (there from place)
      ∙ read-first (from + 1) place start sums some
  read-first from (suc place) start (suc n ∷ sums) some =
      let first = get_or controls from [] in
      let rest = shares_from (from + 1) (set sums place 0) in
      ap (λ v. sum_of_shares (plus_times (pos (suc n)) (plus_times (pos (get_or sums place 0)) start (get_or controls v [])) first) controls rest) (there from place)
      ∙ ap (λ xs. sum_of_shares xs controls rest) (plus-commutes (pos (suc n)) (pos (get_or sums place 0)) start (get_or controls (from + 1 + place) []) first)
      ∙ read-first (from + 1) place (plus_times (pos (suc n)) start first) sums some

  -- The sums that were read and those that remain make the sum of all.
  read-all : (start : List ℤ) (places sums : List ℕ) → AllByRecursion (λ share. 0 < share.1) (moved places sums)
      → sum_of_shares (sum_of_shares start controls (moved places sums)) controls (shares_from 0 (cleared places sums)) ≡ sum_of_shares start controls (shares_from 0 sums)
  read-all start [] sums each = refl
  read-all start (place ∷ places) sums each =
      let here : place ≡ 0 + place = omega arith in
      read-all (plus_times (pos (get_or sums place 0)) start (get_or controls place [])) places (set sums place 0) each.1
      ∙ ap (λ v. sum_of_shares (plus_times (pos (get_or sums place 0)) start (get_or controls v [])) controls (shares_from 0 (set sums place 0))) here
      ∙ read-first 0 place start sums each.0

  -- The sums of the touched places, in their order, make the sum of all shares.
  pub moved-sum : (start : List ℤ) (places sums : List ℕ) → AreTouched places sums → sum_of_shares start controls (moved places sums) ≡ sum_of_shares start controls (shares_from 0 sums)
  moved-sum start places sums touched =
      let made = sum_of_shares start controls (moved places sums) in
      sym (ap (λ l. sum_of_shares made controls (shares_from 0 l)) (cleared-zeros places sums touched) ∙ ap (sum_of_shares made controls) (no-shares 0 (length sums)))
      ∙ read-all start places sums (moved-any places sums touched).each

count-first : (from place : ℕ) (sums : List ℕ) → 0 < get_or sums place 0 → length (shares_from from (set sums place 0)) + 1 ≡ length (shares_from from sums)
count-first from place [] some = absurd (omega (arith, some))
count-first from zero (zero ∷ sums) some = absurd (omega (arith, some))
count-first from zero (suc n ∷ sums) some = omega arith
count-first from (suc place) (zero ∷ sums) some = count-first (from + 1) place sums some
count-first from (suc place) (suc n ∷ sums) some = omega (arith, count-first (from + 1) place sums some)

count-all : (places sums : List ℕ) → AllByRecursion (λ share. 0 < share.1) (moved places sums) → length places + length (shares_from 0 (cleared places sums)) ≡ length (shares_from 0 sums)
count-all [] sums each = omega arith
count-all (place ∷ places) sums each = omega (arith, count-all places (set sums place 0) each.1, count-first 0 place sums each.0)

-- There is a share for each touched place.
pub moved-count : (places sums : List ℕ) → AreTouched places sums → length places ≡ length (shares_from 0 sums)
moved-count places sums touched =
    let none : length (shares_from 0 (cleared places sums)) ≡ 0 = ap (λ l. length (shares_from 0 l)) (cleared-zeros places sums touched) ∙ ap length (no-shares 0 (length sums)) in
    omega (arith, none, count-all places sums (moved-any places sums touched).each)

total-all : (places sums : List ℕ) → AllByRecursion (λ place. place < length sums) places → total_of (moved places sums) + sum_of (cleared places sums) ≡ sum_of sums
total-all [] sums inside = omega arith
total-all (place ∷ places) sums inside =
    let left = set sums place 0 in
    let here : place < length left = omega (arith, inside.0, length-set sums place 0) in
    let rest = total-all places left (subst (λ n. AllByRecursion (λ p. p < n) places) (sym (length-set sums place 0)) inside.1) in
    omega (arith, rest, sum_by-cons (λ (s : Share). s.1) (place, get_or sums place 0) (moved places left), sum-added_at place (get_or sums place 0) left here, ap sum_of (added-back place sums inside.0))

moved-total : (places sums : List ℕ) → AreTouched places sums → total_of (moved places sums) ≡ total_of (shares_from 0 sums)
moved-total places sums touched =
    let inside = recursion_from_All (λ place. place < length sums) places (touched-inside places sums touched) in
    let none : sum_of (cleared places sums) ≡ 0 = ap sum_of (cleared-zeros places sums touched) ∙ replicate-sum (length sums) in
    omega (arith, none, total-all places sums inside, shares-total 0 sums)

-- What holds of each share holds of the sum at each touched place.
share-there : (P : Share → Type 0) (from v : ℕ) (sums : List ℕ) → AllByRecursion P (shares_from from sums) → 0 < get_or sums v 0 → P (from + v, get_or sums v 0)
share-there P from v [] each some = absurd (omega (arith, some))
share-there P from zero (zero ∷ sums) each some = absurd (omega (arith, some))
share-there P from zero (suc n ∷ sums) each some = let here : from ≡ from + 0 = omega arith in subst (λ v. P (v, suc n)) here each.0
share-there P from (suc v) (zero ∷ sums) each some = subst (λ w. P (w, get_or sums v 0)) (sym (there from v)) (share-there P (from + 1) v sums each some)
share-there P from (suc v) (suc n ∷ sums) each some = subst (λ w. P (w, get_or sums v 0)) (sym (there from v)) (share-there P (from + 1) v sums each.1 some)

moved-each : (P : Share → Type 0) (places sums : List ℕ) → AreTouched places sums → AllByRecursion P (shares_from 0 sums) → AllByRecursion P (moved places sums)
moved-each P places sums touched each =
    subst (AllByRecursion P) (sym (moved-same places sums touched.once))
    (each-share P (λ v. get_or sums v 0) places (recursion_from_All (λ v. P (v, get_or sums v 0)) places (All-from_get_or (λ v. P (v, get_or sums v 0)) places 0 at)))
  where
    at : (i : ℕ) → i < length places → P (get_or places i 0, get_or sums (get_or places i 0) 0)
    at i h =
        let v = get_or places i 0 in
        let some = ltb-true 0 (get_or sums v 0) (sym (touched.named v) ∙ among-place v places i h refl) in
        let same : 0 + v ≡ v = omega arith in
        subst (λ w. P (w, get_or sums v 0)) same (share-there P 0 v sums each some)

-- Shares that can be summed can be summed in any order.
pub moved-can : (bound : ℕ) (controls : List (List ℤ)) (places sums : List ℕ) → AreTouched places sums → CanSum bound (shares_from 0 sums) controls → CanSum bound (moved places sums) controls
moved-can bound controls places sums touched can =
    let total = sym (moved-total places sums touched) in
    let shares = shares_from 0 sums in record {
      some = subst (λ n. 0 < n) total can.some;
      short = subst (λ n. n ≤ bound) total can.short;
      each = All-from_recursion (λ share. 0 < share.1) (moved places sums) (moved-any places sums touched).each;
      inside = All-from_recursion (λ share. share.0 < length controls) (moved places sums)
          (moved-each (λ share. share.0 < length controls) places sums touched (recursion_from_All (λ share. share.0 < length controls) shares can.inside));
      within = subst (λ n. All (λ numbers. n * greatest_amount numbers ≤ bound) controls) total can.within;
    }

-- The numbers that are read at places, in the order of the places.
abbrev pub numbers_read : List ℕ → List ℕ → List ℕ
numbers_read places sums = map (λ share. share.1) (moved places sums)

pub length-read : (places sums : List ℕ) → length (numbers_read places sums) ≡ length places
length-read places sums = length-map (moved places sums) (λ (share : Share). share.1) ∙ sym (length-map (moved places sums) (λ (share : Share). share.0)) ∙ ap length (moved-support places sums)

-- The places and the numbers that are read there are the shares.
pub shares-read : (places sums : List ℕ) → zip places (map (λ n. n) (numbers_read places sums)) ≡ moved places sums
shares-read places sums =
    ap (zip places) (map-id (numbers_read places sums)) ∙ ap (λ ps. zip ps (numbers_read places sums)) (sym (moved-support places sums)) ∙ zip-halves (moved places sums)

pub can-read : (bound : ℕ) (controls : List (List ℤ)) (places sums : List ℕ) → CanSum bound (moved places sums) controls → CanSum bound (zip places (map (λ n. n) (numbers_read places sums))) controls
can-read bound controls places sums can = subst (λ shares. CanSum bound shares controls) (sym (shares-read places sums)) can

-- One more place, where the sums are `sums` now and were `before` at the first place.
module _ (places before sums : List ℕ) (i : ℕ) (h : i < length places) (rest : moved (drop i places) sums ≡ drop i (moved places before)) where
  abbrev place : ℕ
  place = get_or places i 0

  more : drop i places ≡ place ∷ drop (i + 1) places
  more = rw add-one (drop-cons places i 0 h)

  inside : i < length (moved places before)
  inside = omega (arith, h, length-read places before, length-map (moved places before) (λ (share : Share). share.1))

  parts : one place (get_or sums place 0) ∷ moved (drop (i + 1) places) (set sums place 0) ≡ get_or (moved places before) i (0, 0) ∷ drop (i + 1) (moved places before)
  parts = sym (ap (λ ps. moved ps sums) more) ∙ rest ∙ rw add-one (drop-cons (moved places before) i (0, 0) inside)

  pub number-read : (number : ℕ) → number ≡ get_or sums place 0 → number ≡ get_or (numbers_read places before) i number
  number-read number is =
      let first : one place (get_or sums place 0) ≡ get_or (moved places before) i (0, 0) = cc parts in
      is ∙ ap (λ (share : Share). share.1) first ∙ sym (get_or-map (λ (share : Share). share.1) (moved places before) i (0, 0) number inside)

  pub rest-read : moved (drop (i + 1) places) (set sums place 0) ≡ drop (i + 1) (moved places before)
  rest-read = cc parts

  pub cleared-read : cleared (drop (i + 1) places) (set sums place 0) ≡ cleared (drop i places) sums
  cleared-read = sym (ap (λ ps. cleared ps sums) more)
