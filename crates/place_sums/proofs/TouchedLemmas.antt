-- The places whose sum is not 0: one more, sorted, and taken.
use Rattle.std.proofs.Common.{◌≡◌, ℕ, zero, suc, ◌+◌, ◌-◌, ◌<◌, ◌≤◌, Bool, true, false, not, ◌||◌, if◌then◌else◌, nat_eq, nat_lt, ℤ, pos, ◌+ℤ◌, ◌*ℤ◌, List, [], ◌∷◌, ◌++◌, length, map, get_or, set, take, replicate, arith, refl, ap, sym, ◌∙◌, subst, inl, inr, ◌⊎◌}
use Rattle.std.specs.List.{All, AllByRecursion, range_with_len}
use Rattle.std.specs.List.Sorted.{IsPermutation, IsNonDecreasing}
use Rattle.std.proofs.lemmas.Bool.{and_parts, and_from, or_parts, cases_eq, eqb-true, ltb-true, ltb-false}
use Rattle.std.proofs.lemmas.Bool.Decides.{nat_tests}
use Rattle.std.proofs.lemmas.Int.{ints}
use Rattle.std.proofs.Math.IntN.{+ℤ_idl, +ℤ_idr}
use Rattle.std.proofs.lemmas.List.{get_or-set_other, get_or_past, length-replicate, length-set, length-map, length-take, length-take-le, map-set, take-append-le, take_all}
use Rattle.std.proofs.lemmas.List.Elements.{All-from_get_or, recursion_from_All}
use Rattle.std.proofs.lemmas.List.Folds.{list_any-append}
use Rattle.std.proofs.lemmas.List.FromFn.{length-range_with_len, get_or-range_with_len}
use Rattle.std.proofs.lemmas.List.Sorted.{list_any-IsPermutation}
use Rattle.subdiv_model.specs.Polygons.{is_among, is_distinct}
use Rattle.mesh_laws.proofs.SideLemmas.{among-place}
use Rattle.mesh_laws.proofs.WalkLemmas.{distinct-le}
use Rattle.level_topology.proofs.PlaceLemmas.{distinct-permutation}
use Rattle.stencil_apply.specs.Table.{Share}
use Rattle.stencil_apply.proofs.ArrayLemmas.{cons_both}
use Rattle.place_sums.specs.Shares.{support_of, share_sum}
use Rattle.place_sums.specs.Sums.{added_at, shares_from, dense_sum, AreSharesOf}
use Rattle.place_sums.specs.Touched.{AreTouched, StartWithTouched, touched_with, moved, cleared}
use Rattle.place_sums.proofs.EntryLemmas.{number-there}
use Rattle.place_sums.proofs.SumLemmas.{some-added_at, dense_sum-added_at, dense_sum-zeros}

no_more : (b : Bool) → (b || false) ≡ b
no_more true = refl
no_more false = refl

-- a number that is not there may be put behind
distinct-push : (xs : List ℕ) (v : ℕ) → is_distinct xs ≡ true → is_among xs v ≡ false → is_distinct (xs ++ v ∷ []) ≡ true
distinct-push [] v distinct none = refl
distinct-push (x ∷ xs) v distinct none =
    let both = and_parts (not (is_among xs x)) (is_distinct xs) distinct in
    let apart = or_parts (nat_eq v x) (is_among xs v) none in
    let other : nat_eq x v ≡ false = let a = apart.0 in grind (arith, nat_tests) in
    let more : is_among (xs ++ v ∷ []) x ≡ is_among xs x = list_any-append (nat_eq x) xs (v ∷ []) ∙ ap (λ b. is_among xs x || (b || false)) other ∙ no_more (is_among xs x) in
    and_from (not (is_among (xs ++ v ∷ []) x)) (is_distinct (xs ++ v ∷ [])) (ap not more ∙ both.0) (distinct-push xs v both.1 apart.1)

-- an amount above 0 at a place, which is noted where its sum was 0
pub touched-added : (place amount : ℕ) (touched sums : List ℕ) → 0 < amount → place < length sums → AreTouched touched sums → AreTouched (touched_with place (get_or sums place 0) touched) (added_at place amount sums)
touched-added place amount touched sums some h is = go (nat_eq (get_or sums place 0) 0) refl
  where
    within : (b c : Bool) → (b ≡ true → c ≡ true) → c ≡ (c || b)
    within true true h = refl
    within true false h = h refl
    within false true h = refl
    within false false h = refl

    again : (a b : Bool) → (a || (b || false)) ≡ (a || b)
    again true b = refl
    again false true = refl
    again false false = refl

    go : (b : Bool) → nat_eq (get_or sums place 0) 0 ≡ b → AreTouched (if b then touched ++ place ∷ [] else touched) (added_at place amount sums)
    go true e = record {
      once = distinct-push touched place is.once (is.named place ∙ ap (nat_lt 0) (eqb-true (get_or sums place 0) 0 e));
      named = λ v. list_any-append (nat_eq v) touched (place ∷ []) ∙ again (is_among touched v) (nat_eq v place) ∙ ap (λ b. b || nat_eq v place) (is.named v) ∙ sym (some-added_at place amount v sums some h);
    }
    go false e = record {
      once = is.once;
      named = λ v. is.named v ∙ within (nat_eq v place) (nat_lt 0 (get_or sums v 0)) (λ same. ap (λ u. nat_lt 0 (get_or sums u 0)) (eqb-true v place same) ∙ above) ∙ sym (some-added_at place amount v sums some h);
    }
      where
        above : nat_lt 0 (get_or sums place 0) ≡ true
        above = grind (arith, nat_tests)

-- a write of the sum and the amount adds it
pub set-added : (place amount : ℕ) (sums : List ℕ) → place < length sums → set sums place (get_or sums place 0 + amount) ≡ added_at place amount sums
set-added place amount [] h = absurd (omega arith)
set-added zero amount (sum ∷ sums) h = refl
set-added (suc place) amount (sum ∷ sums) h = ap (λ rest. sum ∷ rest) (set-added place amount sums (omega arith))

-- A permutation of the places lists the same places.
pub touched-permutation : (xs ys sums : List ℕ) → IsPermutation xs ys → AreTouched xs sums → AreTouched ys sums
touched-permutation xs ys sums moved is = record {
  once = distinct-permutation xs ys moved is.once;
  named = λ v. sym (list_any-IsPermutation (nat_eq v) xs ys moved) ∙ is.named v;
}

zero-there : (n v : ℕ) → get_or (replicate {A = ℕ} n 0) v 0 ≡ 0
zero-there zero v = refl
zero-there (suc n) zero = refl
zero-there (suc n) (suc v) = zero-there n v

-- For zeros the list of places is empty.
pub touched-zeros : (n : ℕ) → AreTouched [] (replicate n 0)
touched-zeros n = record {
  once = refl;
  named = λ v. sym (ap (nat_lt 0) (zero-there n v));
}

-- Each listed place is a place of the sums.
touched-below : (touched sums : List ℕ) → AreTouched touched sums → (v : ℕ) → is_among touched v ≡ true → v < length sums
touched-below touched sums is v there =
    let some : nat_lt 0 (get_or sums v 0) ≡ true = sym (is.named v) ∙ there in
    let past = get_or_past sums v 0 in
    grind (arith, nat_tests)

pub touched-inside : (touched sums : List ℕ) → AreTouched touched sums → All (λ place. place < length sums) touched
touched-inside touched sums is = All-from_get_or (λ place. place < length sums) touched 0 (λ i h. touched-below touched sums is (get_or touched i 0) (among-place (get_or touched i 0) touched i h refl))

-- distinct numbers below a bound are at most as many as the bound
distinct-few : (numbers : List ℕ) (bound : ℕ) → is_distinct numbers ≡ true → ((n : ℕ) → is_among numbers n ≡ true → n < bound) → length numbers ≤ bound
distinct-few numbers bound once below = omega (arith, length-range_with_len 0 bound, distinct-le numbers (range_with_len 0 bound) once among)
  where
    among : (n : ℕ) → is_among numbers n ≡ true → is_among (range_with_len 0 bound) n ≡ true
    among n there =
        let at : get_or (range_with_len 0 bound) n 0 ≡ n = omega (arith, get_or-range_with_len 0 bound n 0 (below n there)) in
        among-place n (range_with_len 0 bound) n (omega (arith, length-range_with_len 0 bound, below n there)) at

-- No more places are touched than there are, so one more number has space.
pub touched-few : (numbers : List ℕ) (count : ℕ) (sums : List ℕ) → StartWithTouched numbers count sums → count < length numbers
touched-few numbers count sums is =
    omega (arith, is.long, length-take count numbers, distinct-few (take count numbers) (length sums) is.touched.once (touched-below (take count numbers) sums is.touched))

zeros-by_place : (xs : List ℕ) → ((v : ℕ) → get_or xs v 0 ≡ 0) → xs ≡ replicate (length xs) 0
zeros-by_place [] h = refl
zeros-by_place (x ∷ xs) h = ap (λ y. y ∷ xs) (h 0) ∙ ap (λ ys. 0 ∷ ys) (zeros-by_place xs (λ v. h (suc v)))

length-cleared : (places sums : List ℕ) → length (cleared places sums) ≡ length sums
length-cleared [] sums = refl
length-cleared (place ∷ places) sums = length-cleared places (set sums place 0) ∙ length-set sums place 0

zero-set : (place : ℕ) (sums : List ℕ) → get_or (set sums place 0) place 0 ≡ 0
zero-set place [] = refl
zero-set zero (sum ∷ sums) = refl
zero-set (suc place) (sum ∷ sums) = zero-set place sums

cleared-at : (places sums : List ℕ) (v : ℕ) → (is_among places v ≡ false → get_or sums v 0 ≡ 0) → get_or (cleared places sums) v 0 ≡ 0
cleared-at [] sums v h = h refl
cleared-at (place ∷ places) sums v h = cleared-at places (set sums place 0) v (λ none. at none (cases_eq v place))
  where
    at : is_among places v ≡ false → (v ≡ place) ⊎ (v ≡ place → ⊥) → get_or (set sums place 0) v 0 ≡ 0
    at none (inl same) = ap (λ u. get_or (set sums place 0) u 0) same ∙ zero-set place sums
    at none (inr other) =
        let apart : nat_eq v place ≡ false = grind (arith, nat_tests) in
        get_or-set_other sums place v 0 0 other ∙ h (ap (λ b. b || is_among places v) apart ∙ none)

-- zeros at the places that were not 0 are zeros at all places
pub cleared-zeros : (places sums : List ℕ) → AreTouched places sums → cleared places sums ≡ replicate (length sums) 0
cleared-zeros places sums is =
    zeros-by_place (cleared places sums) (λ v. cleared-at places sums v (λ none. let named = sym (is.named v) ∙ none in grind (arith, nat_tests)))
    ∙ ap (λ n. replicate n 0) (length-cleared places sums)

abbrev pub one : ℕ → ℕ → Share
one v n = (v, n)

-- the places, each with a number
abbrev shares_at : (ℕ → ℕ) → List ℕ → List Share
shares_at at places = map {B = Share} (λ v. (v, at v)) places

-- each is the sum at its place before any was taken
same-shares : (place : ℕ) (places sums : List ℕ) → is_among places place ≡ false → shares_at (λ v. get_or (set sums place 0) v 0) places ≡ shares_at (λ v. get_or sums v 0) places
same-shares place [] sums none = refl
same-shares place (v ∷ places) sums none =
    let apart = or_parts (nat_eq place v) (is_among places place) none in
    let other : v ≡ place → ⊥ = λ same. differ same apart.0 in
    let first : get_or (set sums place 0) v 0 ≡ get_or sums v 0 = get_or-set_other sums place v 0 0 other in
    cons_both (ap (λ n. one v n) first) (same-shares place places sums apart.1)
  where
    differ : v ≡ place → nat_eq place v ≡ false → ⊥
    differ same apart = grind (arith, nat_tests)

pub moved-same : (places sums : List ℕ) → is_distinct places ≡ true → moved places sums ≡ shares_at (λ v. get_or sums v 0) places
moved-same [] sums distinct = refl
moved-same (place ∷ places) sums distinct =
    let both = and_parts (not (is_among places place)) (is_distinct places) distinct in
    let none : is_among places place ≡ false = was (is_among places place) both.0 in
    ap (λ ss. (place, get_or sums place 0) ∷ ss) (moved-same places (set sums place 0) both.1 ∙ same-shares place places sums none)
  where
    was : (b : Bool) → not b ≡ true → b ≡ false
    was true h = sym h
    was false h = refl

-- an amount that is taken and added back
pub added-back : (place : ℕ) (sums : List ℕ) → place < length sums → added_at place (get_or sums place 0) (set sums place 0) ≡ sums
added-back place [] h = absurd (omega (arith, h))
added-back zero (sum ∷ sums) h = let all : 0 + sum ≡ sum = omega arith in ap (λ n. n ∷ sums) all
added-back (suc place) (sum ∷ sums) h = ap (λ rest. sum ∷ rest) (added-back place sums (omega (arith, h)))

-- The sums that were read and those that remain, times numbers, equal the old sums times numbers.
moved-value : (numbers : List ℤ) (places sums : List ℕ) → AllByRecursion (λ place. place < length sums) places
    → share_sum numbers (moved places sums) +ℤ dense_sum numbers (cleared places sums) ≡ dense_sum numbers sums
moved-value numbers [] sums inside = +ℤ_idl (dense_sum numbers sums)
moved-value numbers (place ∷ places) sums inside =
    let left = set sums place 0 in
    let here : place < length left = omega (arith, inside.0, length-set sums place 0) in
    let x = pos (get_or sums place 0) *ℤ get_or numbers place (pos 0) in
    let rest = moved-value numbers places left (subst (λ n. AllByRecursion (λ p. p < n) places) (sym (length-set sums place 0)) inside.1) in
    turned x (share_sum numbers (moved places left)) (dense_sum numbers (cleared places left))
    ∙ ap (λ z. z +ℤ x) rest
    ∙ sym (dense_sum-added_at numbers place (get_or sums place 0) left here)
    ∙ ap (dense_sum numbers) (added-back place sums inside.0)
  where
    turned : (a b c : ℤ) → (a +ℤ b) +ℤ c ≡ (b +ℤ c) +ℤ a
    turned a b c = omega (arith, ints)

pub moved-support : (places sums : List ℕ) → support_of (moved places sums) ≡ places
moved-support [] sums = refl
moved-support (place ∷ places) sums = ap (λ rest. place ∷ rest) (moved-support places (set sums place 0))

-- what holds of each place and its number
pub each-share : (P : Share → Type 0) (at : ℕ → ℕ) (places : List ℕ) → AllByRecursion (λ v. P (v, at v)) places → AllByRecursion P (shares_at at places)
each-share P at [] h = tt
each-share P at (v ∷ places) h = (h.0, each-share P at places h.1)

-- the sums of the places that are not 0 are all that are not 0, in any order
pub moved-any : (places sums : List ℕ) → AreTouched places sums → AreSharesOf sums (moved places sums)
moved-any places sums touched = record {
  inside = subst (AllByRecursion (λ share. share.0 < length sums)) (sym (moved-same places sums touched.once)) (each-share (λ share. share.0 < length sums) (λ v. get_or sums v 0) places inside);
  each =
      subst (AllByRecursion (λ share. 0 < share.1)) (sym (moved-same places sums touched.once))
      (each-share (λ share. 0 < share.1) (λ v. get_or sums v 0) places (recursion_from_All (λ v. 0 < get_or sums v 0) places above));
  named = λ v. ap (λ l. is_among l v) (moved-support places sums) ∙ touched.named v;
  value = λ numbers.
      sym (+ℤ_idr (share_sum numbers (moved places sums)))
      ∙ ap (λ z. share_sum numbers (moved places sums) +ℤ z) (sym (ap (dense_sum numbers) (cleared-zeros places sums touched) ∙ dense_sum-zeros numbers (length sums)))
      ∙ moved-value numbers places sums inside;
}
  where
    inside : AllByRecursion (λ place. place < length sums) places
    inside = recursion_from_All (λ place. place < length sums) places (touched-inside places sums touched)

    above : All (λ v. 0 < get_or sums v 0) places
    above = All-from_get_or (λ v. 0 < get_or sums v 0) places 0
        (λ i h. ltb-true 0 (get_or sums (get_or places i 0) 0) (sym (touched.named (get_or places i 0)) ∙ among-place (get_or places i 0) places i h refl))

-- each is above those before it, and the first is `from` or more
abbrev AscendFrom : ℕ → List ℕ → Type 0
AscendFrom from [] = Unit {0}
AscendFrom from (v ∷ rest) = (from ≤ v) × AscendFrom (v + 1) rest

ascend-distinct : (from : ℕ) (xs : List ℕ) → (0 < length xs → from ≤ get_or xs 0 0) → IsNonDecreasing xs → is_distinct xs ≡ true → AscendFrom from xs
ascend-distinct from [] first rise distinct = tt
ascend-distinct from (x ∷ xs) first rise distinct =
    let both = and_parts (not (is_among xs x)) (is_distinct xs) distinct in
    (first (omega arith), ascend-distinct (x + 1) xs (λ some. above some both.0 (cases_eq (get_or xs 0 0) x)) (λ i j d le lt. rise (suc i) (suc j) d (omega arith) (omega arith)) both.1)
  where
    above : 0 < length xs → not (is_among xs x) ≡ true → (get_or xs 0 0 ≡ x) ⊎ (get_or xs 0 0 ≡ x → ⊥) → x + 1 ≤ get_or xs 0 0
    above some none (inl same) = let there = among-place x xs 0 some same in grind (arith, nat_tests)
    above some none (inr other) = let up : x ≤ get_or xs 0 0 = rise 0 1 0 (omega arith) (omega arith) in omega (arith, up, other)

none-before : (from v : ℕ) (xs : List ℕ) → AscendFrom from xs → v < from → is_among xs v ≡ false
none-before from v [] up h = refl
none-before from v (x ∷ xs) up h =
    let first = up.0 in
    let rest = none-before (x + 1) v xs up.1 (omega (arith, up.0)) in
    grind (arith, nat_tests)

module _ (at : ℕ → ℕ) where
  there : (from w : ℕ) → from + 1 + w ≡ from + suc w
  there from w = omega arith

  own : (v : ℕ) (places : List ℕ) → is_among (v ∷ places) v ≡ true
  own v places = among-place v (v ∷ places) 0 (omega arith) refl

  head-some : (from v : ℕ) (places sums : List ℕ) → from ≤ v → ((w : ℕ) → is_among (v ∷ places) (from + w) ≡ nat_lt 0 (get_or sums w 0)) → 0 < get_or sums (v - from) 0
  head-some from v places sums up named =
      let same : from + (v - from) ≡ v = omega arith in
      ltb-true 0 (get_or sums (v - from) 0) (sym (named (v - from)) ∙ ap (is_among (v ∷ places)) same ∙ own v places)

  head-after : (from v : ℕ) (places sums : List ℕ) → from ≤ v → ((w : ℕ) → is_among (v ∷ places) (from + w) ≡ nat_lt 0 (get_or (0 ∷ sums) w 0)) → (v ≡ from) ⊎ (v ≡ from → ⊥) → from + 1 ≤ v
  head-after from v places sums up named (inl same) =
      let none : v - from ≡ 0 = omega (arith, same) in
      let some : 0 < 0 = subst (λ w. 0 < get_or (0 ∷ sums) w 0) none (head-some from v places (0 ∷ sums) up named) in
      absurd (omega (arith, some))
  head-after from v places sums up named (inr other) = omega (arith, other)

  head-is : (from v : ℕ) (places : List ℕ) → from ≤ v → AscendFrom (v + 1) places → is_among (v ∷ places) (from + 0) ≡ true → v ≡ from
  head-is from v places up rest there =
      let none : is_among places (from + 0) ≡ false = none-before (v + 1) (from + 0) places rest (omega (arith, up)) in
      let first : nat_eq (from + 0) v ≡ true = sym (no_more (nat_eq (from + 0) v)) ∙ ap (λ b. nat_eq (from + 0) v || b) (sym none) ∙ there in
      let same : from + 0 ≡ v = eqb-true (from + 0) v first in
      omega (arith, same)

  later-named : (from v : ℕ) (places : List ℕ) (w : ℕ) → v ≡ from → is_among places (from + 1 + w) ≡ is_among (v ∷ places) (from + suc w)
  later-named from v places w same =
      let other : nat_eq (from + suc w) v ≡ false = grind (arith, nat_tests) in
      ap (is_among places) (there from w) ∙ sym (ap (λ b. b || is_among places (from + suc w)) other)

  -- places that ascend and are those whose sum is not 0 are the places of the shares
  shares-by_place : (from : ℕ) (places sums : List ℕ) → AscendFrom from places → ((w : ℕ) → is_among places (from + w) ≡ nat_lt 0 (get_or sums w 0)) → ((w : ℕ) → at (from + w) ≡ get_or sums w 0) → shares_at at places ≡ shares_from from sums
  shares-by_place from [] [] up named is = refl
  shares-by_place from (v ∷ places) [] up named is = absurd (omega (arith, head-some from v places [] up.0 named))
  shares-by_place from [] (zero ∷ sums) up named is = shares-by_place (from + 1) [] sums tt (λ w. named (suc w)) (λ w. ap at (there from w) ∙ is (suc w))
  shares-by_place from (v ∷ places) (zero ∷ sums) up named is =
      shares-by_place (from + 1) (v ∷ places) sums (head-after from v places sums up.0 named (cases_eq v from), up.1) (λ w. ap (is_among (v ∷ places)) (there from w) ∙ named (suc w)) (λ w. ap at (there from w) ∙ is (suc w))
  shares-by_place from [] (suc n ∷ sums) up named is = absurd (omega (arith, ltb-false 0 (suc n) (sym (named 0))))
  shares-by_place from (v ∷ places) (suc n ∷ sums) up named is =
      let some : nat_lt 0 (suc n) ≡ true = grind (arith, nat_tests) in
      let same : v ≡ from = head-is from v places up.0 up.1 (named 0 ∙ some) in
      let none : v ≡ from + 0 = omega (arith, same) in
      let rest : shares_at at places ≡ shares_from (from + 1) sums =
      shares-by_place (from + 1) places sums (subst (λ u. AscendFrom (u + 1) places) same up.1) (λ w. later-named from v places w same ∙ named (suc w)) (λ w. ap at (there from w) ∙ is (suc w))
      in
      cons_both (ap (λ m. one v m) (ap at none ∙ is 0) ∙ ap (λ u. one u (suc n)) same) rest

-- sorted and taken, they are the shares of the sums
pub moved-shares : (places sums : List ℕ) → IsNonDecreasing places → AreTouched places sums → moved places sums ≡ shares_from 0 sums
moved-shares places sums rise is =
    moved-same places sums is.once
    ∙ shares-by_place (λ v. get_or sums v 0) 0 places sums (ascend-distinct 0 places (λ some. omega arith) rise is.once)
    (λ w. let same : 0 + w ≡ w = omega arith in ap (is_among places) same ∙ is.named w)
    (λ w. let same : 0 + w ≡ w = omega arith in ap (λ v. get_or sums v 0) same)

-- A number more at a place of the sums of numbers of any type that has a value.
module _ {T : Type 0} (value : T → ℕ) (place : ℕ) (sum : T) (sums : List T) (old : List ℕ) (view : map value sums ≡ old) (inside : place < length old) (at : sum ≡ get_or sums place sum) where
  long : place < length sums
  long = omega (arith, inside, length-map sums value, ap length view)

  -- The body reads the sum at the place.
  here : value sum ≡ get_or (map value sums) place 0
  here = number-there value sums place sum long at

  pub sum-there : value sum ≡ get_or old place 0
  sum-there = here ∙ ap (λ l. get_or l place 0) view

  module _ (amount : ℕ) (after : T) (grown : value after ≡ value sum + amount) where
    put : map value (set sums place after) ≡ added_at place amount (map value sums)
    put =
        map-set value sums place after ∙ ap (set (map value sums) place) (grown ∙ ap (λ n. n + amount) here)
        ∙ set-added place amount (map value sums) (omega (arith, long, length-map sums value))

    -- The list of places after the addition fits the new sums.
    pub touched-step : (read : ℕ) (numbers written : List ℕ) (count more : ℕ) → 0 < amount → read ≡ value sum → length written ≡ length numbers → take more written ≡ touched_with place read (take count numbers)
        → StartWithTouched numbers count (map value sums) → StartWithTouched written more (map value (set sums place after))
    touched-step read numbers written count more some of same is before = record {
      long = omega (arith, same, before.long, length-map sums value, length-map (set sums place after) value, length-set sums place after);
      touched =
          subst (AreTouched (take more written)) (sym put)
          (subst (λ t. AreTouched t (added_at place amount (map value sums))) (sym (is ∙ ap (λ n. touched_with place n (take count numbers)) (of ∙ here)))
          (touched-added place amount (take count numbers) (map value sums) some (omega (arith, long, length-map sums value)) before.touched));
    }

    pub sums-step : map value (set sums place after) ≡ added_at place amount old
    sums-step = put ∙ ap (added_at place amount) view

-- The list that a body starts with: all sums are 0.
pub untouched : (numbers sums : List ℕ) (n : ℕ) → length numbers ≡ n + 1 → sums ≡ replicate n 0 → StartWithTouched numbers 0 sums
untouched numbers sums n long zeros = record {
  long = omega (arith, long, ap length zeros, length-replicate {A = ℕ} n 0);
  touched = subst (AreTouched []) (sym zeros) (touched-zeros n);
}

-- The first numbers of a list, in front of the others.
pub first-part : (count : ℕ) (part rest : List ℕ) → length part ≡ count → take count (part ++ rest) ≡ part
first-part count part rest same = take-append-le count part rest (omega (arith, same)) ∙ take_all count part (omega (arith, same))

-- Sorting the touched places keeps them. The list was lent as `lent` and is written back as `back`.
pub sorted-touched : (numbers lent sorted back sums : List ℕ) (count : ℕ) → lent ≡ numbers → back ≡ sorted → length sorted ≡ length lent → IsPermutation (take count lent) (take count sorted) → StartWithTouched numbers count sums → StartWithTouched back count sums
sorted-touched numbers lent sorted back sums count from to same moved is = record {
  long = ap length to ∙ same ∙ ap length from ∙ is.long;
  touched =
      subst (λ l. AreTouched (take count l) sums) (sym to)
      (touched-permutation (take count lent) (take count sorted) sums moved (subst (λ l. AreTouched (take count l) sums) (sym from) is.touched));
}

-- Sums that were taken, of numbers of any type that has a value. The body reads the places as `read`.
module _ {T : Type 0} (value : T → ℕ) (numbers read : List ℕ) (of : read ≡ numbers) (count : ℕ) (sums : List T) (start : StartWithTouched numbers count (map value sums)) where
  pub taken-listed : AreTouched (take count read) (map value sums)
  taken-listed = subst (λ l. AreTouched (take count l) (map value sums)) (sym of) start.touched

  pub taken-count : count ≡ length (take count read)
  taken-count = sym (length-take-le count read (omega (arith, ap length of, touched-few numbers count (map value sums) start)))

  pub taken-inside : All (λ place. place < length sums) (take count read)
  taken-inside = subst (λ n. All (λ place. place < n) (take count read)) (length-map sums value) (touched-inside (take count read) (map value sums) taken-listed)

  -- After an error nothing changed.
  pub kept-touched : (left : List T) → left ≡ sums → StartWithTouched numbers count (map value left)
  kept-touched left same = subst (λ l. StartWithTouched numbers count (map value l)) (sym same) start

  module _ (left : List T) (is : map value left ≡ cleared (take count read) (map value sums)) where
    zeros : map value left ≡ replicate (length (map value sums)) 0
    zeros = is ∙ cleared-zeros (take count read) (map value sums) taken-listed

    pub taken-touched : StartWithTouched numbers 0 (map value left)
    taken-touched = untouched numbers (map value left) (length (map value sums)) start.long zeros

    pub taken-zeros : (old : List ℕ) → map value sums ≡ old → map value left ≡ replicate (length old) 0
    taken-zeros old view = zeros ∙ ap (λ (l : List ℕ). replicate (length l) 0) view

  module _ (old : List ℕ) (view : map value sums ≡ old) (entries : List Share) (is : entries ≡ moved (take count read) (map value sums)) where
    -- the entries are the sums that were not 0
    pub taken-any : AreSharesOf old entries
    taken-any = subst (λ l. AreSharesOf l entries) view (subst (AreSharesOf (map value sums)) (sym is) (moved-any (take count read) (map value sums) taken-listed))

    -- The entries ascend if the places do.
    pub taken-sorted : IsNonDecreasing (take count numbers) → entries ≡ shares_from 0 old
    taken-sorted rise =
        is ∙ moved-shares (take count read) (map value sums) (subst (λ l. IsNonDecreasing (take count l)) (sym of) rise) taken-listed ∙ ap (shares_from 0) view
