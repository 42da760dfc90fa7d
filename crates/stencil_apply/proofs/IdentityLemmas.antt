-- Rows over controls that have 1 at their own place.
use Rattle.std.proofs.Common.{◌≡◌, ℕ, suc, ◌+◌, ◌<◌, ◌≤◌, Bool, true, false, ℤ, pos, ◌+ℤ◌, ◌*ℤ◌, nat_eq, List, [], ◌∷◌, length, map, get_or, if◌then◌else◌, arith, refl, ap, ◌∙◌, add-one}
use Rattle.std.specs.List.{All, range_with_len}
use Rattle.std.specs.List.Sorted.{IsStrictlyIncreasing}
use Rattle.std.proofs.lemmas.Bool.Decides.{nat_tests}
use Rattle.std.proofs.lemmas.Int.{ints}
use Rattle.std.proofs.lemmas.List.FromFn.{get_or-map-range_with_len}
use Rattle.ratio128.specs.Numbers.{plus_times, zeros}
use Rattle.stencil_apply.specs.Table.{Share, Row, IsRow, sum_of_shares, sum_of_row}
use Rattle.stencil_apply.specs.Means.{unit_numbers, numerator_of}
use Rattle.stencil_apply.proofs.MeanLemmas.{all-first, all-rest}

-- all numerators of a control
abbrev pub amount : List Share → ℕ → ℕ
amount [] k = 0
amount (share ∷ shares) k = (if nat_eq k share.0 then share.1 else 0) + amount shares k

same-map : {X Y : Type 0} (f g : X → Y) (xs : List X) → ((x : X) → f x ≡ g x) → map f xs ≡ map g xs
same-map f g [] e = refl
same-map f g (x ∷ xs) e =
    let first = e x in
    let rest = same-map f g xs e in
    cc

zeros-map : (place : List ℤ) (a : ℕ) → zeros place ≡ map (λ v. pos 0) (range_with_len a (length place))
zeros-map [] a = refl
zeros-map (x ∷ place) a = ap (λ zs. pos 0 ∷ zs) (zeros-map place (a + 1))

times-unit : (test : Bool) (n w : ℕ) → pos n +ℤ pos w *ℤ (if test then pos 1 else pos 0) ≡ pos (n + (if test then w else 0))
times-unit true n w = omega (arith, ints)
times-unit false n w = omega (arith, ints)

-- a weight times the numbers of a control adds the weight at its place
plus-unit : (f : ℕ → ℕ) (w v : ℕ) (ks : List ℕ) → plus_times (pos w) (map (λ k. pos (f k)) ks) (map (λ k. if nat_eq k v then pos 1 else pos 0) ks) ≡ map (λ k. pos (f k + (if nat_eq k v then w else 0))) ks
plus-unit f w v [] = refl
plus-unit f w v (k ∷ ks) =
    let first = times-unit (nat_eq k v) (f k) w in
    let rest = plus-unit f w v ks in
    cc

-- the sum has at each place all numerators of its control
sum-units : (shares : List Share) (count : ℕ) (f : ℕ → ℕ) → All (λ share. share.0 < count) shares → sum_of_shares (map (λ k. pos (f k)) (range_with_len 0 count)) (map (unit_numbers count) (range_with_len 0 count)) shares ≡ map (λ k. pos (f k + amount shares k)) (range_with_len 0 count)
sum-units [] count f inside = same-map (λ k. pos (f k)) (λ k. pos (f k + 0)) (range_with_len 0 count) (λ k. ap pos (omega arith))
sum-units (share ∷ shares) count f inside =
    let units = map (unit_numbers count) (range_with_len 0 count) in
    let here : share.0 < count = all-first (λ (s : Share). s.0 < count) share shares inside in
    let unit : get_or (map (unit_numbers count) (range_with_len 0 count)) share.0 [] ≡ unit_numbers count share.0 =
    get_or-map-range_with_len (unit_numbers count) 0 count share.0 share.0 [] here (omega arith) in
    ap (λ numbers. sum_of_shares (plus_times (pos share.1) (map (λ k. pos (f k)) (range_with_len 0 count)) numbers) (map (unit_numbers count) (range_with_len 0 count)) shares) unit
    ∙ ap (λ sum. sum_of_shares sum (map (unit_numbers count) (range_with_len 0 count)) shares) (plus-unit f share.1 share.0 (range_with_len 0 count))
    ∙ sum-units shares count (λ k. f k + (if nat_eq k share.0 then share.1 else 0)) (all-rest (λ (s : Share). s.0 < count) share shares inside)
    ∙ same-map (λ k. pos ((f k + (if nat_eq k share.0 then share.1 else 0)) + amount shares k)) (λ k. pos (f k + amount (share ∷ shares) k)) (range_with_len 0 count) (λ k. ap pos (omega arith))

-- each share is of a control after this one
abbrev AreAfter : ℕ → List Share → Type 0
AreAfter v [] = Unit {0}
AreAfter v (share ∷ shares) = (v < share.0) × AreAfter v shares

after-less : (u v : ℕ) (shares : List Share) → u ≤ v → AreAfter v shares → AreAfter u shares
after-less u v [] h after = tt
after-less u v (share ∷ shares) h after = (omega (arith, after.0), after-less u v shares h after.1)

rest-ascending : (x : ℕ) (xs : List ℕ) → IsStrictlyIncreasing (x ∷ xs) → IsStrictlyIncreasing xs
rest-ascending x xs up k h =
    let next : get_or xs k 0 < get_or (x ∷ xs) (suc k + 1) 0 = up (suc k) (omega (arith, h)) in
    let after : get_or xs k 0 < get_or xs (suc k) 0 = rw add-one at next in
    rw (add-one k) after

after-ascending : (v : ℕ) (shares : List Share) → IsStrictlyIncreasing (v ∷ map (λ share. share.0) shares) → AreAfter v shares
after-ascending v [] up = tt
after-ascending v (share ∷ shares) up =
    let first : v < share.0 = up 0 (omega arith) in
    let rest : AreAfter share.0 shares = after-ascending share.0 shares (rest-ascending v (share.0 ∷ map (λ (s : Share). s.0) shares) up) in
    (first, after-less v share.0 shares (omega (arith, first)) rest)

none-after : (v k : ℕ) (shares : List Share) → AreAfter v shares → k ≤ v → amount shares k ≡ 0
none-after v k [] after h = refl
none-after v k (share ∷ shares) after h =
    let first = after.0 in
    let rest = none-after v k shares after.1 h in
    grind (arith, nat_tests)

-- a row has a control at most once
pub amount-once : (k : ℕ) (shares : List Share) → IsStrictlyIncreasing (map (λ share. share.0) shares) → amount shares k ≡ numerator_of shares k
amount-once k [] up = refl
amount-once k (share ∷ shares) up =
    let after = after-ascending share.0 shares up in
    first-or-rest (nat_eq share.0 k) share.0 k share.1 (amount shares k) (numerator_of shares k) refl (none-after share.0 k shares after) (amount-once k shares (rest-ascending share.0 (map (λ (s : Share). s.0) shares) up))
  where
    first-or-rest : (test : Bool) (v k w a n : ℕ) → nat_eq v k ≡ test → (k ≤ v → a ≡ 0) → a ≡ n → (if nat_eq k v then w else 0) + a ≡ (if nat_eq v k then w else n)
    first-or-rest true v k w a n e none rest =
        let same : v ≡ k = grind (arith, nat_tests) in
        let zero = none (omega (arith, same)) in
        grind (arith, nat_tests)
    first-or-rest false v k w a n e none rest = grind (arith, nat_tests)

-- the row over the identity
pub row-of-identity : (row : Row) (place : List ℤ) → IsRow (length place) row → sum_of_row (zeros place) (map (unit_numbers (length place)) (range_with_len 0 (length place))) row ≡ map (λ v. pos (numerator_of row.shares v)) (range_with_len 0 (length place))
row-of-identity row place is =
    ap (λ start. sum_of_shares start (map (unit_numbers (length place)) (range_with_len 0 (length place))) row.shares) (zeros-map place 0)
    ∙ sum-units row.shares (length place) (λ k. 0) is.inside
    ∙ same-map (λ k. pos (0 + amount row.shares k)) (λ k. pos (numerator_of row.shares k)) (range_with_len 0 (length place))
    (λ k. ap pos (omega (arith, amount-once k row.shares is.ascending)))
