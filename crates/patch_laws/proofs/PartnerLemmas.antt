-- Partners in two lists of one length. If each item of the first list has a partner, and each of the second has exactly one, each
-- of the first has exactly one.
use Rattle.std.proofs.Common.{◌≡◌, ℕ, ◌+◌, ◌≤◌, Bool, true, nat_eq, ℤ, List, [], ◌∷◌, length, arith, refl, ap, sym, ◌∙◌}
use Rattle.std.specs.List.{list_all, list_any, sum_by, count_by}
use Rattle.std.proofs.lemmas.Bool.{and_parts, and_from, eq-eqb, eqb-true}
use Rattle.std.proofs.lemmas.List.Sums.{sum_by-cons}
use Rattle.subdiv_model.specs.Polygons.{is_among}
use Rattle.number_laws.proofs.CountLemmas.{count-cons, count-some}
use Rattle.mesh_laws.proofs.ClosedLemmas.{any-all}
use Rattle.mask_laws.proofs.SumLemmas.{sum_ℤ}
use Rattle.limit_laws.proofs.SumExchangeLemmas.{is_once, sum-partners}

-- Lists of numbers.

-- what passes in all of a list passes at each that is among it
pub all-among : (test : ℕ → Bool) (numbers : List ℕ) (n : ℕ) → list_all test numbers ≡ true → is_among numbers n ≡ true → test n ≡ true
all-among test numbers n h among =
    let found = any-all (nat_eq n) test numbers among h in ap test (eqb-true n found.0 found.1) ∙ found.2

-- Partners.

-- a sum of ones
sum-ones : {Y : Type 0} (f : Y → ℕ) (ys : List Y) → list_all (λ y. nat_eq (f y) 1) ys ≡ true → sum_by f ys ≡ length ys
sum-ones f [] h = refl
sum-ones f (y ∷ ys) h =
    let parts = and_parts (nat_eq (f y) 1) (list_all (λ z. nat_eq (f z) 1) ys) h in
    omega (arith, sum_by-cons f y ys, eqb-true (f y) 1 parts.0, sum-ones f ys parts.1)

module _ {X Y : Type 0} (partners : X → Y → Bool) (ys : List Y) where
  -- how many pairs of partners there are
  abbrev pairs : List X → ℕ
  pairs xs = sum_by (λ y. count_by (λ x. partners x y) xs) ys

  pairs-cons : (x : X) (xs : List X) → pairs (x ∷ xs) ≡ count_by (partners x) ys + pairs xs
  pairs-cons x xs = each ys
    where
      each : (zs : List Y) → sum_by (λ y. count_by (λ t. partners t y) (x ∷ xs)) zs ≡ count_by (partners x) zs + sum_by (λ y. count_by (λ t. partners t y) xs) zs
      each [] = refl
      each (z ∷ zs) =
          omega (
            arith,
            sum_by-cons (λ y. count_by (λ t. partners t y) (x ∷ xs)) z zs,
            sum_by-cons (λ y. count_by (λ t. partners t y) xs) z zs,
            count-cons (λ t. partners t z) x xs,
            count-cons (partners x) z zs,
            each zs,
          )

  pairs-least : (xs : List X) → list_all (λ x. list_any (partners x) ys) xs ≡ true → length xs ≤ pairs xs
  pairs-least [] h = omega arith
  pairs-least (x ∷ xs) h =
      let parts = and_parts (list_any (partners x) ys) (list_all (λ t. list_any (partners t) ys) xs) h in
      omega (arith, pairs-cons x xs, count-some (partners x) ys parts.0, pairs-least xs parts.1)

  once-each : (xs : List X) → list_all (λ x. list_any (partners x) ys) xs ≡ true → pairs xs ≡ length xs → list_all (λ x. is_once (partners x) ys) xs ≡ true
  once-each [] h same = refl
  once-each (x ∷ xs) h same =
      let parts = and_parts (list_any (partners x) ys) (list_all (λ t. list_any (partners t) ys) xs) h in
      let some = count-some (partners x) ys parts.0 in
      let least = pairs-least xs parts.1 in
      let all = pairs-cons x xs in
      let one : count_by (partners x) ys ≡ 1 = omega (arith, all, some, least, same) in
      let rest : pairs xs ≡ length xs = omega (arith, all, some, least, same) in
      and_from _ _ (eq-eqb (count_by (partners x) ys) 1 one) (once-each xs parts.1 rest)

  module _ (xs : List X) (as_many : length xs ≡ length ys) (some : list_all (λ x. list_any (partners x) ys) xs ≡ true)
      (one : list_all (λ y. is_once (λ x. partners x y) xs) ys ≡ true) where
    pub each-once : list_all (λ x. is_once (partners x) ys) xs ≡ true
    each-once = once-each xs some (sum-ones (λ y. count_by (λ x. partners x y) xs) ys one ∙ sym as_many)

    -- sums over partners are equal
    pub partner-sums : (f : X → ℤ) (g : Y → ℤ) → ((x : X) (y : Y) → partners x y ≡ true → f x ≡ g y) → sum_ℤ f xs ≡ sum_ℤ g ys
    partner-sums f g same = sum-partners partners f g xs ys same each-once one
