-- Sums of whole numbers over lists: in parts, of what passes a test, and in either order.
use Rattle.std.proofs.Common.{◌≡◌, ℕ, Bool, true, false, nat_eq, ℤ, pos, ◌+ℤ◌, ◌*ℤ◌, List, [], ◌∷◌, ◌++◌, map, arith, refl, ap, sym, ◌∙◌}
use Rattle.std.specs.List.{filter, list_all, flat_map, count_by}
use Rattle.std.proofs.lemmas.Bool.{and_parts, eqb-true, cond_both}
use Rattle.std.proofs.lemmas.Int.{ints}
use Rattle.std.proofs.Math.IntN.{zero-*ℤ, *ℤ-zero, +ℤ_idl, *ℤ_comm}
use Rattle.number_laws.proofs.CountLemmas.{one_if, count-cons}
use Rattle.number_laws.proofs.WholeNumberLemmas.{pos-sum, pos-distrib, swap_middle, times-one}
use Rattle.mask_laws.proofs.SumLemmas.{sum_ℤ}

-- the number if the test passes, and 0 if not
abbrev pub number_if : Bool → ℤ → ℤ
number_if b n = pos (one_if b) *ℤ n

pub number-yes : (b : Bool) (n : ℤ) → b ≡ true → number_if b n ≡ n
number-yes b n h = ap (λ c. number_if c n) h ∙ *ℤ_comm (pos 1) n ∙ times-one n

pub number-no : (b : Bool) (n : ℤ) → b ≡ false → number_if b n ≡ pos 0
number-no b n h = ap (λ c. number_if c n) h ∙ zero-*ℤ n

pub number-alike : (b : Bool) (m n : ℤ) → (b ≡ true → m ≡ n) → number_if b m ≡ number_if b n
number-alike true m n h = ap (number_if true) (h refl)
number-alike false m n h = zero-*ℤ m ∙ sym (zero-*ℤ n)

-- equal numbers have equal sums
pub sum-same : {X : Type 0} (f g : X → ℤ) → ((x : X) → f x ≡ g x) → (xs : List X) → sum_ℤ f xs ≡ sum_ℤ g xs
sum-same f g h xs = λ i. sum_ℤ (λ x. h x i) xs

-- sums are equal if the functions agree where all items pass
pub sum-agree : {X : Type 0} (keep : X → Bool) (f g : X → ℤ) → ((x : X) → keep x ≡ true → f x ≡ g x) → (xs : List X) → list_all keep xs ≡ true
    → sum_ℤ f xs ≡ sum_ℤ g xs
sum-agree keep f g same [] h = refl
sum-agree keep f g same (x ∷ xs) h =
    let parts = and_parts (keep x) (list_all keep xs) h in
    ap (λ n. n +ℤ sum_ℤ f xs) (same x parts.0) ∙ ap (λ n. g x +ℤ n) (sum-agree keep f g same xs parts.1)

pub sum-none : {X : Type 0} (xs : List X) → sum_ℤ (λ x. pos 0) xs ≡ pos 0
sum-none [] = refl
sum-none (x ∷ xs) = +ℤ_idl (sum_ℤ (λ y. pos 0) xs) ∙ sum-none xs

pub sum-plus : {X : Type 0} (f g : X → ℤ) (xs : List X) → sum_ℤ (λ x. f x +ℤ g x) xs ≡ sum_ℤ f xs +ℤ sum_ℤ g xs
sum-plus f g [] = refl
sum-plus f g (x ∷ xs) = ap (λ n. (f x +ℤ g x) +ℤ n) (sum-plus f g xs) ∙ swap_middle (f x) (g x) (sum_ℤ f xs) (sum_ℤ g xs)

pub sum-times : {X : Type 0} (k : ℕ) (f : X → ℤ) (xs : List X) → sum_ℤ (λ x. pos k *ℤ f x) xs ≡ pos k *ℤ sum_ℤ f xs
sum-times k f [] = sym (*ℤ-zero (pos k))
sum-times k f (x ∷ xs) = ap (λ n. pos k *ℤ f x +ℤ n) (sum-times k f xs) ∙ sym (pos-distrib k (f x) (sum_ℤ f xs))

pub sum-append : {X : Type 0} (f : X → ℤ) (xs ys : List X) → sum_ℤ f (xs ++ ys) ≡ sum_ℤ f xs +ℤ sum_ℤ f ys
sum-append f [] ys = sym (+ℤ_idl (sum_ℤ f ys))
sum-append f (x ∷ xs) ys = ap (λ n. f x +ℤ n) (sum-append f xs ys) ∙ regroup (f x) (sum_ℤ f xs) (sum_ℤ f ys)
  where
    regroup : (a b c : ℤ) → a +ℤ (b +ℤ c) ≡ (a +ℤ b) +ℤ c
    regroup a b c = omega (arith, ints)

pub sum-map : {X Y : Type 0} (f : Y → ℤ) (g : X → Y) (xs : List X) → sum_ℤ f (map g xs) ≡ sum_ℤ (λ x. f (g x)) xs
sum-map f g [] = refl
sum-map f g (x ∷ xs) = ap (λ n. f (g x) +ℤ n) (sum-map f g xs)

pub sum-flat : {X Y : Type 0} (f : Y → ℤ) (parts : X → List Y) (xs : List X) → sum_ℤ f (flat_map parts xs) ≡ sum_ℤ (λ x. sum_ℤ f (parts x)) xs
sum-flat f parts [] = refl
sum-flat f parts (x ∷ xs) = sum-append f (parts x) (flat_map parts xs) ∙ ap (λ n. sum_ℤ f (parts x) +ℤ n) (sum-flat f parts xs)

-- a sum over kept items is a sum in which the other items count 0
pub sum-kept : {X : Type 0} (keep : X → Bool) (f : X → ℤ) (xs : List X) → sum_ℤ f (filter keep xs) ≡ sum_ℤ (λ x. number_if (keep x) (f x)) xs
sum-kept keep f [] = refl
sum-kept keep f (x ∷ xs) =
    let behind = sum-kept keep f xs in
    let rest = sum_ℤ (λ y. number_if (keep y) (f y)) xs in
    cond_both (keep x) (x ∷ filter keep xs) (filter keep xs) (λ l. sum_ℤ f l ≡ number_if (keep x) (f x) +ℤ rest)
    (λ yes. ap (λ n. f x +ℤ n) behind ∙ ap (λ n. n +ℤ rest) (sym (number-yes (keep x) (f x) yes)))
    (λ no. behind ∙ sym (+ℤ_idl rest) ∙ ap (λ n. n +ℤ rest) (sym (number-no (keep x) (f x) no)))

-- the sum of one number for each item that passes
pub sum-count : {X : Type 0} (test : X → Bool) (n : ℤ) (xs : List X) → sum_ℤ (λ x. number_if (test x) n) xs ≡ pos (count_by test xs) *ℤ n
sum-count test n [] = sym (zero-*ℤ n)
sum-count test n (x ∷ xs) =
    ap (λ k. number_if (test x) n +ℤ k) (sum-count test n xs)
    ∙ pos-sum (one_if (test x)) (count_by test xs) n
    ∙ ap (λ k. pos k *ℤ n) (sym (count-cons test x xs))

-- sums of sums, in either order
pub sum-exchange : {X Y : Type 0} (f : X → Y → ℤ) (xs : List X) (ys : List Y)
    → sum_ℤ (λ x. sum_ℤ (f x) ys) xs ≡ sum_ℤ (λ y. sum_ℤ (λ x. f x y) xs) ys
sum-exchange f [] ys = sym (sum-none ys)
sum-exchange f (x ∷ xs) ys =
    ap (λ n. sum_ℤ (f x) ys +ℤ n) (sum-exchange f xs ys) ∙ sym (sum-plus (f x) (λ y. sum_ℤ (λ z. f z y) xs) ys)

-- the test is passed once
abbrev pub is_once : {X : Type 0} → (X → Bool) → List X → Bool
is_once test xs = nat_eq (count_by test xs) 1

-- the sum of one number for each item that passes, if one item does
pub once-count : {X : Type 0} (test : X → Bool) (n : ℤ) (xs : List X) → is_once test xs ≡ true → sum_ℤ (λ x. number_if (test x) n) xs ≡ n
once-count test n xs h =
    sum-count test n xs ∙ ap (λ k. pos k *ℤ n) (eqb-true (count_by test xs) 1 h) ∙ *ℤ_comm (pos 1) n ∙ times-one n

-- Two lists have one sum where each item of one has one partner in the other, with its number.
pub sum-partners : {X Y : Type 0} (partners : X → Y → Bool) (f : X → ℤ) (g : Y → ℤ) (xs : List X) (ys : List Y)
    → ((x : X) (y : Y) → partners x y ≡ true → f x ≡ g y)
    → list_all (λ x. is_once (partners x) ys) xs ≡ true → list_all (λ y. is_once (λ x. partners x y) xs) ys ≡ true
    → sum_ℤ f xs ≡ sum_ℤ g ys
sum-partners partners f g xs ys same all_xs all_ys =
    sum-agree (λ x. is_once (partners x) ys) f (λ x. sum_ℤ (λ y. number_if (partners x y) (f x)) ys) (λ x h. sym (once-count (partners x) (f x) ys h)) xs all_xs
    ∙ sum-exchange (λ x y. number_if (partners x y) (f x)) xs ys
    ∙ sum-same (λ y. sum_ℤ (λ x. number_if (partners x y) (f x)) xs) (λ y. sum_ℤ (λ x. number_if (partners x y) (g y)) xs)
    (λ y. sum-same (λ x. number_if (partners x y) (f x)) (λ x. number_if (partners x y) (g y)) (λ x. number-alike (partners x y) (f x) (g y) (same x y)) xs) ys
    ∙ sum-agree (λ y. is_once (λ x. partners x y) xs) (λ y. sum_ℤ (λ x. number_if (partners x y) (g y)) xs) g (λ y h. once-count (λ x. partners x y) (g y) xs h) ys all_ys
