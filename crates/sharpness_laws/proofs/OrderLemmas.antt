-- The sharpness of the next level and the weight of a transition, in any order of the edges.
use Rattle.std.proofs.Common.{◌≡◌, ℕ, zero, suc, ◌+◌, ◌-◌, ◌*◌, ◌<◌, ◌&&◌, nat_le, if◌then◌else◌, List, [], ◌∷◌, ◌++◌, length, map, arith, refl, ap, sym, ◌∙◌, subst}
use Rattle.std.specs.Prelude.{zip}
use Rattle.std.specs.List.{flat_map}
use Rattle.std.specs.List.Sorted.{IsPermutation}
use Rattle.std.specs.Int.{◌∣◌}
use Rattle.std.proofs.lemmas.List.Sorted.{IsPermutation-map, IsPermutation-append_right, length_permutation}
use Rattle.std.proofs.lemmas.Nat.Gcd.{dvd_trans, dvd_antisymm}
use Rattle.std.proofs.Math.Nat.{zero-div, mul_left_comm}
use Rattle.subdiv_model.specs.Fractions.{plus_fraction, sum_of_fractions}
use Rattle.subdiv_model.specs.Multiples.{lcm_of, lcm_of_all, common_denominator}
use Rattle.subdiv_model.specs.Sharpness.{Sharpness, Smooth, Semi, Infinite, Method, Normal, Chaikin, semi_of, semi_values, sharpness_of_fraction, uniform_child, chaikin_value, chaikin_half, chaikin_child_of, chaikin_overflows, half_child, is_too_fine}
use Rattle.subdiv_model.specs.Rule.{child_ring, ended_value, ended_values, at_most_one, transition_weight, transition_overflows}
use Rattle.number_laws.proofs.MultipleLemmas.{lcm-first, lcm-second, lcm-least, lcm-positive}
use Rattle.sharpness_laws.proofs.PermutationLemmas.{same_in_any_order, IsPermutation-flat_map}

plus-commutes : (x y z : ℕ × ℕ) → plus_fraction x (plus_fraction y z) ≡ plus_fraction y (plus_fraction x z)
plus-commutes x y z = pair (nums x.0 x.1 y.0 y.1 z.0 z.1) (mul_left_comm x.1 y.1 z.1)
  where
    pair : {a b c d : ℕ} → a ≡ c → b ≡ d → ◌≡◌ {A = ℕ × ℕ} (a, b) (c, d)
    pair p q = cc

    nums : (a b c d e f : ℕ) → a * (d * f) + (c * f + e * d) * b ≡ c * (b * f) + (a * f + e * b) * d
    nums a b c d e f = omega arith

pub sum-any_order : (xs ys : List (ℕ × ℕ)) → IsPermutation xs ys → sum_of_fractions xs ≡ sum_of_fractions ys
sum-any_order = same_in_any_order sum_of_fractions plus_fraction (λ x xs. refl) plus-commutes

lcm-zero : (a : ℕ) → lcm_of a 0 ≡ 0
lcm-zero a = ap (λ q. a * q) (zero-div a) ∙ omega arith

lcm-of_zero : (b : ℕ) → lcm_of 0 b ≡ 0
lcm-of_zero b = omega arith

lcm-divides : (a b c : ℕ) → 0 < b → 0 < c → lcm_of a (lcm_of b c) ∣ lcm_of b (lcm_of a c)
lcm-divides a b c above below =
    let all = lcm_of b (lcm_of a c) in
    let inner : lcm_of a c ∣ all = lcm-second b (lcm_of a c) in
    lcm-least a (lcm_of b c) all (lcm-positive b c above below) (dvd_trans a (lcm-first a c) inner)
    (lcm-least b c all below (lcm-first b (lcm_of a c)) (dvd_trans c (lcm-second a c) inner))

lcm-commutes : (a b c : ℕ) → lcm_of a (lcm_of b c) ≡ lcm_of b (lcm_of a c)
lcm-commutes zero b c = lcm-of_zero (lcm_of b c) ∙ sym (ap (lcm_of b) (lcm-of_zero c) ∙ lcm-zero b)
lcm-commutes (suc a) zero c = ap (lcm_of (suc a)) (lcm-of_zero c) ∙ lcm-zero (suc a) ∙ sym (lcm-of_zero (lcm_of (suc a) c))
lcm-commutes (suc a) (suc b) zero =
    ap (lcm_of (suc a)) (lcm-zero (suc b)) ∙ lcm-zero (suc a) ∙ sym (ap (lcm_of (suc b)) (lcm-zero (suc a)) ∙ lcm-zero (suc b))
lcm-commutes (suc a) (suc b) (suc c) =
    dvd_antisymm (lcm-divides (suc a) (suc b) (suc c) (omega arith) (omega arith)) (lcm-divides (suc b) (suc a) (suc c) (omega arith) (omega arith))

pub lcm-any_order : (xs ys : List ℕ) → IsPermutation xs ys → lcm_of_all xs ≡ lcm_of_all ys
lcm-any_order = same_in_any_order lcm_of_all lcm_of (λ x xs. refl) lcm-commutes

pub denominator-any_order : (xs ys : List (ℕ × ℕ)) → IsPermutation xs ys → common_denominator xs ≡ common_denominator ys
denominator-any_order xs ys h = lcm-any_order (map (λ x. x.1) xs) (map (λ x. x.1) ys) (IsPermutation-map (λ x. x.1) xs ys h)

pub count-any_order : {X : Type 0} (xs ys : List X) → IsPermutation xs ys → length xs ≡ length ys
count-any_order xs ys h = sym (length_permutation xs ys h)

half-any_order : (xs ys : List (ℕ × ℕ)) (s : ℕ × ℕ) → IsPermutation xs ys → chaikin_half xs s ≡ chaikin_half ys s
half-any_order xs ys s h =
    ap (λ n. if nat_le 2 n then sharpness_of_fraction (chaikin_value s (sum_of_fractions xs) n) else uniform_child (semi_of s))
    (count-any_order xs ys h)
    ∙ ap (λ sum. if nat_le 2 (length ys) then sharpness_of_fraction (chaikin_value s sum (length ys)) else uniform_child (semi_of s))
    (sum-any_order xs ys h)

module _ (ring other : List Sharpness) (h : IsPermutation ring other) where
  values-permuted : IsPermutation (flat_map semi_values ring) (flat_map semi_values other)
  values-permuted = IsPermutation-flat_map semi_values ring other h

  pub chaikin-any_order : (s : Sharpness) → chaikin_child_of ring s ≡ chaikin_child_of other s
  chaikin-any_order Smooth = refl
  chaikin-any_order (Semi num den) = half-any_order (flat_map semi_values ring) (flat_map semi_values other) (num, den) values-permuted
  chaikin-any_order Infinite = refl

  pub overflow-any_order : chaikin_overflows ring ≡ chaikin_overflows other
  overflow-any_order =
      let xs = flat_map semi_values ring in
      let ys = flat_map semi_values other in
      ap (λ n. nat_le 2 n && is_too_fine (4 * (n - 1) * common_denominator xs)) (count-any_order xs ys values-permuted)
      ∙ ap (λ den. nat_le 2 (length ys) && is_too_fine (4 * (length ys - 1) * den)) (denominator-any_order xs ys values-permuted)

  pub half_child-any_order : (method : Method) (s : Sharpness) → half_child method ring s ≡ half_child method other s
  half_child-any_order Normal s = refl
  half_child-any_order Chaikin s = chaikin-any_order s

  pub half_children-any_order : (method : Method) (some : List Sharpness)
      → map (half_child method ring) some ≡ map (half_child method other) some
  half_children-any_order method [] = refl
  half_children-any_order method (s ∷ some) =
      ap (λ t. t ∷ map (half_child method ring) some) (half_child-any_order method s)
      ∙ ap (λ rest. half_child method other s ∷ rest) (half_children-any_order method some)

  pub child_ring-permuted : (method : Method) → IsPermutation (child_ring method ring) (child_ring method other)
  child_ring-permuted method =
      subst (IsPermutation (child_ring method ring)) (half_children-any_order method other) (IsPermutation-map (half_child method ring) ring other h)

-- two readings of a list beside each other
zip-mapped : {X Y Z : Type 0} (f : X → Y) (g : X → Z) (xs : List X) → zip (map f xs) (map g xs) ≡ map (λ x. (f x, g x)) xs
zip-mapped f g [] = refl
zip-mapped f g (x ∷ xs) = ap (λ rest. (f x, g x) ∷ rest) (zip-mapped f g xs)

-- items at the vertex, each with the sharpness of its edge in this level and in the next
module _ {X : Type 0} (now next : X → Sharpness) (vertex vertex_child : Sharpness) where
  ended : List X → List (ℕ × ℕ)
  ended some = ended_values vertex vertex_child (map now some) (map next some)

  ended-parts : (some : List X)
      → ended some ≡ ended_value (vertex, vertex_child) ++ flat_map ended_value (map (λ x. (now x, next x)) some)
  unfolding ended
  ended-parts some = ap (λ l. ended_value (vertex, vertex_child) ++ flat_map ended_value l) (zip-mapped now next some)

  module _ (xs ys : List X) (h : IsPermutation xs ys) where
    ended-permuted : IsPermutation (ended xs) (ended ys)
    ended-permuted =
        let own = ended_value (vertex, vertex_child) in
        let pairs = map (λ x. (now x, next x)) xs in
        let other = map (λ x. (now x, next x)) ys in
        let around : IsPermutation (flat_map ended_value pairs) (flat_map ended_value other) =
        IsPermutation-flat_map ended_value pairs other (IsPermutation-map (λ x. (now x, next x)) xs ys h) in
        let whole : IsPermutation (own ++ flat_map ended_value pairs) (own ++ flat_map ended_value other) =
        IsPermutation-append_right own (flat_map ended_value pairs) (flat_map ended_value other) around in
        subst (λ l. IsPermutation l (ended ys)) (sym (ended-parts xs))
        (subst (IsPermutation (own ++ flat_map ended_value pairs)) (sym (ended-parts ys)) whole)

    pub weight-any_order : transition_weight vertex vertex_child (map now xs) (map next xs)
        ≡ transition_weight vertex vertex_child (map now ys) (map next ys)
    unfolding ended
    weight-any_order =
        ap (λ (sum : ℕ × ℕ). at_most_one (sum.0, sum.1 * length (ended xs))) (sum-any_order (ended xs) (ended ys) ended-permuted)
        ∙ ap (λ n. at_most_one ((sum_of_fractions (ended ys)).0, (sum_of_fractions (ended ys)).1 * n))
        (count-any_order (ended xs) (ended ys) ended-permuted)

    pub weight_overflow-any_order : transition_overflows vertex vertex_child (map now xs) (map next xs)
        ≡ transition_overflows vertex vertex_child (map now ys) (map next ys)
    unfolding ended
    weight_overflow-any_order =
        ap (λ n. is_too_fine (n * common_denominator (ended xs))) (count-any_order (ended xs) (ended ys) ended-permuted)
        ∙ ap (λ den. is_too_fine (length (ended ys) * den)) (denominator-any_order (ended xs) (ended ys) ended-permuted)
