-- Whether the nearest size is past the last of a range of sizes.
use Rattle.std.proofs.Common.{◌≡◌, ◌⊎◌, ℕ, ◌+◌, ◌-◌, ◌*◌, ◌%◌, ◌<◌, ◌≤◌, inl, inr, arith, ap}
use Rattle.std.proofs.lemmas.Bool.{cases_order}
use Rattle.std.proofs.Math.Nat.{mul-le-mul_right, mul-lt-mul_of_pos_right, add-mul}
use Rattle.nearest_float.specs.Binary.{units}
use Rattle.nearest_float.specs.Scaled.{IsNearestSize, far}
use Rattle.nearest_float.proofs.UnitLemmas.{units-below, units-within}

-- end is the first size past the range
module _ (p x y end size : ℕ) (some : 0 < end) (positive : 0 < y) (near : IsNearestSize p x y size) where
  last : units p (end - 1) * y < units p end * y
  last = mul-lt-mul_of_pos_right (units-below p (end - 1) end (omega arith)) positive

  split : (units p (end - 1) + units p end) * y ≡ units p (end - 1) * y + units p end * y
  split = add-mul (units p (end - 1)) (units p end) y

  pub past-end : end ≤ size → (units p (end - 1) + units p end) * y ≤ 2 * x
  past-end more =
      let above : units p end * y ≤ units p size * y = mul-le-mul_right y (units-within p end size more) in
      let nearest : far p x y size ≤ far p x y (end - 1) = near.nearest (end - 1) in
      omega (arith, above, split, nearest, last)

  pub before-end : end % 2 ≡ 0 → size < end → (units p (end - 1) + units p end) * y ≤ 2 * x → ⊥
  before-end even less beyond = by-order (cases_order (end - 1) size)
    where
      nearest : far p x y size ≤ far p x y end
      nearest = near.nearest end

      tie : (end ≡ size) ⊎ (size % 2 ≡ 0) → end - 1 ≡ size → ⊥
      tie (inl same) greatest = omega (arith, same, less)
      tie (inr size-even) greatest = omega (arith, size-even, greatest, even, some)

      by-order : (end - 1 ≡ size) ⊎ ((end - 1 < size) ⊎ (size < end - 1)) → ⊥
      by-order (inl same) =
          let here : units p (end - 1) * y ≡ units p size * y = ap (λ n. units p n * y) same in
          tie (near.even end (omega (arith, here, split, nearest, last, beyond))) same
      by-order (inr (inl more)) = omega (arith, more, less)
      by-order (inr (inr below)) =
          let under : units p size * y < units p (end - 1) * y = mul-lt-mul_of_pos_right (units-below p size (end - 1) below) positive in
          omega (arith, under, split, nearest, last, beyond)
