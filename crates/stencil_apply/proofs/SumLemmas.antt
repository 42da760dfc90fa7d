-- One more entry of a row.
use Rattle.std.proofs.Common.{◌≡◌, ℕ, ◌+◌, ◌*◌, ◌/◌, ◌^◌, ◌<◌, ◌≤◌, ℤ, pos, List, [], ◌∷◌, length, map, take, get_or, to_z, FitsSigned, arith, sym, ap, ◌∙◌}
use Rattle.std.specs.Int.{w128}
use Rattle.std.specs.List.{zip}
use Rattle.std.proofs.Math.Nat.{mul-le-mul_left, mul-le-mul_right, mul-div-le, mul_comm}
use Rattle.std.proofs.lemmas.Int.{to_z_pos}
use Rattle.std.proofs.lemmas.List.{get_or-map, length-map, take_all}
use Rattle.std.proofs.lemmas.List.Sums.{sum_by_more_le, sum_by_more, fold_more}
use Rattle.std.proofs.lemmas.Nat.{le-div}
use Rattle.std.proofs.lemmas.Slice.Zip.{length-zip, get_or-zip}
use Rattle.ratio128.specs.Numbers.{plus_times, CanAdd, CanAddNarrow, greatest_amount}
use Rattle.ratio128.proofs.AmountLemmas.{IsWithin, IsWithin-more, IsWithin-greatest, IsWithin-plus_times, CanAdd-within, length-plus_times}
use Rattle.stencil_apply.specs.Table.{Share, total_of, sum_of_shares}
use Rattle.stencil_apply.specs.Means.{CanSum}

-- an amount that the whole row can be multiplied by
pub amount_within : (total a bound : ℕ) → 0 < total → total * a ≤ bound → a ≤ bound / total
amount_within total a bound positive h = le-div a bound total positive (rw mul_comm h)

-- with one more numerator the sums stay within the bound
pub room_left : (total sofar w bound : ℕ) → sofar + w ≤ total → sofar * (bound / total) + w * (bound / total) ≤ bound
room_left total sofar w bound h = omega (arith, mul-le-mul_right (bound / total) h, mul-div-le bound total)

-- the sums of all entries are those of the shares
pub sums-all : (start : List ℤ) (controls : List (List ℤ)) (indices numerators : List ℕ) (i : ℕ) → length indices ≤ i → (xs : List ℤ) → xs ≡ sum_of_shares start controls (take i (zip indices numerators)) → xs ≡ sum_of_shares start controls (zip indices numerators)
sums-all start controls indices numerators i h xs e =
    e ∙ ap (sum_of_shares start controls) (take_all i (zip indices numerators) (omega (arith, h, length-zip indices numerators)))

-- numbers can be added in 64 bits where their sums are small
CanAddNarrow-within : (s w m : ℕ) (xs ys : List ℤ) → IsWithin s xs → IsWithin m ys → s + w * m < 2 ^ 63 → CanAddNarrow w xs ys
CanAddNarrow-within s w m [] ys hx hy h = tt
CanAddNarrow-within s w m (x ∷ xs) [] hx hy h = tt
CanAddNarrow-within s w m (x ∷ xs) (y ∷ ys) hx hy h =
    let first = mul-le-mul_left w hy.0 in (omega (arith, first, hx.0, h), CanAddNarrow-within s w m xs ys hx.1 hy.1 h)

-- one entry of a row that can be summed over these controls within a bound
module _ {N X : Type 0} (value : N → ℕ) (numbers : X → List ℤ) (bound : ℕ) (controls : List X) (indices : List ℕ) (numerators : List N) (equal : length numerators ≡ length indices) (fits : CanSum bound (zip indices (map value numerators)) (map numbers controls)) (i : ℕ) (h : i < length indices) where
  abbrev shares : List Share
  shares = zip indices (map value numerators)

  -- the numerator
  abbrev weight : ℕ
  weight = get_or (map value numerators) i 0

  -- the greatest distance of the sums from 0 for each 1 of the numerators
  abbrev most : ℕ
  most = bound / total_of shares

  -- an entry and its share have one place
  equal-values : length (map value numerators) ≡ length indices
  equal-values = length-map numerators value ∙ equal

  inside : i < length shares
  inside = omega (arith, h, equal-values, length-zip indices (map value numerators))

  share-at : get_or shares i (0, 0) ≡ (get_or indices i 0, weight)
  share-at = get_or-zip indices (map value numerators) i (0, 0) h (omega (arith, h, equal-values))

  weight-at : (get_or shares i (0, 0)).1 ≡ weight
  weight-at = ap (λ (share : Share). share.1) share-at

  more : total_of (take (i + 1) shares) ≡ total_of (take i shares) + weight
  more = sum_by_more (λ (share : Share). share.1) shares i (0, 0) inside ∙ ap (λ w. total_of (take i shares) + w) weight-at

  more-le : total_of (take i shares) + weight ≤ total_of shares
  more-le = omega (arith, sum_by_more_le (λ (share : Share). share.1) shares i (0, 0) inside, weight-at)

  -- the entry names a control
  pub in_controls : get_or indices i 0 < length controls
  in_controls =
      let there : (get_or shares i (0, 0)).0 < length (map numbers controls) = fits.inside i (0, 0) inside in
      omega (arith, there, ap (λ (share : Share). share.0) share-at, length-map controls numbers)

  -- the numerator of an entry is above 0 and within the bound
  module _ (number : N) (is-number : number ≡ get_or numerators i number) (w : ℕ) (named : w ≡ value number) where
    weight-is : w ≡ weight
    weight-is = named ∙ ap value is-number ∙ sym (get_or-map value numerators i number 0 (omega (arith, h, equal)))

    pub weight-some : 0 < w
    weight-some = let some : 0 < (get_or shares i (0, 0)).1 = fits.each i (0, 0) inside in omega (arith, some, weight-at, weight-is)

    pub weight-short : w ≤ bound
    weight-short = omega (arith, more-le, fits.short, weight-is)

    -- the numerator fits 128 bits with a sign
    pub weight-fits : bound < 2 ^ 127 → FitsSigned w128 (pos w)
    weight-fits small = record { sfits = omega (arith, weight-short, small) }

    pub weight-signed : bound < 2 ^ 127 → to_z w128 w ≡ pos w
    weight-signed small = to_z_pos w128 w (omega (arith, weight-short, small))

    module _ (control : X) (is : control ≡ get_or controls (get_or indices i 0) control) (xs : List ℤ) where
      numbers-are : numbers control ≡ get_or (map numbers controls) (get_or indices i 0) []
      numbers-are = ap numbers is ∙ sym (get_or-map numbers controls (get_or indices i 0) control [] in_controls)

      within-at : IsWithin most (numbers control)
      within-at =
          let there : total_of shares * greatest_amount (get_or (map numbers controls) (get_or indices i 0) []) ≤ bound =
          fits.within (get_or indices i 0) [] (omega (arith, in_controls, length-map controls numbers)) in
          rw numbers-are (IsWithin-greatest most _ (amount_within (total_of shares) _ bound fits.some there))

      both-within : total_of (take i shares) * most + w * most ≤ bound
      both-within = rw weight-is (room_left (total_of shares) (total_of (take i shares)) weight bound more-le)

      -- the control can be added, in 128 bits or in 64
      pub can_add : bound < 2 ^ 127 → IsWithin (total_of (take i shares) * most) xs → CanAdd (pos (w)) xs (numbers control)
      can_add short within =
          CanAdd-within (total_of (take i shares) * most) (w) most xs (numbers control) within within-at (omega (arith, both-within, short))

      pub can_add-narrow : bound < 2 ^ 63 → IsWithin (total_of (take i shares) * most) xs → CanAddNarrow (w) xs (numbers control)
      can_add-narrow short within =
          CanAddNarrow-within (total_of (take i shares) * most) (w) most xs (numbers control) within within-at (omega (arith, both-within, short))

      -- if 128-bit numbers are added, the weight is one of them
      pub added-signed : bound < 2 ^ 127 → (after : List ℤ) → after ≡ plus_times (to_z w128 w) xs (numbers control) → after ≡ plus_times (pos w) xs (numbers control)
      added-signed small after added = added ∙ ap (λ z. plus_times z xs (numbers control)) (weight-signed small)

      module _ (after : List ℤ) (added : after ≡ plus_times (pos w) xs (numbers control)) where
        pub length-more : length after ≡ length xs
        length-more = rw added (length-plus_times (pos w) xs (numbers control))

        -- the sums with it are within their bound
        pub within-more : IsWithin (total_of (take i shares) * most) xs → IsWithin (total_of (take (i + 1) shares) * most) after
        within-more within =
            rw (added, more, ← weight-is)
            (IsWithin-more _ _ _ (omega arith) (IsWithin-plus_times (total_of (take i shares) * most) w most xs (numbers control) within within-at))

        -- the sums with one more entry
        pub sums-more : (start : List ℤ) → xs ≡ sum_of_shares start (map numbers controls) (take i shares) → after ≡ sum_of_shares start (map numbers controls) (take (i + 1) shares)
        sums-more start e =
            rw (added, weight-is)
            (ap (λ x. plus_times (pos weight) x (numbers control)) e
            ∙ ap (plus_times (pos weight) (sum_of_shares start (map numbers controls) (take i shares))) numbers-are
            ∙ sym (fold_more (λ sum (share : Share). plus_times (pos share.1) sum (get_or (map numbers controls) share.0 [])) start shares i (0, 0) inside
            ∙ ap (λ (share : Share). plus_times (pos share.1) (sum_of_shares start (map numbers controls) (take i shares)) (get_or (map numbers controls) share.0 [])) share-at))
