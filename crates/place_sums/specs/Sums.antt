-- A list with a sum for each place. Most sums are 0.
use Rattle.std.specs.Prelude.{ℕ, zero, suc, ◌≡◌, ◌+◌, ◌*◌, ◌<◌, nat_lt, ℤ, pos, ◌+ℤ◌, ◌*ℤ◌, List, [], ◌∷◌, length, get_or}
use Rattle.std.specs.List.{AllByRecursion, sum_by}
use Rattle.subdiv_model.specs.Polygons.{is_among}
use Rattle.stencil_apply.specs.Table.{Share}
use Rattle.place_sums.specs.Shares.{support_of, share_sum}

-- The sums after adding `amount` at `place`.
abbrev pub added_at : ℕ → ℕ → List ℕ → List ℕ
added_at place amount [] = []
added_at zero amount (sum ∷ sums) = (sum + amount) ∷ sums
added_at (suc place) amount (sum ∷ sums) = sum ∷ added_at place amount sums

-- The sums after adding each share, times `factor`, at its place.
abbrev pub added_shares : ℕ → List Share → List ℕ → List ℕ
added_shares factor [] sums = sums
added_shares factor (share ∷ shares) sums = added_shares factor shares (added_at share.0 (factor * share.1) sums)

-- The total of all sums.
abbrev pub sum_of : List ℕ → ℕ
sum_of sums = sum_by (λ sum. sum) sums

-- The sums that are not 0, each with its place. The first sum of the list has the place `place`.
abbrev pub shares_from : ℕ → List ℕ → List Share
shares_from place [] = []
shares_from place (zero ∷ sums) = shares_from (place + 1) sums
shares_from place (suc n ∷ sums) = (place, suc n) ∷ shares_from (place + 1) sums

-- The total of the sums, each times the number of its place. The first sum of the list has the place `place`.
abbrev pub dense_sum_from : ℕ → List ℤ → List ℕ → ℤ
dense_sum_from place numbers [] = pos 0
dense_sum_from place numbers (sum ∷ sums) = pos sum *ℤ get_or numbers place (pos 0) +ℤ dense_sum_from (place + 1) numbers sums

-- The total of the sums, each times the number of its place, counted from 0.
abbrev pub dense_sum : List ℤ → List ℕ → ℤ
dense_sum numbers sums = dense_sum_from 0 numbers sums

-- The shares are the sums that are not 0, each with its place, in any order.
pub record AreSharesOf (sums : List ℕ) (shares : List Share) : Type 0 where
  pub inside : AllByRecursion (λ share. share.0 < length sums) shares
  pub each : AllByRecursion (λ share. 0 < share.1) shares
  pub named : (v : ℕ) → is_among (support_of shares) v ≡ nat_lt 0 (get_or sums v 0)
  pub value : (numbers : List ℤ) → share_sum numbers shares ≡ dense_sum numbers sums
