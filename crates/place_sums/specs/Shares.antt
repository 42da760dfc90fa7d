-- The places of shares, and the sum of shares with numbers.
use Rattle.std.specs.Prelude.{ℕ, ℤ, pos, ◌+ℤ◌, ◌*ℤ◌, List, [], ◌∷◌, map, get_or}
use Rattle.stencil_apply.specs.Table.{Share}

-- The control points of a row, in the order of its entries.
abbrev pub support_of : List Share → List ℕ
support_of shares = map (λ share. share.0) shares

-- The sum of the numerators, each times the number of its control point.
abbrev pub share_sum : List ℤ → List Share → ℤ
share_sum numbers [] = pos 0
share_sum numbers (share ∷ shares) = pos share.1 *ℤ get_or numbers share.0 (pos 0) +ℤ share_sum numbers shares
