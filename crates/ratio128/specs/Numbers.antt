-- Lists of whole numbers, and weighted sums of them.
use Rattle.std.specs.Prelude.{ℕ, ◌+◌, ◌*◌, ◌^◌, ◌<◌, ℤ, pos, ◌+ℤ◌, ◌*ℤ◌, List, [], ◌∷◌, unsigned_abs, max}

-- each number plus the weight times the source's number in the same place
abbrev pub plus_times : ℤ → List ℤ → List ℤ → List ℤ
plus_times w (x ∷ xs) (y ∷ ys) = (x +ℤ w *ℤ y) ∷ plus_times w xs ys
plus_times w xs ys = xs

-- the amount of the number is less than 2^127
pub record IsKept (z : ℤ) : Type 0 where
  pub kept : unsigned_abs z < 2 ^ 127

-- the amount of each product and each sum is less than 2^127
abbrev pub CanAdd : ℤ → List ℤ → List ℤ → Type 0
CanAdd w (x ∷ xs) (y ∷ ys) = IsKept (w *ℤ y) × IsKept (x +ℤ w *ℤ y) × CanAdd w xs ys
CanAdd w xs ys = Unit {0}

-- for each number, its amount plus the weight times the source's amount is less than 2^63
abbrev pub CanAddNarrow : ℕ → List ℤ → List ℤ → Type 0
CanAddNarrow w (x ∷ xs) (y ∷ ys) = (unsigned_abs x + w * unsigned_abs y < 2 ^ 63) × CanAddNarrow w xs ys
CanAddNarrow w xs ys = Unit {0}

-- as many zeros as numbers
abbrev pub zeros : List ℤ → List ℤ
zeros [] = []
zeros (x ∷ xs) = pos 0 ∷ zeros xs

-- the greatest amount of the numbers, and 0 for an empty list
abbrev pub greatest_amount : List ℤ → ℕ
greatest_amount [] = 0
greatest_amount (x ∷ xs) = max (unsigned_abs x) (greatest_amount xs)
