-- Weighted sums of rows, number by number.
use Rattle.std.specs.Prelude.{ℕ, ◌≡◌, ◌*◌, ◌/◌, ◌<◌, ◌≤◌, ℤ, pos, List, length, get_or}
use Rattle.std.specs.List.{All, fold}
use Rattle.std.specs.Int.{◌∣◌}
use Rattle.subdiv_model.specs.Mask.{SourcePoint, OfPoint, OfFace, Term, total_weight}
use Rattle.number_width.specs.declared.width.Width.{Width}
use Rattle.ratio128.specs.Numbers.{plus_times, greatest_amount}
use Rattle.primvar_refine.specs.Rows.{Row, row_at, least_bound}
use Rattle.primvar_refine.specs.Width.{sum_bound}

-- the row of a source: a point's own, or the row of the new list at the place of a face
abbrev pub source_row : List Row → List Row → List ℕ → SourcePoint → Row
source_row rows made places (OfPoint v) = row_at rows v
source_row rows made places (OfFace f) = row_at made (get_or places f 0)

-- the weight of a term over m, divided by the denominator of its source
abbrev pub weight_over : ℕ → (SourcePoint → Row) → Term → ℕ
weight_over m row t = t.weight * (m / (row t.source).den)

-- the sums so far, plus the numbers of each term's source by its weight over m
abbrev pub term_sums : ℕ → (SourcePoint → Row) → List ℤ → List Term → List ℤ
term_sums m row start terms = fold (λ sums t. plus_times (pos (weight_over m row t)) sums (row t.source).numbers) start terms

-- the source has a row
abbrev pub HasRow : List Row → List Row → List ℕ → SourcePoint → Type 0
HasRow rows made places (OfPoint v) = v < length rows
HasRow rows made places (OfFace f) = (f < length places) × (get_or places f 0 < length made)

-- a row of `size` numbers, whole over m and within a bound
pub record IsSummand (m most size : ℕ) (row : Row) : Type 0 where
  pub positive : 0 < row.den
  pub divides : row.den ∣ m
  pub within : greatest_amount row.numbers ≤ row.den * most
  pub alike : length row.numbers ≡ size

-- the terms can be summed over m, with sums of a width
pub record CanSum (width : Width) (m most size : ℕ) (row : SourcePoint → Row) (terms : List Term) : Type 0 where
  pub each : All (λ t. IsSummand m most size (row t.source)) terms
  pub weighed : All (λ t. 0 < t.weight) terms
  pub some : 0 < m
  pub short : total_weight terms * m ≤ sum_bound width
  pub kept : total_weight terms * (m * most) ≤ sum_bound width

-- the terms can be summed over m, with the rows of their sources and sums of a width
abbrev pub CanSumRows : Width → ℕ → ℕ → List Row → List Row → List ℕ → List Term → Type 0
CanSumRows width m size rows made places terms = CanSum width m (least_bound rows) size (source_row rows made places) terms
