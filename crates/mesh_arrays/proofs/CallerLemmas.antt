-- Points of a refined channel can be put, for a caller that has the fields of `IsRefinedTo` of `channel_refine`.
use Rattle.std.proofs.Common.{ℕ, ◌*◌, ◌<◌, ◌≤◌, ℤ, List, [], ◌∷◌, max, unsigned_abs, arith}
use Rattle.std.specs.List.{All}
use Rattle.std.proofs.lemmas.List.Elements.{All-nil, All-cons, All-head, All-tail}
use Rattle.std.proofs.Math.Nat.{mul-le-mul_left, mul-le-mul_right}
use Rattle.subdiv_model.specs.Channel.{number_bound}
use Rattle.ratio128.specs.Numbers.{greatest_amount}
use Rattle.ratio128.specs.declared.point.Point3.{Point3}
use Rattle.ratio128.specs.declared.valued.Valued.{Valued}
use Rattle.primvar_refine.specs.Rows.{Row, AreWithin}
use Rattle.primvar_refine.specs.View.{row_of, rows_of}
use Rattle.mesh_arrays.specs.Points.{CanBePut}

-- the numbers of a point, as `Primvar` has them
abbrev pub point_numbers : Point3 → List ℤ
point_numbers p = p.x ∷ p.y ∷ p.z ∷ []

within-three : (a b c m : ℕ) → max a (max b (max c 0)) ≤ m → (a ≤ m) × (b ≤ m) × (c ≤ m)
within-three a b c m within = (omega (arith, within), omega (arith, within), omega (arith, within))

one : (common greatest : ℕ) (p : Valued Point3) → 0 < common → 0 < p.den → p.den * max greatest common ≤ number_bound →
    greatest_amount (point_numbers p.value) ≤ p.den * greatest → CanBePut common p
one common greatest p some positive short within =
    let least : 1 * common ≤ p.den * common = mul-le-mul_right common positive in
    let short-common : p.den * common ≤ p.den * max greatest common = mul-le-mul_left p.den (omega arith) in
    let short-greatest : p.den * greatest ≤ p.den * max greatest common = mul-le-mul_left p.den (omega arith) in
    let amounts = within-three (unsigned_abs p.value.x) (unsigned_abs p.value.y) (unsigned_abs p.value.z) (p.den * greatest) within in record {
      positive = omega (arith, least, some);
      short = omega (arith, short, short-common);
      x = omega (arith, amounts.0, short, short-greatest);
      y = omega (arith, amounts.1, short, short-greatest);
      z = omega (arith, amounts.2, short, short-greatest);
    }

pub can-be-put : (common greatest : ℕ) (points : List (Valued Point3)) → 0 < common → All (λ row. 0 < row.den) (rows_of point_numbers points) →
    All (λ row. row.den * max greatest common ≤ number_bound) (rows_of point_numbers points) → AreWithin greatest (rows_of point_numbers points) →
    All (CanBePut common) points
can-be-put common greatest [] some positive short within = All-nil (CanBePut common)
can-be-put common greatest (p ∷ points) some positive short within =
    All-cons (CanBePut common) p points
    (one common greatest p some
    (All-head (λ (row : Row). 0 < row.den) (row_of point_numbers p) (rows_of point_numbers points) positive)
    (All-head (λ (row : Row). row.den * max greatest common ≤ number_bound) (row_of point_numbers p) (rows_of point_numbers points) short)
    (All-head (λ (row : Row). greatest_amount row.numbers ≤ row.den * greatest) (row_of point_numbers p) (rows_of point_numbers points) within))
    (can-be-put common greatest points some
    (All-tail (λ (row : Row). 0 < row.den) (row_of point_numbers p) (rows_of point_numbers points) positive)
    (All-tail (λ (row : Row). row.den * max greatest common ≤ number_bound) (row_of point_numbers p) (rows_of point_numbers points) short)
    (All-tail (λ (row : Row). greatest_amount row.numbers ≤ row.den * greatest) (row_of point_numbers p) (rows_of point_numbers points) within))
