-- The points of a refined channel are those of the definitions, in other terms.
use Rattle.std.proofs.Common.{◌≡◌, ℕ, suc, ◌*◌, ◌^◌, ◌<◌, ◌≤◌, max, ℤ, unsigned_abs, List, [], ◌∷◌, length, map, arith, refl, ap, sym, ◌∙◌}
use Rattle.std.specs.List.{All, AllZip, AllByRecursion, flat_map}
use Rattle.std.proofs.Math.Nat.{le-max_left, le-max_right}
use Rattle.std.proofs.lemmas.List.Elements.{All-from_recursion, recursion_from_All}
use Rattle.subdiv_model.specs.Value.{Value}
use Rattle.subdiv_model.specs.Channel.{Channel, number_bound, greatest_amount}
use Rattle.subdiv_model.specs.Refined.{point_value, over_common, points_of_coordinates}
use Rattle.far_model.specs.Answer.{point_numbers}
use Rattle.number_laws.proofs.MultipleLemmas.{product-positive}
use Rattle.raw_mesh.specs.View as reader
use Rattle.subdiv_model.specs.Short.{IsShortPoint}
use Rattle.ratio128.specs.declared.point.Point3.{Point3}
use Rattle.ratio128.specs.Numbers as primvar
use Rattle.ratio128.specs.declared.valued.Valued.{Valued}
use Rattle.far_text.specs.Points.{points_of, CanBeWritten, IsSamePoint, HasDenominators}
use Rattle.channel_refine.specs.Refined.{AreControls}
use Rattle.channel_refine.specs.Evaluated.{control_rows}
use Rattle.mesh_answers.proofs.ColumnLemmas.{IsColumn, scaled, column-behind, controls-of, fold-at-most}

-- the numbers of a point
abbrev pub numbers : Point3 → List ℤ
numbers p = p.x ∷ p.y ∷ p.z ∷ []

-- the numbers of all points are the coordinates
point-numbers : (points : List Point3) → flat_map numbers points ≡ point_numbers (map reader.point_of points)
point-numbers [] = refl
point-numbers (p ∷ points) = ap (λ ns. p.x ∷ p.y ∷ p.z ∷ ns) (point-numbers points)

-- points are the controls of a channel
pub are-controls : (points : List Point3) (channel : Channel) → length points ≡ channel.base.point_count → channel.greatest ≡ greatest_amount (point_numbers (map reader.point_of points)) →
    AreControls channel (control_rows (map numbers points))
are-controls points channel many is = controls-of numbers 3 (λ p. refl) points channel many (is ∙ ap greatest_amount (sym (point-numbers points)))

-- three columns of values, and the points that have them
pub same-points : (common : ℕ) (values : List (Valued Point3)) (xs ys zs : List Value) → IsColumn numbers values 0 xs → IsColumn numbers values 1 ys → IsColumn numbers values 2 zs →
    AllZip IsSamePoint (points_of_coordinates (map (over_common common) xs) (map (over_common common) ys) (map (over_common common) zs)) (points_of common values)
same-points common [] [] [] [] hx hy hz = tt
same-points common [] (x ∷ xs) ys zs hx hy hz = absurd (omega (arith, hx.count))
same-points common [] [] (y ∷ ys) zs hx hy hz = absurd (omega (arith, hy.count))
same-points common [] [] [] (z ∷ zs) hx hy hz = absurd (omega (arith, hz.count))
same-points common (v ∷ values) [] ys zs hx hy hz = absurd (omega (arith, hx.count))
same-points common (v ∷ values) (x ∷ xs) [] zs hx hy hz = absurd (omega (arith, hy.count))
same-points common (v ∷ values) (x ∷ xs) (y ∷ ys) [] hx hy hz = absurd (omega (arith, hz.count))
same-points common (v ∷ values) (x ∷ xs) (y ∷ ys) (z ∷ zs) hx hy hz = (
  record {
    x = scaled common x (record { num = v.value.x; den = v.den }) (hx.same 0 (omega arith));
    y = scaled common y (record { num = v.value.y; den = v.den }) (hy.same 0 (omega arith));
    z = scaled common z (record { num = v.value.z; den = v.den }) (hz.same 0 (omega arith));
  },
  same-points common values xs ys zs (column-behind numbers v values 0 x xs hx) (column-behind numbers v values 1 y ys hy) (column-behind numbers v values 2 z zs hz),
)

-- their denominators are at least 1
abbrev ArePositive : List Value → Type 0
ArePositive xs = (p : ℕ) → 0 < (point_value xs p).den

positive-by : (common : ℕ) (xs ys zs : List Value) → 0 < common → ArePositive xs → ArePositive ys → ArePositive zs →
    AllByRecursion HasDenominators (points_of_coordinates (map (over_common common) xs) (map (over_common common) ys) (map (over_common common) zs))
positive-by common [] ys zs some hx hy hz = tt
positive-by common (x ∷ xs) [] zs some hx hy hz = tt
positive-by common (x ∷ xs) (y ∷ ys) [] some hx hy hz = tt
positive-by common (x ∷ xs) (y ∷ ys) (z ∷ zs) some hx hy hz = (
  record { x = product-positive x.den common (hx 0) some; y = product-positive y.den common (hy 0) some; z = product-positive z.den common (hz 0) some },
  positive-by common xs ys zs some (λ p. hx (suc p)) (λ p. hy (suc p)) (λ p. hz (suc p)),
)

pub positive-points : (common : ℕ) (xs ys zs : List Value) → 0 < common → ArePositive xs → ArePositive ys → ArePositive zs →
    All HasDenominators (points_of_coordinates (map (over_common common) xs) (map (over_common common) ys) (map (over_common common) zs))
positive-points common xs ys zs some hx hy hz = All-from_recursion HasDenominators _ (positive-by common xs ys zs some hx hy hz)

-- a point with short numbers can be written
pub written-point : (common : ℕ) (v : Valued Point3) → 0 < v.den * common → v.den * common ≤ number_bound → primvar.greatest_amount (numbers v.value) ≤ number_bound → CanBeWritten common v
written-point common v positive short most =
    let rest = max (unsigned_abs v.value.y) (max (unsigned_abs v.value.z) 0) in
    let first : unsigned_abs v.value.x ≤ number_bound = omega (arith, most, le-max_left (unsigned_abs v.value.x) rest) in
    let second : unsigned_abs v.value.y ≤ number_bound =
    omega (arith, most, le-max_right (unsigned_abs v.value.x) rest, le-max_left (unsigned_abs v.value.y) (max (unsigned_abs v.value.z) 0)) in
    let third : unsigned_abs v.value.z ≤ number_bound =
    omega (arith, most, le-max_right (unsigned_abs v.value.x) rest, le-max_right (unsigned_abs v.value.y) (max (unsigned_abs v.value.z) 0), le-max_left (unsigned_abs v.value.z) 0) in
    record {
      positive = positive;
      short = omega (arith, short);
      x = omega (arith, first);
      y = omega (arith, second);
      z = omega (arith, third);
    }

-- the greatest amount of short coordinates
short-by : (points : List (ℤ × ℤ × ℤ)) → AllByRecursion IsShortPoint points → AllByRecursion (λ x. x ≤ 10 ^ 37) (map unsigned_abs (point_numbers points))
short-by [] all = tt
short-by (p ∷ points) all = (omega (arith, all.0.0), (omega (arith, all.0.1), (omega (arith, all.0.2), short-by points all.1)))

pub greatest-short : (points : List (ℤ × ℤ × ℤ)) → All IsShortPoint points → greatest_amount (point_numbers points) ≤ 10 ^ 37
greatest-short points all =
    fold-at-most 0 (10 ^ 37) (map unsigned_abs (point_numbers points)) (omega arith) (short-by points (recursion_from_All IsShortPoint points all))
