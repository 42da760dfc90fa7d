-- The values of the written points of a sparse level are those of the definitions, in other terms.
use Rattle.std.proofs.Common.{◌≡◌, ℕ, zero, suc, ◌*◌, ◌<◌, ℤ, pos, ◌*ℤ◌, List, [], ◌∷◌, length, map, get_or, arith, ap, sym, subst, ◌∙◌}
use Rattle.std.specs.List.{All, AllZip, AllByRecursion}
use Rattle.std.proofs.lemmas.List.{length-map}
use Rattle.std.proofs.lemmas.List.Elements.{All-from_recursion}
use Rattle.subdiv_model.specs.Value.{Value, IsSameValue, whole_value}
use Rattle.subdiv_model.specs.Level.{Level}
use Rattle.subdiv_model.specs.Mask.{Scheme, child_masks}
use Rattle.subdiv_model.specs.Child.{refined_level}
use Rattle.subdiv_model.specs.Channel.{Channel, denominators_after}
use Rattle.subdiv_model.specs.Refined.{Point, point_value, over_common, points_of_coordinates, refined_values, control_values}
use Rattle.subdiv_model.specs.Sparse.{FacePredicate}
use Rattle.subdiv_model.specs.SparseText.{WrittenLevel, points_with, written_points}
use Rattle.sparse_values.specs.Uniform.{items_at}
use Rattle.number_laws.proofs.MultipleLemmas.{product-positive}
use Rattle.stencil_laws.proofs.ShareLemmas.{value-positive}
use Rattle.ratio128.specs.declared.valued.Valued.{Valued}
use Rattle.ratio128.specs.declared.point.Point3.{Point3}
use Rattle.primvar_refine.specs.Rows.{StandFor}
use Rattle.primvar_refine.specs.View.{row_of, rows_of}
use Rattle.channel_refine.specs.Refined.{column_of}
use Rattle.channel_refine.specs.Evaluated.{control_rows}
use Rattle.channel_refine.proofs.PathLemmas.{control-rows}
use Rattle.channel_refine.specs.SparseRefined.{IsSparseLevel}
use Rattle.far_text.specs.Points.{points_of, IsSamePoint, HasDenominators}
use Rattle.mesh_answers.proofs.ColumnLemmas.{IsColumn, scaled, column-behind, control-column, dens-positive}
use Rattle.mesh_answers.proofs.PointLemmas.{numbers}

-- the values with these numbers, and 0 after the last one
abbrev pub values_at : List ℕ → List Value → List Value
values_at written xs = items_at written (whole_value (pos 0)) xs

-- the points of three columns over a common denominator
abbrev pub points_over : ℕ → List Value → List Value → List Value → List Point
points_over common xs ys zs = points_of_coordinates (map (over_common common) xs) (map (over_common common) ys) (map (over_common common) zs)

abbrev origin : Point
origin = (whole_value (pos 0), whole_value (pos 0), whole_value (pos 0))

-- 0 is 0 over any denominator
pub nothing-scaled : (common : ℕ) (x : Value) → IsSameValue (whole_value (pos 0)) x → IsSameValue (whole_value (pos 0)) (over_common common x)
nothing-scaled common x same = none (x.den * common) ∙ sym (none x.den) ∙ same
  where
    gone : (n : ℕ) → 0 * n ≡ 0
    gone n = omega arith

    none : (n : ℕ) → pos 0 *ℤ pos n ≡ pos 0
    none n = ap pos (gone n)

-- values are the point with a number if they are the values with that number
same-at : (common : ℕ) (xs ys zs : List Value) → length xs ≡ length ys → length ys ≡ length zs → (v : ℕ) (x y z : Value) →
    IsSameValue (point_value xs v) x → IsSameValue (point_value ys v) y → IsSameValue (point_value zs v) z →
    IsSamePoint (over_common common x, over_common common y, over_common common z) (get_or (points_over common xs ys zs) v origin)
same-at common [] [] [] first second v x y z hx hy hz =
    record { x = sym (nothing-scaled common x hx); y = sym (nothing-scaled common y hy); z = sym (nothing-scaled common z hz) }
same-at common [] [] (c ∷ zs) first second v x y z hx hy hz = absurd (omega (arith, second))
same-at common [] (b ∷ ys) zs first second v x y z hx hy hz = absurd (omega (arith, first))
same-at common (a ∷ xs) [] zs first second v x y z hx hy hz = absurd (omega (arith, first))
same-at common (a ∷ xs) (b ∷ ys) [] first second v x y z hx hy hz = absurd (omega (arith, second))
same-at common (a ∷ xs) (b ∷ ys) (c ∷ zs) first second zero x y z hx hy hz =
    record { x = sym (scaled common a x hx); y = sym (scaled common b y hy); z = sym (scaled common c z hz) }
same-at common (a ∷ xs) (b ∷ ys) (c ∷ zs) first second (suc v) x y z hx hy hz =
    same-at common xs ys zs (omega (arith, first)) (omega (arith, second)) v x y z hx hy hz

-- a point has denominators of at least 1 if its values have
positive-at : (common : ℕ) → 0 < common → (xs ys zs : List Value) (v : ℕ) → 0 < (point_value xs v).den → 0 < (point_value ys v).den → 0 < (point_value zs v).den →
    HasDenominators (get_or (points_over common xs ys zs) v origin)
positive-at common some [] ys zs v hx hy hz = record { x = omega arith; y = omega arith; z = omega arith }
positive-at common some (a ∷ xs) [] zs v hx hy hz = record { x = omega arith; y = omega arith; z = omega arith }
positive-at common some (a ∷ xs) (b ∷ ys) [] v hx hy hz = record { x = omega arith; y = omega arith; z = omega arith }
positive-at common some (a ∷ xs) (b ∷ ys) (c ∷ zs) zero hx hy hz =
    record { x = product-positive a.den common hx some; y = product-positive b.den common hy some; z = product-positive c.den common hz some }
positive-at common some (a ∷ xs) (b ∷ ys) (c ∷ zs) (suc v) hx hy hz = positive-at common some xs ys zs v hx hy hz

-- values with denominators of at least 1
abbrev pub ArePositive : List Value → Type 0
ArePositive values = (p : ℕ) → 0 < (point_value values p).den

module _ (common : ℕ) (xs ys zs : List Value) where
  -- three columns of values at the written points, and these points
  pub same-written : length xs ≡ length ys → length ys ≡ length zs → (written : List ℕ) (values : List (Valued Point3)) →
      IsColumn numbers values 0 (values_at written xs) → IsColumn numbers values 1 (values_at written ys) → IsColumn numbers values 2 (values_at written zs) →
      AllZip IsSamePoint (points_of common values) (points_with (points_over common xs ys zs) written)
  same-written first second [] [] hx hy hz = tt
  same-written first second [] (p ∷ values) hx hy hz = absurd (omega (arith, hx.count))
  same-written first second (v ∷ written) [] hx hy hz = absurd (omega (arith, hx.count))
  same-written first second (v ∷ written) (p ∷ values) hx hy hz = (
    same-at common xs ys zs first second v (record { num = p.value.x; den = p.den }) (record { num = p.value.y; den = p.den }) (record { num = p.value.z; den = p.den })
        (hx.same 0 (omega arith)) (hy.same 0 (omega arith)) (hz.same 0 (omega arith)),
    same-written first second written values
        (column-behind numbers p values 0 (point_value xs v) (values_at written xs) hx)
        (column-behind numbers p values 1 (point_value ys v) (values_at written ys) hy)
        (column-behind numbers p values 2 (point_value zs v) (values_at written zs) hz),
  )

  -- their denominators are at least 1
  positive-by : 0 < common → (written : List ℕ) → ArePositive (values_at written xs) → ArePositive (values_at written ys) → ArePositive (values_at written zs) →
      AllByRecursion HasDenominators (points_with (points_over common xs ys zs) written)
  positive-by some [] hx hy hz = tt
  positive-by some (v ∷ written) hx hy hz =
      (positive-at common some xs ys zs v (hx 0) (hy 0) (hz 0), positive-by some written (λ p. hx (suc p)) (λ p. hy (suc p)) (λ p. hz (suc p)))

  pub positive-written : 0 < common → (written : List ℕ) → ArePositive (values_at written xs) → ArePositive (values_at written ys) → ArePositive (values_at written zs) →
      All HasDenominators (points_with (points_over common xs ys zs) written)
  positive-written some written hx hy hz = All-from_recursion HasDenominators _ (positive-by some written hx hy hz)

-- columns of as many controls are refined to as many values
pub same-count : (level : Level) (scheme : Scheme) (first second : List ℤ) (k : ℕ) → length first ≡ length second →
    length (refined_values level scheme (control_values first) k) ≡ length (refined_values level scheme (control_values second) k)
same-count level scheme first second zero same = length-map first whole_value ∙ same ∙ sym (length-map second whole_value)
same-count level scheme first second (suc k) same =
    length-map (child_masks (refined_level level k) scheme) _ ∙ sym (length-map (child_masks (refined_level level k) scheme) _)

-- a picked value has a denominator of at least 1 if its own common denominator is
picked-positive : (xs : List Value) (dens : List ℕ) → ((v : ℕ) → 0 < get_or dens v 1 → 0 < (point_value xs v).den) → (written : List ℕ) (p : ℕ) →
    0 < get_or (items_at written 1 dens) p 1 → 0 < (point_value (values_at written xs) p).den
picked-positive xs dens each [] p h = omega arith
picked-positive xs dens each (v ∷ written) zero h = each v h
picked-positive xs dens each (v ∷ written) (suc p) h = picked-positive xs dens each written p h

-- a column of a sparse level is the refined column of its controls, at the written points
pub sparse-column : {P : Type 0} (shown : P → List ℤ) (channel : Channel) (predicate : FacePredicate) (points : List P) (k : ℕ) (faces : WrittenLevel) (values : List (Valued P)) (column : ℕ) (controls : List ℤ) →
    map (λ p. get_or (shown p) column (pos 0)) points ≡ controls →
    IsSparseLevel channel predicate (control_rows (map shown points)) k (record { written = faces; rows = rows_of shown values }) →
    IsColumn shown values column (values_at (written_points channel.base predicate k) (refined_values channel.base channel.scheme (control_values controls) k))
sparse-column shown channel predicate points k faces values column controls same is =
    let rows = rows_of shown values in
    let written = written_points channel.base predicate k in
    let xs = refined_values channel.base channel.scheme (control_values controls) k in
    let stands : StandFor rows column (values_at written xs) =
    subst (λ cs. StandFor rows column (values_at written (refined_values channel.base channel.scheme (control_values cs) k)))
    (ap (column_of column) (control-rows shown points) ∙ control-column shown column points ∙ same) (is.values column) in
    record {
      count = stands.count ∙ length-map values (row_of shown);
      same = λ p h. stands.same p (omega (arith, h, length-map values (row_of shown)));
      positive = λ p.
          picked-positive xs (denominators_after channel k) (value-positive channel.base channel.scheme controls k) written p
          (subst (λ ds. 0 < get_or ds p 1) is.dens (dens-positive rows is.positive p));
    }
