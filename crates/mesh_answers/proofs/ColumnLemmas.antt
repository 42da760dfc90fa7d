-- The controls of a channel as rows, and its refined values in columns.
use Rattle.std.proofs.Common.{◌≡◌, ℕ, zero, suc, ◌*◌, ◌<◌, ◌≤◌, max, ℤ, pos, ◌*ℤ◌, unsigned_abs, List, [], ◌∷◌, length, map, get_or, arith, refl, ap, sym, subst, ◌∙◌}
use Rattle.std.specs.List.{All, AllByRecursion, flat_map, fold}
use Rattle.std.proofs.Math.IntN.{*ℤ_comm}
use Rattle.std.proofs.Math.Nat.{mul_comm, mul-le-mul_left, le-max_left, le-max_right, max-le}
use Rattle.std.proofs.lemmas.List.{length-map, map-append}
use Rattle.std.proofs.lemmas.List.Elements.{All-from_recursion, recursion_from_All}
use Rattle.std.proofs.lemmas.List.Sums.{fold-append}
use Rattle.subdiv_model.specs.Value.{Value, IsSameValue}
use Rattle.subdiv_model.specs.Channel.{Channel, Asked, number_bound, greatest_amount}
use Rattle.subdiv_model.specs.Refined.{point_value, over_common, refined_values, control_values}
use Rattle.number_laws.proofs.WholeNumberLemmas.{pos-assoc}
use Rattle.number_laws.proofs.MultipleLemmas.{product-positive}
use Rattle.stencil_laws.proofs.ShareLemmas.{value-positive}
use Rattle.level_topology.specs.Topology.{Topology}
use Rattle.ratio128.specs.Numbers as primvar
use Rattle.ratio128.specs.declared.valued.Valued.{Valued}
use Rattle.primvar_refine.specs.Rows.{Row, row_at, dens_of, value_at, StandFor, AreWithin}
use Rattle.primvar_refine.specs.View.{row_of, rows_of}
use Rattle.channel_refine.specs.Refined.{AreControls, IsRefinedTo, column_of}
use Rattle.channel_refine.specs.Evaluated.{control_rows}
use Rattle.channel_refine.specs.View.{control_of}
use Rattle.channel_refine.proofs.PathLemmas.{control-rows}

-- two values that are the same are the same over a common denominator
pub scaled : (common : ℕ) (x y : Value) → IsSameValue x y → IsSameValue (over_common common x) (over_common common y)
scaled common x y same = turned x.num y.den ∙ ap (λ z. pos common *ℤ z) same ∙ sym (turned y.num x.den)
  where
    turned : (n : ℤ) (den : ℕ) → n *ℤ pos (den * common) ≡ pos common *ℤ (n *ℤ pos den)
    turned n den =
        *ℤ_comm n (pos (den * common))
        ∙ ap (λ m. pos m *ℤ n) (mul_comm den common)
        ∙ sym (pos-assoc common den n)
        ∙ ap (λ z. pos common *ℤ z) (*ℤ_comm (pos den) n)

-- a column of denominators
dens-by : (rows : List Row) → AllByRecursion (λ row. 0 < row.den) rows → (p : ℕ) → 0 < get_or (dens_of rows) p 1
dens-by [] all p = omega arith
dens-by (row ∷ rows) all zero = all.0
dens-by (row ∷ rows) all (suc p) = dens-by rows all.1 p

pub dens-positive : (rows : List Row) → All (λ row. 0 < row.den) rows → (p : ℕ) → 0 < get_or (dens_of rows) p 1
dens-positive rows all p = dens-by rows (recursion_from_All (λ row. 0 < row.den) rows all) p

-- a greatest number is at least its first number, and at most any bound of all
fold-at-least : (n : ℕ) (xs : List ℕ) → n ≤ fold max n xs
fold-at-least n [] = omega arith
fold-at-least n (x ∷ xs) = omega (arith, le-max_left n x, fold-at-least (max n x) xs)

pub fold-at-most : (n m : ℕ) (xs : List ℕ) → n ≤ m → AllByRecursion (λ x. x ≤ m) xs → fold max n xs ≤ m
fold-at-most n m [] low all = low
fold-at-most n m (x ∷ xs) low all = fold-at-most (max n x) m xs (max-le low all.0) all.1

-- the greatest amount of a row is within any bound of all amounts
greatest-within : (least m : ℕ) (xs : List ℤ) → fold max least (map unsigned_abs xs) ≤ m → primvar.greatest_amount xs ≤ m
greatest-within least m [] most = omega arith
greatest-within least m (x ∷ xs) most =
    let more = max least (unsigned_abs x) in
    max-le (omega (arith, most, fold-at-least more (map unsigned_abs xs), le-max_right least (unsigned_abs x))) (greatest-within more m xs most)

-- a column of a row for each value, in terms of the definitions
pub record IsColumn {P : Type 0} (numbers : P → List ℤ) (values : List (Valued P)) (column : ℕ) (xs : List Value) : Type 0 where
  pub count : length xs ≡ length values
  pub same : (p : ℕ) → p < length values → IsSameValue (point_value xs p) (value_at (rows_of numbers values) column p)
  pub positive : (p : ℕ) → 0 < (point_value xs p).den

module _ {P : Type 0} (numbers : P → List ℤ) where
  -- the column of the values after the first
  pub column-behind : (v : Valued P) (values : List (Valued P)) (column : ℕ) (x : Value) (xs : List Value) → IsColumn numbers (v ∷ values) column (x ∷ xs) → IsColumn numbers values column xs
  column-behind v values column x xs is = record {
    count = omega (arith, is.count);
    same = λ p h. is.same (suc p) (omega (arith, h));
    positive = λ p. is.positive (suc p);
  }

  -- a column of controls
  pub control-column : (column : ℕ) (points : List P) → column_of column (rows_of numbers (map control_of points)) ≡ map (λ p. get_or (numbers p) column (pos 0)) points
  control-column column [] = refl
  control-column column (p ∷ points) = ap (λ xs. get_or (numbers p) column (pos 0) ∷ xs) (control-column column points)

  -- the column of the controls' views
  pub column-seen : {V : Type 0} (seen : P → V) (column : ℕ) (coordinate : V → ℤ) → ((p : P) → get_or (numbers p) column (pos 0) ≡ coordinate (seen p)) →
      (points : List P) → map (λ p. get_or (numbers p) column (pos 0)) points ≡ map coordinate (map seen points)
  column-seen seen column coordinate each [] = refl
  column-seen seen column coordinate each (p ∷ points) =
      ap (λ n. n ∷ map (λ p. get_or (numbers p) column (pos 0)) points) (each p) ∙ ap (λ ns. coordinate (seen p) ∷ ns) (column-seen seen column coordinate each points)

  -- control values are whole
  whole-by : (points : List P) → AllByRecursion (λ row. row.den ≡ 1) (rows_of numbers (map control_of points))
  whole-by [] = tt
  whole-by (p ∷ points) = (refl, whole-by points)

  -- no control is above the greatest amount
  within-by : (least m : ℕ) (points : List P) → fold max least (map unsigned_abs (flat_map numbers points)) ≤ m →
      AllByRecursion (λ row. primvar.greatest_amount row.numbers ≤ row.den * m) (rows_of numbers (map control_of points))
  within-by least m [] most = tt
  within-by least m (p ∷ points) most =
      let here = fold max least (map unsigned_abs (numbers p)) in
      let parts : fold max here (map unsigned_abs (flat_map numbers points)) ≤ m =
      subst (λ n. n ≤ m)
      (ap (fold max least) (map-append unsigned_abs (numbers p) (flat_map numbers points)) ∙ fold-append max least (map unsigned_abs (numbers p)) (map unsigned_abs (flat_map numbers points))) most in
      let first = greatest-within least m (numbers p) (omega (arith, parts, fold-at-least here (map unsigned_abs (flat_map numbers points)))) in
      (omega (arith, first), within-by here m points parts)

  -- values with this number of components each
  alike-by : (size : ℕ) → ((p : P) → length (numbers p) ≡ size) → (values : List (Valued P)) → AllByRecursion (λ row. length row.numbers ≡ size) (rows_of numbers values)
  alike-by size each [] = tt
  alike-by size each (v ∷ values) = (each v.value, alike-by size each values)

  first-alike : (size : ℕ) → ((p : P) → length (numbers p) ≡ size) → (values : List (Valued P)) →
      AllByRecursion (λ row. length row.numbers ≡ length (row_at (rows_of numbers values) 0).numbers) (rows_of numbers values)
  first-alike size each [] = tt
  first-alike size each (v ∷ values) = alike-by (length (numbers v.value)) (λ p. each p ∙ sym (each v.value)) (v ∷ values)

  -- the values are the controls of a channel
  pub controls-of : (size : ℕ) → ((p : P) → length (numbers p) ≡ size) → (points : List P) (channel : Channel) → length points ≡ channel.base.point_count →
      channel.greatest ≡ greatest_amount (flat_map numbers points) → AreControls channel (control_rows (map numbers points))
  controls-of size each points channel many is =
      let rows = rows_of numbers (map control_of points) in
      subst (AreControls channel) (sym (control-rows numbers points))
      (record {
        each = length-map (map control_of points) (row_of numbers) ∙ length-map points control_of ∙ many;
        whole = All-from_recursion (λ row. row.den ≡ 1) rows (whole-by points);
        within = All-from_recursion (λ row. primvar.greatest_amount row.numbers ≤ row.den * channel.greatest) rows (within-by 0 channel.greatest points (omega (arith, is)));
        alike = All-from_recursion (λ row. length row.numbers ≡ length (row_at rows 0).numbers) rows (first-alike size each (map control_of points));
      })

  -- If each value can be written, all can.
  module _ (common greatest : ℕ) (CanWrite : Valued P → Type 0)
      (each : (v : Valued P) → 0 < v.den * common → v.den * common ≤ number_bound → primvar.greatest_amount (numbers v.value) ≤ number_bound → CanWrite v) (some : 0 < common) where
    can-by : (values : List (Valued P)) → AllByRecursion (λ row. 0 < row.den) (rows_of numbers values) →
        AllByRecursion (λ row. row.den * max greatest common ≤ number_bound) (rows_of numbers values) →
        AllByRecursion (λ row. primvar.greatest_amount row.numbers ≤ row.den * greatest) (rows_of numbers values) → AllByRecursion CanWrite values
    can-by [] positive short within = tt
    can-by (v ∷ values) positive short within = (
      each v (product-positive v.den common positive.0 some)
          (omega (arith, short.0, mul-le-mul_left v.den (le-max_right greatest common)))
          (omega (arith, within.0, short.0, mul-le-mul_left v.den (le-max_left greatest common))),
      can-by values positive.1 short.1 within.1,
    )

    pub can-be-written : (values : List (Valued P)) → All (λ row. 0 < row.den) (rows_of numbers values) →
        All (λ row. row.den * max greatest common ≤ number_bound) (rows_of numbers values) → AreWithin greatest (rows_of numbers values) → All CanWrite values
    can-be-written values positive short within =
        let rows = rows_of numbers values in
        All-from_recursion CanWrite values
        (can-by values (recursion_from_All (λ row. 0 < row.den) rows positive)
        (recursion_from_All (λ row. row.den * max greatest common ≤ number_bound) rows short)
        (recursion_from_All (λ row. primvar.greatest_amount row.numbers ≤ row.den * greatest) rows within))

  -- a column of a refined channel is the refined column of its controls
  pub refined-column : (asked : Asked) (channel : Channel) (points : List P) (depth : ℕ) (last : Topology) (values : List (Valued P)) (column : ℕ) (controls : List ℤ) →
      map (λ p. get_or (numbers p) column (pos 0)) points ≡ controls →
      IsRefinedTo asked channel (control_rows (map numbers points)) depth (record { level = last; rows = rows_of numbers values }) →
      IsColumn numbers values column (refined_values channel.base channel.scheme (control_values controls) depth)
  refined-column asked channel points depth last values column controls same is =
      let rows = rows_of numbers values in
      let stands : StandFor rows column (refined_values channel.base channel.scheme (control_values controls) depth) =
      subst (λ cs. StandFor rows column (refined_values channel.base channel.scheme (control_values cs) depth))
      (ap (column_of column) (control-rows numbers points) ∙ control-column column points ∙ same) (is.values column) in
      record {
        count = stands.count ∙ length-map values (row_of numbers);
        same = λ p h. stands.same p (omega (arith, h, length-map values (row_of numbers)));
        positive = λ p.
            value-positive channel.base channel.scheme controls depth p
            (subst (λ ds. 0 < get_or ds p 1) is.dens (dens-positive rows is.positive p));
      }
