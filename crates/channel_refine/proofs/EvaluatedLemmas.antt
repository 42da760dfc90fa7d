-- The rows of the table of a channel over its controls are the values of its points.
use Rattle.std.proofs.Common.{◌≡◌, ℕ, ◌*◌, ◌<◌, ◌≤◌, max, ℤ, pos, ◌+ℤ◌, List, [], ◌∷◌, length, map, get_or, arith, refl, ap, sym, ◌∙◌, subst, zero-add}
use Rattle.std.specs.List.{All, AllByRecursion, sum_by}
use Rattle.std.proofs.Math.IntN.{+ℤ_idl}
use Rattle.std.proofs.Math.ListN.{get_or-map as get_or-map_all}
use Rattle.std.proofs.Math.Nat.{mul-le-mul_left, mul-le-mul_right}
use Rattle.std.proofs.lemmas.List.{get_or-map, length-map}
use Rattle.std.proofs.lemmas.List.Elements.{All-map, All-from_recursion, recursion_from_All}
use Rattle.subdiv_model.specs.Value.{Value, IsSameValue}
use Rattle.subdiv_model.specs.Refined.{point_value, refined_values, control_values}
use Rattle.subdiv_model.specs.Support.{entries_after}
use Rattle.subdiv_model.specs.Channel.{Channel, Tables, number_bound}
use Rattle.ratio128.specs.Numbers.{zeros, greatest_amount}
use Rattle.primvar_refine.specs.Rows.{Row, row_at, dens_of, value_at, StandFor, AreWithin}
use Rattle.ratio128.proofs.AmountLemmas.{IsWithin, IsWithin-zeros, greatest-within, length-zeros}
use Rattle.primvar_refine.proofs.TermSumLemmas.{zeros-at}
use Rattle.stencil_apply.specs.Table.{Share, Row as TableRow, Table, IsRow, IsTable, greatest_of, entries_of, total_of, sum_of_row}
use Rattle.stencil_apply.specs.Table as table
use Rattle.stencil_factory.specs.Rows.{share_sum, row_values, AreSameValues}
use Rattle.stencil_factory.specs.Rows as factory
use Rattle.channel_refine.specs.Refined.{AreControls, IsRefinedTo, column_of}
use Rattle.channel_refine.proofs.DenominatorLemmas.{each-below}
use Rattle.channel_refine.specs.Composed.{ComposedTable, IsComposedTo}
use Rattle.channel_refine.specs.Evaluated.{CanEvaluate, control_rows, evaluated}
use Rattle.channel_refine.proofs.IdentityLemmas.{value-row, entries-by-support}
use Rattle.channel_refine.proofs.SumLemmas.{sum-at, length-sum, sum-within}

-- a control as a row
abbrev control_row : List ℤ → Row
control_row numbers = record { numbers = numbers; den = 1 }

-- a fact about the rows of controls
of-controls : (P : Row → Type 0) (controls : List (List ℤ)) → All P (control_rows controls) → All (λ numbers. P (record { numbers = numbers; den = 1 })) controls
of-controls P controls all k d h =
    subst P (get_or-map_all control_row controls k d)
    (all k (control_row d) (omega (arith, h, length-map controls control_row)))

-- the first control
first-control : (controls : List (List ℤ)) → (row_at (control_rows controls) 0).numbers ≡ get_or controls 0 []
first-control [] = refl
first-control (numbers ∷ controls) = refl

controls-alike : (channel : Channel) (controls : List (List ℤ)) → AreControls channel (control_rows controls) → All (λ numbers. length numbers ≡ length (get_or controls 0 [])) controls
controls-alike channel controls are k d h =
    of-controls (λ row. length row.numbers ≡ length (row_at (control_rows controls) 0).numbers) controls are.alike k d h ∙ ap length (first-control controls)

controls-within : (channel : Channel) (controls : List (List ℤ)) → AreControls channel (control_rows controls) → All (λ numbers. greatest_amount numbers ≤ channel.greatest) controls
controls-within channel controls are k d h =
    let one = of-controls (λ row. greatest_amount row.numbers ≤ row.den * channel.greatest) controls are.within k d h in omega (arith, one)

-- the sums of rows over their denominators
abbrev pub evaluated_row : List (List ℤ) → TableRow → Row
evaluated_row controls row = record { numbers = sum_of_row (zeros (get_or controls 0 [])) controls row; den = row.den }

abbrev pub evaluated_rows : List (List ℤ) → List TableRow → List Row
evaluated_rows controls rows = map (λ row. evaluated_row controls row) rows

abbrev value : ℤ → ℕ → Value
value num den = record { num = num; den = den }

-- the denominators of the rows are those of the table
pub evaluated-dens : (rows : List TableRow) (controls : List (List ℤ)) (zero_numbers : List ℤ)
    → dens_of (map (λ row. record { numbers = sum_of_row zero_numbers controls row; den = row.den }) rows) ≡ map (λ row. row.den) rows
evaluated-dens [] controls zero_numbers = refl
evaluated-dens (row ∷ rows) controls zero_numbers = ap (λ dens. row.den ∷ dens) (evaluated-dens rows controls zero_numbers)

-- there are as many controls as points of level 0
pub each-control : (channel : Channel) (controls : List (List ℤ)) → AreControls channel (control_rows controls) → length controls ≡ channel.base.point_count
each-control channel controls are = sym (length-map controls control_row) ∙ are.each

-- A table over the points of level 0. Its values keep the bounds of a channel.
module _ (channel : Channel) (some : Table) (count : some.controls ≡ channel.base.point_count) where
  -- the table can be evaluated over the controls of the channel
  pub can-evaluate-by : greatest_of some * max channel.greatest channel.common ≤ number_bound → (controls : List (List ℤ)) → AreControls channel (control_rows controls) → CanEvaluate some controls
  can-evaluate-by scaled controls are = record {
    each = each-control channel controls are ∙ sym count;
    alike = controls-alike channel controls are;
    fits = λ k d h. below (greatest_of some) (greatest_amount (get_or controls k d)) channel.greatest (max channel.greatest channel.common) (controls-within channel controls are k d h) (omega arith) scaled;
  }
    where
      below : (great amount greatest most : ℕ) → amount ≤ greatest → greatest ≤ most → great * most ≤ number_bound → great * amount ≤ number_bound
      below great amount greatest most h more fits = let least : amount ≤ most = omega (arith, h, more) in omega (arith, fits, mul-le-mul_left great least)

  module _ (rows : All (IsRow some.controls) some.rows) (controls : List (List ℤ)) (are : AreControls channel (control_rows controls)) where
    -- the controls of a row's shares
    inside-all : (P : List ℤ → Type 0) → All P controls → (shares : List Share) → AllByRecursion (λ share. share.0 < some.controls) shares → AllByRecursion (λ share. P (get_or controls share.0 [])) shares
    inside-all P all [] h = tt
    inside-all P all (share ∷ shares) h = (all share.0 [] (omega (arith, h.0, each-control channel controls are, count)), inside-all P all shares h.1)

    row-inside : (row : TableRow) → IsRow some.controls row → AllByRecursion (λ share. share.0 < some.controls) row.shares
    row-inside row one = recursion_from_All (λ share. share.0 < some.controls) row.shares one.inside

    -- a column of a row
    row-at : (c : ℕ) (row : TableRow) → IsRow some.controls row
        → get_or (sum_of_row (zeros (get_or controls 0 [])) controls row) c (pos 0) ≡ share_sum (column_of c (control_rows controls)) row.shares
    row-at c row one =
        sum-at controls c (zeros (get_or controls 0 [])) row.shares
        (inside-all (λ numbers. length numbers ≡ length (zeros (get_or controls 0 []))) (λ k d h. controls-alike channel controls are k d h ∙ sym (length-zeros (get_or controls 0 []))) row.shares (row-inside row one))
        ∙ ap (λ z. z +ℤ share_sum (column_of c (control_rows controls)) row.shares) (zeros-at (get_or controls 0 []) c)
        ∙ +ℤ_idl (share_sum (column_of c (control_rows controls)) row.shares)

    row-within : (row : TableRow) → IsRow some.controls row → greatest_amount (sum_of_row (zeros (get_or controls 0 [])) controls row) ≤ row.den * channel.greatest
    row-within row one =
        greatest-within (row.den * channel.greatest) (sum_of_row (zeros (get_or controls 0 [])) controls row)
        (subst (λ n. IsWithin n (sum_of_row (zeros (get_or controls 0 [])) controls row)) (zero-add (total_of row.shares * channel.greatest) ∙ ap (λ n. n * channel.greatest) one.whole)
        (sum-within controls channel.greatest 0 (zeros (get_or controls 0 [])) row.shares (IsWithin-zeros 0 (get_or controls 0 []))
        (inside-all (λ numbers. greatest_amount numbers ≤ channel.greatest) (controls-within channel controls are) row.shares (row-inside row one))))

    rows-length : length (evaluated some controls) ≡ length some.rows
    rows-length = length-map some.rows (evaluated_row controls)

    -- the value of a point in a column
    value-is : (c p : ℕ) → p < length some.rows → point_value (row_values some (column_of c (control_rows controls))) p ≡ value_at (evaluated some controls) c p
    value-is c p h =
        let row = table.row_at some p in
        let one : IsRow some.controls row = rows p (record { den = 1; shares = [] }) h in
        let here : row_at (evaluated some controls) p ≡ evaluated_row controls row =
        get_or-map (evaluated_row controls) some.rows p (record { den = 1; shares = [] }) (record { numbers = []; den = 1 }) h in
        value-row some (column_of c (control_rows controls)) p h
        ∙ ap (λ z. value z row.den) (sym (row-at c row one))
        ∙ ap (λ (r : Row). value (get_or r.numbers c (pos 0)) r.den) (sym here)

    pub column-count : (c : ℕ) → length (column_of c (control_rows controls)) ≡ channel.base.point_count
    column-count c = length-map (control_rows controls) (λ row. get_or row.numbers c (pos 0)) ∙ are.each

    -- a column has the values that the rows make of its numbers
    pub stands-for : (c : ℕ) (values : List Value) → AreSameValues values (row_values some (column_of c (control_rows controls))) → StandFor (evaluated some controls) c values
    stands-for c values same =
        let numbers = column_of c (control_rows controls) in
        let each : length (row_values some numbers) ≡ length some.rows = length-map {B = Value} some.rows (λ row. record { num = share_sum numbers row.shares; den = row.den }) in
        record {
          count = same.count ∙ each ∙ sym rows-length;
          same = λ p h.
              let below : p < length some.rows = omega (arith, h, rows-length) in
              subst (IsSameValue (point_value values p)) (value-is c p below) (same.same p (omega (arith, below, each)));
        }

    pub dens-evaluated : dens_of (evaluated some controls) ≡ factory.dens_of some
    dens-evaluated = evaluated-dens some.rows controls (zeros (get_or controls 0 []))

    pub within-evaluated : AreWithin channel.greatest (evaluated some controls)
    within-evaluated = All-map (λ row. greatest_amount row.numbers ≤ row.den * channel.greatest) (evaluated_row controls) some.rows (λ k d h. row-within (get_or some.rows k d) (rows k d h))

    pub short-evaluated : All (λ row. row.den * max channel.greatest channel.common ≤ number_bound) some.rows → All (λ row. row.den * max channel.greatest channel.common ≤ number_bound) (evaluated some controls)
    short-evaluated short = All-map (λ row. row.den * max channel.greatest channel.common ≤ number_bound) (evaluated_row controls) some.rows short

    pub positive-evaluated : All (λ row. 0 < row.den) (evaluated some controls)
    positive-evaluated = All-map (λ row. 0 < row.den) (evaluated_row controls) some.rows (λ k d h. (rows k d h).positive)

    pub alike-evaluated : All (λ row. length row.numbers ≡ length (row_at (control_rows controls) 0).numbers) (evaluated some controls)
    alike-evaluated =
        All-map (λ row. length row.numbers ≡ length (row_at (control_rows controls) 0).numbers) (evaluated_row controls) some.rows
        (λ k d h. length-sum controls (zeros (get_or controls 0 [])) (get_or some.rows k d).shares ∙ length-zeros (get_or controls 0 []) ∙ ap length (sym (first-control controls)))

-- the denominator of each row keeps the bound of the greatest
pub short-rows : (some : Table) (most : ℕ) → greatest_of some * most ≤ number_bound → All (λ row. row.den * most ≤ number_bound) some.rows
short-rows some most scaled k d h = times (get_or some.rows k d).den (greatest_of some) most (each-den k d h) scaled
  where
    below-greatest : (rows : List TableRow) (n : ℕ) → AllByRecursion (λ den. den ≤ n) (map (λ (row : TableRow). row.den) rows) → AllByRecursion (λ (row : TableRow). row.den ≤ n) rows
    below-greatest [] n h = tt
    below-greatest (row ∷ rows) n h = (h.0, below-greatest rows n h.1)

    each-den : All (λ (row : TableRow). row.den ≤ greatest_of some) some.rows
    each-den = All-from_recursion (λ (row : TableRow). row.den ≤ greatest_of some) some.rows (below-greatest some.rows (greatest_of some) (each-below (factory.dens_of some) 1))

    times : (den great most : ℕ) → den ≤ great → great * most ≤ number_bound → den * most ≤ number_bound
    times den great most h fits = omega (arith, fits, mul-le-mul_right most h)

module _ (channel : Channel) (depth : ℕ) (composed : ComposedTable) (is : IsComposedTo channel depth composed) (made : IsTable composed.table) where
  abbrev some : Table
  some = composed.table

  -- the table can be evaluated over the controls of its channel
  pub can-evaluate : (controls : List (List ℤ)) → AreControls channel (control_rows controls) → CanEvaluate some controls
  can-evaluate controls are = can-evaluate-by channel some is.controls is.fits controls are

  -- the table has as many entries as the last level
  pub entries-are : entries_of some.rows ≡ entries_after channel.base channel.scheme depth
  entries-are = sym (entries-by-support some.rows) ∙ ap (sum_by length) is.supports

  -- these are the last level and its values
  pub evaluated-to : (controls : List (List ℤ)) → AreControls channel (control_rows controls) → IsRefinedTo Tables channel (control_rows controls) depth (record { level = composed.level; rows = evaluated some controls })
  evaluated-to controls are = record {
    fine = is.fine;
    few = is.few;
    level_is = is.level_is;
    complete = is.complete;
    dens = dens-evaluated channel some is.controls made.rows controls are ∙ is.dens;
    values = λ c.
        let numbers = column_of c (control_rows controls) in
        stands-for channel some is.controls made.rows controls are c (refined_values channel.base channel.scheme (control_values numbers) depth)
        (is.values numbers (column-count channel some is.controls made.rows controls are c));
    within = within-evaluated channel some is.controls made.rows controls are;
    short = short-evaluated channel some is.controls made.rows controls are (short-rows some (max channel.greatest channel.common) is.fits);
    positive = positive-evaluated channel some is.controls made.rows controls are;
    alike = alike-evaluated channel some is.controls made.rows controls are;
  }
