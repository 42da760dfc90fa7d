-- The data of a session, while a control moves.
use Rattle.std.proofs.Common.{◌≡◌, ℕ, ◌*◌, ◌<◌, ◌≤◌, Bool, false, None, ℤ, pos, List, [], length, map, get_or, set, replicate, arith, refl, ap, sym, ◌∙◌, subst}
use Rattle.std.specs.List.{All}
use Rattle.std.proofs.Math.Nat.{mul-le-mul_right}
use Rattle.std.proofs.lemmas.List.{length-map, get_or-map, map-set, length-replicate}
use Rattle.std.proofs.lemmas.List.FromFn.{length-map-range_with_len, get_or-map-range_with_len}
use Rattle.std.proofs.lemmas.List.Elements.{All-map}
use Rattle.subdiv_model.specs.Channel.{number_bound}
use Rattle.ratio128.specs.Numbers.{plus_times, greatest_amount}
use Rattle.ratio128.specs.declared.point.Point3.{Point3}
use Rattle.ratio128.proofs.AmountLemmas.{IsWithin, greatest-within}
use Rattle.stencil_apply.specs.Table.{Row, Table, IsRow, IsTable, row_at, greatest_of, sum_of_row}
use Rattle.stencil_apply.specs.Means.{numerator_of}
use Rattle.stencil_apply.proofs.RowLemmas.{start-le}
use Rattle.stencil_session.specs.Session.{IsState, Move, State, numbers_of, move_fault, after_move, mark_rows, row_value, rows_with}
use Rattle.stencil_session.specs.Columns.{Entry, column_of, columns_of, amount_in, marked, CanAddColumn}
use Rattle.stencil_session.specs.Kept.{state_of, AreKept, difference_of}
use Rattle.stencil_session.proofs.ValueLemmas.{none3, row-set, row-within, numerator-most, CanAdd-from-sums}
use Rattle.stencil_session.proofs.EntryLemmas.{length-column, amount-column, column-rows-inside, column-once, marks-column}
use Rattle.stencil_session.proofs.MoveLemmas.{move-inside, move-fits, IsState-after}

-- an amount that the greatest denominator suits is within the bound itself
amount-short : (table : Table) (amount : ℕ) → greatest_of table * amount ≤ number_bound → amount ≤ number_bound
amount-short table amount fits =
    let some : 1 ≤ greatest_of table = start-le 1 (map (λ (r : Row). r.den) table.rows) in
    omega (arith, mul-le-mul_right amount some, fits)

module _ (table : Table) (columns : List (List Entry)) (controls values : List Point3) (marks : List Bool) (are : AreKept table columns controls values marks) where
  abbrev numbers : List (List ℤ)
  numbers = map numbers_of controls

  count : length controls ≡ table.controls
  count = sym (length-map controls numbers_of) ∙ are.state.each

  -- each control and each value is short
  pub control-short : (i : ℕ) (d : Point3) → i < length controls → greatest_amount (numbers_of (get_or controls i d)) ≤ number_bound
  control-short i d h =
      let fits : greatest_of table * greatest_amount (get_or numbers i []) ≤ number_bound = are.state.fits i [] (omega (arith, h, length-map controls numbers_of)) in
      let listed : get_or numbers i [] ≡ numbers_of (get_or controls i d) = get_or-map numbers_of controls i d [] h in
      amount-short table (greatest_amount (numbers_of (get_or controls i d))) (subst (λ xs. greatest_of table * greatest_amount xs ≤ number_bound) listed fits)

  value-within : (row : ℕ) (d : Point3) → row < length table.rows → IsWithin number_bound (numbers_of (get_or values row d))
  value-within row d h =
      subst (IsWithin number_bound) (sym (are.sums row d h)) (row-within table numbers row are.state.table h are.state.each are.state.fits)

  pub value-short : (row : ℕ) (d : Point3) → row < length table.rows → greatest_amount (numbers_of (get_or values row d)) ≤ number_bound
  value-short row d h = greatest-within number_bound (numbers_of (get_or values row d)) (value-within row d h)

  module _ (i : ℕ) (target : Point3) (allowed : move_fault table (i, numbers_of target) ≡ None) where
    inside : i < table.controls
    inside = move-inside table (i, numbers_of target) allowed

    pub control-inside : i < length controls
    control-inside = omega (arith, inside, count)

    pub target-short : greatest_amount (numbers_of target) ≤ number_bound
    target-short = amount-short table (greatest_amount (numbers_of target)) (move-fits table (i, numbers_of target) allowed)

    pub column-inside : i < length columns
    column-inside = omega (arith, inside, ap length are.by_control, length-map-range_with_len (column_of table) 0 table.controls)

    column-is : get_or columns i [] ≡ column_of table i
    column-is = ap (λ cs. get_or cs i []) are.by_control ∙ get_or-map-range_with_len (column_of table) 0 table.controls i i [] inside (omega arith)

    pub steps-taken : length (get_or columns i []) ≡ rows_with i table
    steps-taken = ap length column-is ∙ length-column i table

    after-state : IsState (after_move (state_of table controls marks) (i, numbers_of target))
    after-state = IsState-after (state_of table controls marks) (i, numbers_of target) are.state refl allowed

    -- a row's sum over the controls after the move
    row-after : (row : ℕ) (d e : Point3) → row < length table.rows
        → plus_times (pos (numerator_of (row_at table row).shares i)) (numbers_of (get_or values row d)) (difference_of (numbers_of target) (numbers_of (get_or controls i e)))
        ≡ sum_of_row none3 (set numbers i (numbers_of target)) (row_at table row)
    row-after row d e h =
        let listed : get_or numbers i [] ≡ numbers_of (get_or controls i e) = get_or-map numbers_of controls i e [] control-inside in
        let good : IsRow (length numbers) (row_at table row) = subst (λ n. IsRow n (row_at table row)) (sym are.state.each) (are.state.table.rows row _ h) in
        ap (λ xs. plus_times (pos (numerator_of (row_at table row).shares i)) xs (difference_of (numbers_of target) (numbers_of (get_or controls i e)))) (are.sums row d h)
        ∙ ap (λ xs. plus_times (pos (numerator_of (row_at table row).shares i)) (sum_of_row none3 numbers (row_at table row)) (difference_of (numbers_of target) xs)) (sym listed)
        ∙ sym (row-set i (numbers_of target) none3 numbers (row_at table row) (omega (arith, control-inside, length-map controls numbers_of)) (sym (ap length listed)) good)

    module _ (control : Point3) (read : control ≡ get_or controls i control) (moved : List ℤ) (differs : moved ≡ difference_of (numbers_of target) (numbers_of control)) where
      moved-is : moved ≡ difference_of (numbers_of target) (numbers_of (get_or controls i control))
      moved-is = differs ∙ ap (λ p. difference_of (numbers_of target) (numbers_of p)) read

      entry-numerator : (k : ℕ) (d : Entry) → k < length (column_of table i) → (get_or (column_of table i) k d).1 ≡ numerator_of (row_at table (get_or (column_of table i) k d).0).shares i
      entry-numerator k d h = sym (column-once i table k d h) ∙ amount-column i table (get_or (column_of table i) k d).0 (column-rows-inside i table k d h)

      can-add : CanAddColumn (column_of table i) (map numbers_of values) moved
      can-add = record {
        inside = λ k d h. let there = column-rows-inside i table k d h in omega (arith, there, are.count, length-map values numbers_of);
        once = column-once i table;
        short = λ k d h.
            let e = get_or (column_of table i) k d in
            let there = column-rows-inside i table k d h in
            let good : IsRow table.controls (row_at table e.0) = are.state.table.rows e.0 _ there in
            let few = numerator-most i (row_at table e.0).shares in
            let is = entry-numerator k d h in
            omega (arith, is, few, good.whole, good.short);
        fits = λ k d h.
            let e = get_or (column_of table i) k d in
            let there : e.0 < length table.rows = column-rows-inside i table k d h in
            let is = entry-numerator k d h in
            let listed : get_or (map numbers_of values) e.0 [] ≡ numbers_of (get_or values e.0 control) = get_or-map numbers_of values e.0 control [] (omega (arith, there, are.count)) in
            let sum : plus_times (pos e.1) (get_or (map numbers_of values) e.0 []) moved ≡ sum_of_row none3 (set numbers i (numbers_of target)) (row_at table e.0) =
            ap (λ w. plus_times (pos w) (get_or (map numbers_of values) e.0 []) moved) is
            ∙ ap (λ xs. plus_times (pos (numerator_of (row_at table e.0).shares i)) xs moved) listed
            ∙ ap (plus_times (pos (numerator_of (row_at table e.0).shares i)) (numbers_of (get_or values e.0 control))) moved-is
            ∙ row-after e.0 control control there in
            CanAdd-from-sums e.1 (get_or (map numbers_of values) e.0 []) moved
            (subst (IsWithin number_bound) (sym listed) (value-within e.0 control there))
            (subst (IsWithin number_bound) (sym sum) (row-within table (set numbers i (numbers_of target)) e.0 are.state.table there after-state.each after-state.fits));
      }

      pub can-add-column : CanAddColumn (get_or columns i []) (map numbers_of values) moved
      can-add-column = subst (λ column. CanAddColumn column (map numbers_of values) moved) (sym column-is) can-add

      module _ (values_after : List Point3) (marks_after : List Bool) (long : length values_after ≡ length values)
          (sums : (row : ℕ) (d : Point3) → row < length values → numbers_of (get_or values_after row d) ≡ plus_times (pos (amount_in (get_or columns i []) row)) (numbers_of (get_or values row d)) moved)
          (marks_are : marks_after ≡ marked marks (get_or columns i [])) where
        marks-after : marks_after ≡ mark_rows i table.rows marks
        marks-after = marks_are ∙ ap (marked marks) column-is ∙ marks-column i table marks are.state.marks

        pub view-after : state_of table (set controls i target) marks_after ≡ after_move (state_of table controls marks) (i, numbers_of target)
        view-after = rw (map-set numbers_of controls i target, marks-after) refl

        pub kept-after : AreKept table columns (set controls i target) values_after marks_after
        kept-after = record {
          state = subst IsState (sym view-after) after-state;
          by_control = are.by_control;
          count = long ∙ are.count;
          sums = λ row d h.
              sums row d (omega (arith, h, are.count))
              ∙ ap (λ column. plus_times (pos (amount_in column row)) (numbers_of (get_or values row d)) moved) column-is
              ∙ ap (λ n. plus_times (pos n) (numbers_of (get_or values row d)) moved) (amount-column i table row h)
              ∙ ap (plus_times (pos (numerator_of (row_at table row).shares i)) (numbers_of (get_or values row d))) moved-is
              ∙ row-after row d control h
              ∙ ap (λ state. row_value state row) (sym view-after);
        }

-- the data of a session at its start
pub kept-first : (table : Table) (columns : List (List Entry)) (controls values : List Point3) (marks : List Bool) → IsTable table → columns ≡ columns_of table → length controls ≡ table.controls
    → All (λ p. greatest_of table * greatest_amount (numbers_of p) ≤ number_bound) controls → marks ≡ replicate (length table.rows) false → length values ≡ length table.rows
    → ((row : ℕ) (d : Point3) → row < length table.rows → numbers_of (get_or values row d) ≡ sum_of_row none3 (map numbers_of controls) (row_at table row)) → AreKept table columns controls values marks
kept-first table columns controls values marks is by_control each fits unmarked count sums = record {
  state = record {
    table = is;
    each = length-map controls numbers_of ∙ each;
    alike = All-map (λ (numbers : List ℤ). length numbers ≡ 3) numbers_of controls (λ k d h. refl);
    fits = All-map (λ (numbers : List ℤ). greatest_of table * greatest_amount numbers ≤ number_bound) numbers_of controls fits;
    marks = ap length unmarked ∙ length-replicate (length table.rows) false;
  };
  by_control = by_control;
  count = count;
  sums = sums;
}

-- a move that the session's state does not refuse is one that its parts do not refuse
pub fits-inside : {a b : State} (move : Move) → a ≡ b → move_fault b.table move ≡ None → move_fault a.table move ≡ None
fits-inside move e h = subst (λ (state : State). move_fault state.table move ≡ None) (sym e) h
