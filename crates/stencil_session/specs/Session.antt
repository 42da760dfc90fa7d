-- A table over control points that move: their values, and the points that moves changed. Source: this library.
use Rattle.std.specs.Prelude.{ℕ, ◌≡◌, ◌*◌, ◌≤◌, ℤ, pos, Bool, false, ◌||◌, nat_eq, nat_le, nat_lt, List, [], ◌∷◌, length, set, Option, Some, None, is_none, if◌then◌else◌}
use Rattle.std.specs.List.{All, list_any, count_by, sum_by, fold, take_while}
use Rattle.std.specs.Option.{option_or}
use Rattle.subdiv_model.specs.Channel.{number_bound}
use Rattle.ratio128.specs.Numbers.{greatest_amount}
use Rattle.ratio128.specs.declared.point.Point3.{Point3}
use Rattle.stencil_apply.specs.Table.{Row, Table, IsTable, row_at, greatest_of, sum_of_row}
use Rattle.stencil_session.specs.declared.fault.MoveFault.{MoveFault}
use Rattle.stencil_session.specs.declared.fault.MoveFault.TheVariants.{IndexRange, Overflow}

-- a table, its controls, each as three numbers, and the marks of its changed rows
pub record State : Type 0 where
  pub table : Table
  pub controls : List (List ℤ)
  pub marks : List Bool

-- the three numbers of a point
abbrev pub numbers_of : Point3 → List ℤ
numbers_of point = point.x ∷ point.y ∷ point.z ∷ []

-- there is a control for each of the table's; the greatest denominator times each of its numbers is within the bound of
-- numbers
pub record IsState (state : State) : Type 0 where
  pub table : IsTable state.table
  pub each : length state.controls ≡ state.table.controls
  pub alike : All (λ numbers. length numbers ≡ 3) state.controls
  pub fits : All (λ numbers. greatest_of state.table * greatest_amount numbers ≤ number_bound) state.controls
  pub marks : length state.marks ≡ length state.table.rows

-- whether a row has a control, and the number of rows that have it
abbrev pub has_control : ℕ → Row → Bool
has_control control row = list_any (λ share. nat_eq share.0 control) row.shares

abbrev pub rows_with : ℕ → Table → ℕ
rows_with control table = count_by (has_control control) table.rows

-- the marks of rows, together with those of the rows that have a control
abbrev pub mark_rows : ℕ → List Row → List Bool → List Bool
mark_rows control (row ∷ rows) (mark ∷ marks) = (has_control control row || mark) ∷ mark_rows control rows marks
mark_rows control rows marks = marks

-- a move of a control to numbers, and its result
abbrev pub Move : Type 0
Move = ℕ × List ℤ

abbrev pub after_move : State → Move → State
after_move state move = record {
  table = state.table;
  controls = set state.controls move.0 move.1;
  marks = mark_rows move.0 state.table.rows state.marks;
}

abbrev pub after_moves : State → List Move → State
after_moves state moves = fold after_move state moves

-- the fault that keeps a control from moving to numbers
abbrev pub move_fault : Table → Move → Option MoveFault
move_fault table move =
    if nat_le table.controls move.0 then Some IndexRange
    else if nat_lt number_bound (greatest_of table * greatest_amount move.1) then Some Overflow
    else None

-- the fault of the first move that has one, and the moves before it
abbrev pub first_fault : Table → List Move → Option MoveFault
first_fault table [] = None
first_fault table (move ∷ moves) = option_or (move_fault table move) (first_fault table moves)

abbrev pub moves_made : Table → List Move → List Move
moves_made table moves = take_while (λ move. is_none (move_fault table move)) moves

-- a move of a control to a point
abbrev pub move_of : ℕ × Point3 → Move
move_of move = (move.0, numbers_of move.1)

-- the number of rows that moves visit; a row counts once for each move that visits it
abbrev pub rows_visited : Table → List Move → ℕ
rows_visited table moves = sum_by (λ move. rows_with move.0 table) moves

-- the numerators of a point: the sum of its row over the controls
abbrev pub row_value : State → ℕ → List ℤ
row_value state row = sum_of_row (pos 0 ∷ pos 0 ∷ pos 0 ∷ []) state.controls (row_at state.table row)

-- the state without the mark of a row
abbrev pub without_mark : State → Option ℕ → State
without_mark state None = state
without_mark state (Some row) = record { table = state.table; controls = state.controls; marks = set state.marks row false }

-- the sum of a row over controls, each as three numbers
abbrev pub sum_of_three : List (List ℤ) → Row → List ℤ
sum_of_three controls row = sum_of_row (pos 0 ∷ pos 0 ∷ pos 0 ∷ []) controls row
