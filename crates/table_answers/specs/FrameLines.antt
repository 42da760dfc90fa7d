-- The lines of the marked rows of a session, over a common denominator.
-- Source: this profile.
use Rattle.std.specs.Prelude.{ℕ, ◌*◌, pos, Bool, false, List, ◌++◌, map, get_or}
use Rattle.std.specs.List.{flat_map}
use Rattle.subdiv_model.specs.Lists.{places}
use Rattle.subdiv_model.specs.Value.{Value}
use Rattle.subdiv_model.specs.Refined.{Point}
use Rattle.stencil_session.specs.Tree.{mark_count}
use Rattle.stencil_apply.specs.Table.{row_at}
use Rattle.stencil_session.specs.Session.{State, row_value}
use Rattle.far_text.specs.Frames.{frame_line, changed_line}

-- a number of a row over the row's denominator times the common one
abbrev pub row_coordinate : ℕ → State → ℕ → ℕ → Value
row_coordinate common state row column = record { num = get_or (row_value state row) column (pos 0); den = (row_at state.table row).den * common }

-- the point of a row
abbrev pub row_point : ℕ → State → ℕ → Point
row_point common state row = (row_coordinate common state row 0, row_coordinate common state row 1, row_coordinate common state row 2)

-- the line of a row
abbrev pub row_line : ℕ → State → ℕ → List ℕ
row_line common state row = changed_line row (row_point common state row)

-- the numbers of the marked rows, ascending
abbrev pub marked : List Bool → List ℕ
marked marks = places (λ is_marked. is_marked) marks

-- the lines of the marked rows, ascending
abbrev pub marked_lines : ℕ → State → List ℕ
marked_lines common state = flat_map (row_line common state) (marked state.marks)

-- the number of marked rows, and their lines
abbrev pub marked_text : ℕ → State → List ℕ
marked_text common state = frame_line (mark_count state.marks) ++ marked_lines common state

-- the session without any mark
abbrev pub unmarked : State → State
unmarked state = record { table = state.table; controls = state.controls; marks = map (λ is_marked. false) state.marks }
