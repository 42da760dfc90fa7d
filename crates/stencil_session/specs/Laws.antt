-- The terms of the laws of sessions: moves without a fault, and marks that are removed one after another.
use Rattle.std.specs.Prelude.{ℕ, ◌≡◌, ℤ, Bool, false, nat_eq, List, [], ◌∷◌, length, map, get_or, replicate, Some, None, if◌then◌else◌}
use Rattle.std.specs.List.{All, filter, list_any, range_with_len}
use Rattle.stencil_session.specs.Tree.{least_mark}
use Rattle.stencil_apply.specs.Table.{Table, row_at}
use Rattle.stencil_session.specs.Session.{State, IsState, Move, has_control, move_fault, without_mark}

-- a state, and moves of it without a fault, each to three numbers
pub record MovedState : Type 0 where
  pub state : State
  pub moves : List Move
  pub is_state : IsState state
  pub alike : All (λ move. length move.1 ≡ 3) moves
  pub allowed : All (λ move. move_fault state.table move ≡ None) moves

-- the numbers of a control's last move, or its own if none moves it
abbrev pub last_target : List Move → ℕ → List ℤ → List ℤ
last_target [] control before = before
last_target (move ∷ moves) control before = last_target moves control (if nat_eq move.0 control then move.1 else before)

abbrev pub controls_after : State → List Move → List (List ℤ)
controls_after state moves = map (λ i. last_target moves i (get_or state.controls i [])) (range_with_len 0 (length state.controls))

-- a state without marks, and moves of it
pub record UnmarkedState : Type 0 where
  pub state : State
  pub moves : List Move
  pub unmarked : state.marks ≡ replicate (length state.table.rows) false

-- whether a row has a moved control, and the rows that have one, ascending
abbrev pub has_moved : Table → List Move → ℕ → Bool
has_moved table moves row = list_any (λ move. has_control move.0 (row_at table row)) moves

abbrev pub moved_rows : Table → List Move → List ℕ
moved_rows table moves = filter (has_moved table moves) (range_with_len 0 (length table.rows))

-- the marked rows, ascending
abbrev pub marked_rows : List Bool → List ℕ
marked_rows marks = filter (λ row. get_or marks row false) (range_with_len 0 (length marks))

-- the results of removing the least mark until there is none
abbrev pub AreTaken : State → List ℕ → Type 0
AreTaken state [] = least_mark state.marks ≡ None
AreTaken state (row ∷ rows) = (least_mark state.marks ≡ Some row) × AreTaken (without_mark state (Some row)) rows
