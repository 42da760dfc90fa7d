-- Moves that are not refused.
use Rattle.std.proofs.Common.{◌≡◌, ℕ, suc, ◌+◌, ◌*◌, ◌<◌, ◌≤◌, Bool, true, false, nat_le, nat_lt, if◌then◌else◌, Option, Some, None, is_none, cond, ℤ, pos, List, [], ◌∷◌, length, map, get_or, drop, arith, refl, ap, sym, ◌∙◌, subst, add-one}
use Rattle.std.specs.Option.{option_or}
use Rattle.std.proofs.Math.Seq.{drop-cons}
use Rattle.std.proofs.lemmas.Bool.{leb-false, ltb-false}
use Rattle.std.proofs.lemmas.List.{length-set, drop_all}
use Rattle.std.proofs.lemmas.List.Elements.{All-set}
use Rattle.std.proofs.lemmas.List.Sums.{sum_by-cons, take_while-cons}
use Rattle.subdiv_model.specs.Channel.{number_bound}
use Rattle.ratio128.specs.Numbers.{greatest_amount}
use Rattle.ratio128.specs.declared.point.Point3.{Point3}
use Rattle.stencil_apply.specs.Table.{Row, Table, greatest_of}
use Rattle.stencil_session.specs.Session.{State, IsState, Move, move_of, move_fault, after_move, after_moves, mark_rows, moves_made, first_fault, rows_with, rows_visited}
use Rattle.stencil_session.specs.declared.fault.MoveFault.{MoveFault}
use Rattle.stencil_session.specs.declared.fault.MoveFault.TheVariants.{IndexRange, Overflow}

-- a move keeps the number of marks
pub length-mark_rows : (control : ℕ) (rows : List Row) (marks : List Bool) → length (mark_rows control rows marks) ≡ length marks
length-mark_rows control [] marks = refl
length-mark_rows control (row ∷ rows) [] = refl
length-mark_rows control (row ∷ rows) (mark ∷ marks) = ap suc (length-mark_rows control rows marks)

-- the control is there, and its numbers fit
module _ (table : Table) (move : Move) (allowed : move_fault table move ≡ None) where
  tests : (past large : Bool) → nat_le table.controls move.0 ≡ past → nat_lt number_bound (greatest_of table * greatest_amount move.1) ≡ large
      → (if past then Some IndexRange else if large then Some Overflow else None) ≡ None → (move.0 < table.controls) × (greatest_of table * greatest_amount move.1 ≤ number_bound)
  tests true large e f none = absurd (cc)
  tests false true e f none = absurd (cc)
  tests false false e f none = (leb-false table.controls move.0 e, ltb-false number_bound (greatest_of table * greatest_amount move.1) f)

  both : (move.0 < table.controls) × (greatest_of table * greatest_amount move.1 ≤ number_bound)
  both = tests (nat_le table.controls move.0) (nat_lt number_bound (greatest_of table * greatest_amount move.1)) refl refl allowed

  pub move-inside : move.0 < table.controls
  move-inside = both.0

  pub move-fits : greatest_of table * greatest_amount move.1 ≤ number_bound
  move-fits = both.1

-- a state stays one
pub IsState-after : (state : State) (move : Move) → IsState state → length move.1 ≡ 3 → move_fault state.table move ≡ None → IsState (after_move state move)
IsState-after state move is long allowed = record {
  table = is.table;
  each = length-set state.controls move.0 move.1 ∙ is.each;
  alike = All-set (λ (numbers : List ℤ). length numbers ≡ 3) state.controls move.0 move.1 long is.alike;
  fits = All-set (λ (numbers : List ℤ). greatest_of state.table * greatest_amount numbers ≤ number_bound) state.controls move.0 move.1 (move-fits state.table move allowed) is.fits;
  marks = length-mark_rows move.0 state.table.rows state.marks ∙ is.marks;
}

-- a move that is made
pub made-more : (table : Table) (move : Move) (moves : List Move) → move_fault table move ≡ None → moves_made table (move ∷ moves) ≡ move ∷ moves_made table moves
made-more table move moves allowed =
    take_while-cons (λ (m : Move). is_none (move_fault table m)) move moves
    ∙ ap (λ (fault : Option MoveFault). cond (is_none fault) (move ∷ moves_made table moves) []) allowed

made-all : (table : Table) (moves : List Move) → first_fault table moves ≡ None → moves_made table moves ≡ moves
made-all table [] none = refl
made-all table (move ∷ moves) none = go (move_fault table move) refl none (made-all table moves)
  where
    go : (fault : Option MoveFault) → move_fault table move ≡ fault → option_or fault (first_fault table moves) ≡ None → (first_fault table moves ≡ None → moves_made table moves ≡ moves) → moves_made table (move ∷ moves) ≡ move ∷ moves
    go None is rest all = made-more table move moves is ∙ ap (λ ms. move ∷ ms) (all rest)
    go (Some fault) is rest all = absurd (cc)

-- the moves so far are made: the rest of the moves from the state now gives what all moves give from the first state
pub record AreMade (start now : State) (moves rest : List Move) (steps_before steps_now : ℕ) : Type 0 where
  pub table : now.table ≡ start.table
  pub made : after_moves now (moves_made now.table rest) ≡ after_moves start (moves_made start.table moves)
  pub cause : first_fault now.table rest ≡ first_fault start.table moves
  pub steps : steps_now + rows_visited now.table (moves_made now.table rest) ≡ steps_before + rows_visited start.table (moves_made start.table moves)

module _ (start now : State) (moves rest : List Move) (steps_before steps_now : ℕ) where
  -- one move more
  pub made-next : (move : Move) (next : State) (steps_next : ℕ) → AreMade start now moves (move ∷ rest) steps_before steps_now → move_fault now.table move ≡ None → next ≡ after_move now move
      → steps_next ≡ steps_now + rows_with move.0 now.table → AreMade start next moves rest steps_before steps_next
  made-next move next steps_next are allowed e taken =
      let more = made-more now.table move rest allowed in
      subst (λ state. AreMade start state moves rest steps_before steps_next) (sym e)
      (record {
        table = are.table;
        made = ap (after_moves now) (sym more) ∙ are.made;
        cause = ap (λ fault. option_or fault (first_fault now.table rest)) (sym allowed) ∙ are.cause;
        steps = omega (arith, taken, are.steps, ap (rows_visited now.table) more, sum_by-cons (λ (m : Move). rows_with m.0 now.table) move (moves_made now.table rest));
      })

-- no move is left
pub moved-all : (start now : State) (moves : List Move) (steps_before steps_now : ℕ) → AreMade start now moves [] steps_before steps_now → now ≡ after_moves start moves
moved-all start now moves steps_before steps_now are =
    are.made ∙ ap (after_moves start) (made-all start.table moves (sym are.cause))

-- the next of the moves, and the rest
rest-is : (moves : List (ℕ × Point3)) (k : ℕ) (d : ℕ × Point3) → k < length moves → map move_of (drop k moves) ≡ move_of (get_or moves k d) ∷ map move_of (drop (k + 1) moves)
rest-is moves k d h =
    ap (map move_of) (drop-cons moves k d h)
    ∙ ap (λ n. move_of (get_or moves k d) ∷ map move_of (drop n moves)) (sym (add-one k))

abbrev no_move : ℕ × Point3
no_move = (0, record { x = pos 0; y = pos 0; z = pos 0 })

pub made-step : (start now next : State) (moves : List (ℕ × Point3)) (steps_before steps_now steps_next k : ℕ) → k < length moves → AreMade start now (map move_of moves) (map move_of (drop k moves)) steps_before steps_now
    → move_fault now.table (move_of (get_or moves k no_move)) ≡ None → next ≡ after_move now (move_of (get_or moves k no_move)) → steps_next ≡ steps_now + rows_with (get_or moves k no_move).0 now.table
    → AreMade start next (map move_of moves) (map move_of (drop (k + 1) moves)) steps_before steps_next
made-step start now next moves steps_before steps_now steps_next k h are =
    made-next start now (map move_of moves) (map move_of (drop (k + 1) moves)) steps_before steps_now (move_of (get_or moves k no_move)) next steps_next
    (subst (λ rest. AreMade start now (map move_of moves) rest steps_before steps_now) (rest-is moves k no_move h) are)

pub moved-whole : (start now : State) (moves : List (ℕ × Point3)) (steps_before steps_now k : ℕ) → length moves ≤ k → AreMade start now (map move_of moves) (map move_of (drop k moves)) steps_before steps_now
    → now ≡ after_moves start (map move_of moves)
moved-whole start now moves steps_before steps_now k h are =
    moved-all start now (map move_of moves) steps_before steps_now
    (subst (λ (rest : List (ℕ × Point3)). AreMade start now (map move_of moves) (map move_of rest) steps_before steps_now) (drop_all k moves h) are)
