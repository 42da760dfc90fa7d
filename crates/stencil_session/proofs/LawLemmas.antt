-- States after moves, and the marks that are taken from them.
use Rattle.std.proofs.Common.{◌≡◌, ◌↔◌, ℕ, zero, suc, ◌+◌, ◌<◌, Bool, true, false, ◌||◌, cond, nat_eq, ℤ, pos, Some, None, List, [], ◌∷◌, ◌++◌, length, get_or, set, replicate, if◌then◌else◌, arith, refl, ap, sym, ◌∙◌, subst, append_assoc, inl, inr}
use Rattle.std.specs.List.{All, filter, range_with_len}
use Rattle.std.proofs.Math.Seq.{set-append_seam, get_or-append_seam}
use Rattle.std.proofs.lemmas.Bool.{cases_eq, eq-eqb, ne_eqb}
use Rattle.std.proofs.lemmas.List.{ext_get_or, length-set, length-replicate, get_or-replicate, get_or_append_left, get_or-set_same, get_or-set_other, length-append, append-nil, replicate_more}
use Rattle.std.proofs.lemmas.List.FromFn.{length-map-range_with_len, get_or-map-range_with_len}
use Rattle.stencil_session.specs.Tree.{least_mark}
use Rattle.stencil_session.proofs.LeastLemmas.{least-none, least-is}
use Rattle.stencil_apply.specs.Table.{Row, Table, row_at, sum_of_row}
use Rattle.stencil_apply.proofs.ArrayLemmas.{cons_both}
use Rattle.stencil_apply.proofs.MeanLemmas.{all-first, all-rest}
use Rattle.stencil_session.specs.Session.{State, IsState, Move, has_control, mark_rows, move_fault, after_move, after_moves, row_value, without_mark}
use Rattle.stencil_session.specs.Laws.{MovedState, UnmarkedState, last_target, controls_after, has_moved, moved_rows, marked_rows, AreTaken}
use Rattle.stencil_session.proofs.CellLemmas.{blank}
use Rattle.stencil_session.proofs.MoveLemmas.{length-mark_rows, IsState-after}

-- moves leave the table, and a state that is one
table-after : (moves : List Move) (state : State) → (after_moves state moves).table ≡ state.table
table-after [] state = refl
table-after (move ∷ moves) state = table-after moves (after_move state move)

states-after : (moves : List Move) (state : State) → IsState state → All (λ move. length move.1 ≡ 3) moves → All (λ move. move_fault state.table move ≡ None) moves → IsState (after_moves state moves)
states-after [] state is alike allowed = is
states-after (move ∷ moves) state is alike allowed =
    states-after moves (after_move state move)
    (IsState-after state move is (all-first (λ (m : Move). length m.1 ≡ 3) move moves alike) (all-first (λ (m : Move). move_fault state.table m ≡ None) move moves allowed))
    (all-rest (λ (m : Move). length m.1 ≡ 3) move moves alike) (all-rest (λ (m : Move). move_fault state.table m ≡ None) move moves allowed)

pub state-after : (moved : MovedState) → IsState (after_moves moved.state moved.moves)
state-after moved = states-after moved.moves moved.state moved.is_state moved.alike moved.allowed

-- each control has the value of its last move
length-after : (moves : List Move) (state : State) → length (after_moves state moves).controls ≡ length state.controls
length-after [] state = refl
length-after (move ∷ moves) state = length-after moves (after_move state move) ∙ length-set state.controls move.0 move.1

control-set : (controls : List (List ℤ)) (move : Move) (i : ℕ) → i < length controls → get_or (set controls move.0 move.1) i [] ≡ (if nat_eq move.0 i then move.1 else get_or controls i [])
control-set controls move i inside = elim (cases_eq i move.0) [
  | inl same ↦
      ap (λ k. get_or (set controls k move.1) i []) (sym same)
      ∙ get_or-set_same controls i move.1 [] inside
      ∙ ap (λ b. if b then move.1 else get_or controls i []) (sym (eq-eqb move.0 i (sym same)))
  | inr other ↦
      get_or-set_other controls move.0 i move.1 [] other
      ∙ ap (λ b. if b then move.1 else get_or controls i []) (sym (ne_eqb move.0 i (λ e. other (sym e))))
]

control-after : (moves : List Move) (state : State) (i : ℕ) → i < length state.controls → get_or (after_moves state moves).controls i [] ≡ last_target moves i (get_or state.controls i [])
control-after [] state i inside = refl
control-after (move ∷ moves) state i inside =
    control-after moves (after_move state move) i (omega (arith, inside, length-set state.controls move.0 move.1))
    ∙ ap (last_target moves i) (control-set state.controls move i inside)

pub controls-after : (state : State) (moves : List Move) → (after_moves state moves).controls ≡ controls_after state moves
controls-after state moves =
    let n = length state.controls in
    let last = λ (i : ℕ). last_target moves i (get_or state.controls i []) in
    let many = length-map-range_with_len last 0 (length state.controls) in
    ext_get_or [] (after_moves state moves).controls (controls_after state moves) (length-after moves state ∙ sym many)
    (λ i h.
    let inside : i < length state.controls = omega (arith, h, length-after moves state) in
    control-after moves state i inside ∙ sym (get_or-map-range_with_len last 0 n i i [] inside (omega arith)))

pub value-after : (state : State) (moves : List Move) (row : ℕ) → row_value (after_moves state moves) row ≡ sum_of_row (pos 0 ∷ pos 0 ∷ pos 0 ∷ []) (controls_after state moves) (row_at state.table row)
value-after state moves row =
    ap (λ controls. sum_of_row (pos 0 ∷ pos 0 ∷ pos 0 ∷ []) controls (row_at (after_moves state moves).table row)) (controls-after state moves)
    ∙ ap (λ (table : Table). sum_of_row (pos 0 ∷ pos 0 ∷ pos 0 ∷ []) (controls_after state moves) (row_at table row)) (table-after moves state)

-- a row is marked where it was, or has a moved control
mark-at : (control : ℕ) (rows : List Row) (marks : List Bool) (row : ℕ) → length marks ≡ length rows → row < length rows → get_or (mark_rows control rows marks) row false ≡ (has_control control (get_or rows row blank) || get_or marks row false)
mark-at control [] marks row e h = absurd (omega arith)
mark-at control (r ∷ rows) [] row e h = absurd (omega (arith, e))
mark-at control (r ∷ rows) (mark ∷ marks) zero e h = refl
mark-at control (r ∷ rows) (mark ∷ marks) (suc row) e h = mark-at control rows marks row (omega (arith, e)) (omega (arith, h))

either : (a b c : Bool) → ((a || b) || c) ≡ (b || (a || c))
either true true c = refl
either true false c = refl
either false b c = refl

marks-after : (moves : List Move) (state : State) (row : ℕ) → length state.marks ≡ length state.table.rows → row < length state.table.rows → get_or (after_moves state moves).marks row false ≡ (get_or state.marks row false || has_moved state.table moves row)
marks-after [] state row e h = none (get_or state.marks row false)
  where
    none : (b : Bool) → b ≡ (b || false)
    none true = refl
    none false = refl
marks-after (move ∷ moves) state row e h =
    marks-after moves (after_move state move) row (length-mark_rows move.0 state.table.rows state.marks ∙ e) h
    ∙ ap (λ b. b || has_moved state.table moves row) (mark-at move.0 state.table.rows state.marks row e h)
    ∙ either (has_control move.0 (row_at state.table row)) (get_or state.marks row false) (has_moved state.table moves row)

pub marks-are : (run : UnmarkedState) (row : ℕ) → row < length run.state.table.rows → get_or (after_moves run.state run.moves).marks row false ≡ has_moved run.state.table run.moves row
marks-are run row h =
    marks-after run.moves run.state row (ap length run.unmarked ∙ length-replicate (length run.state.table.rows) false) h
    ∙ ap (λ b. b || has_moved run.state.table run.moves row) (ap (λ marks. get_or marks row false) run.unmarked ∙ get_or-replicate (length run.state.table.rows) row false false h)

filter-same : (p q : ℕ → Bool) (first n : ℕ) → ((i : ℕ) → i < first + n → p i ≡ q i) → filter p (range_with_len first n) ≡ filter q (range_with_len first n)
filter-same p q first zero same = refl
filter-same p q first (suc n) same =
    ap (λ b. cond b (first ∷ filter p (range_with_len (first + 1) n)) (filter p (range_with_len (first + 1) n))) (same first (omega arith))
    ∙ ap (λ xs. cond (q first) (first ∷ xs) xs) (filter-same p q (first + 1) n (λ i h. same i (omega (arith, h))))

mark-count : (moves : List Move) (state : State) → length (after_moves state moves).marks ≡ length state.marks
mark-count [] state = refl
mark-count (move ∷ moves) state = mark-count moves (after_move state move) ∙ length-mark_rows move.0 state.table.rows state.marks

pub rows-are : (run : UnmarkedState) → marked_rows (after_moves run.state run.moves).marks ≡ moved_rows run.state.table run.moves
rows-are run =
    let many : length (after_moves run.state run.moves).marks ≡ length run.state.table.rows = mark-count run.moves run.state ∙ ap length run.unmarked ∙ length-replicate (length run.state.table.rows) false in
    ap (λ n. filter (λ row. get_or (after_moves run.state run.moves).marks row false) (range_with_len 0 n)) many
    ∙ filter-same (λ row. get_or (after_moves run.state run.moves).marks row false) (has_moved run.state.table run.moves) 0 (length run.state.table.rows) (λ i h. marks-are run i (omega (arith, h)))

-- the results depend only on the marks
abbrev with_marks : Table → List (List ℤ) → List Bool → State
with_marks table controls marks = record { table = table; controls = controls; marks = marks }

abbrev marked_from : ℕ → List Bool → List ℕ
marked_from first [] = []
marked_from first (mark ∷ marks) = cond mark (first ∷ marked_from (first + 1) marks) (marked_from (first + 1) marks)

clear-at : (n i : ℕ) → get_or (replicate n false) i false ≡ false
clear-at zero i = refl
clear-at (suc n) zero = refl
clear-at (suc n) (suc i) = clear-at n i

shift : (n : ℕ) (marks : List Bool) → replicate n false ++ false ∷ marks ≡ replicate (n + 1) false ++ marks
shift n marks =
    sym (append_assoc (replicate n false) (false ∷ []) marks) ∙ ap (λ clear. clear ++ marks) (replicate_more n false)

-- the first mark after n clear ones is the least
first-least : (n : ℕ) (marks : List Bool) → least_mark (replicate n false ++ true ∷ marks) ≡ Some n
first-least n marks =
    let clear = replicate n false in
    let count : length (replicate n false) ≡ n = length-replicate n false in
    least-is (replicate n false ++ true ∷ marks) n (omega (arith, length-append (replicate n false) (true ∷ marks), count))
    (λ other h. get_or_append_left (replicate n false) (true ∷ marks) false other (omega (arith, h, count)) ∙ clear-at n other)
    (ap (λ at. get_or (replicate n false ++ true ∷ marks) at false) (sym count) ∙ get_or-append_seam (replicate n false) true marks false)

without-first : (n : ℕ) (marks : List Bool) → set (replicate n false ++ true ∷ marks) n false ≡ replicate (n + 1) false ++ marks
without-first n marks =
    ap (λ at. set (replicate n false ++ true ∷ marks) at false) (sym (length-replicate n false))
    ∙ set-append_seam (replicate n false) true marks false
    ∙ shift n marks

taken-from : (table : Table) (controls : List (List ℤ)) (n : ℕ) (marks : List Bool) → AreTaken (with_marks table controls (replicate n false ++ marks)) (marked_from n marks)
taken-from table controls n [] =
    ap least_mark (append-nil (replicate n false)) ∙ least-none (replicate n false) (clear-at n)
taken-from table controls n (false ∷ marks) =
    subst (λ all. AreTaken (with_marks table controls all) (marked_from (n + 1) marks)) (sym (shift n marks)) (taken-from table controls (n + 1) marks)
taken-from table controls n (true ∷ marks) = (
  first-least n marks,
  subst (λ all. AreTaken (with_marks table controls all) (marked_from (n + 1) marks)) (sym (without-first n marks)) (taken-from table controls (n + 1) marks),
)

marked-are : (all : List Bool) (first : ℕ) (marks : List Bool) → ((k : ℕ) → k < length marks → get_or all (first + k) false ≡ get_or marks k false) → marked_from first marks ≡ filter (λ row. get_or all row false) (range_with_len first (length marks))
marked-are all first [] same = refl
marked-are all first (mark ∷ marks) same =
    let none : first ≡ first + 0 = omega arith in
    let here : get_or all first false ≡ mark = ap (λ row. get_or all row false) none ∙ same 0 (omega arith) in
    ap (λ xs. cond mark (first ∷ xs) xs) (marked-are all (first + 1) marks (λ k h. ap (λ row. get_or all row false) (later k) ∙ same (suc k) (omega (arith, h))))
    ∙ ap (λ b. cond b (first ∷ filter (λ row. get_or all row false) (range_with_len (first + 1) (length marks))) (filter (λ row. get_or all row false) (range_with_len (first + 1) (length marks)))) (sym here)
  where
    later : (k : ℕ) → (first + 1) + k ≡ first + suc k
    later k = omega arith

taken-all : (state : State) → AreTaken state (marked_rows state.marks)
taken-all state =
    subst (AreTaken state) (marked-are state.marks 0 state.marks (λ k h. ap (λ row. get_or state.marks row false) (same k))) (taken-from state.table state.controls 0 state.marks)
  where
    same : (k : ℕ) → 0 + k ≡ k
    same k = omega arith

-- the answers are determined
taken-once : (rows others : List ℕ) (state : State) → AreTaken state rows → AreTaken state others → rows ≡ others
taken-once [] [] state taken too = refl
taken-once [] (other ∷ others) state taken too = let first = too.0 in absurd (cc)
taken-once (row ∷ rows) [] state taken too = let first = taken.0 in absurd (cc)
taken-once (row ∷ rows) (other ∷ others) state taken too =
    let one = taken.0 in
    let two = too.0 in
    let same : row ≡ other = cc in
    let rest : rows ≡ others = taken-once rows others (without_mark state (Some row)) taken.1 (subst (λ (r : ℕ). AreTaken (without_mark state (Some r)) others) (sym same) too.1) in
    cons_both same rest

pub answers-are : (state : State) (rows : List ℕ) → AreTaken state rows ↔ (rows ≡ marked_rows state.marks)
answers-are state rows = (
  λ taken. taken-once rows (marked_rows state.marks) state taken (taken-all state),
  λ same. subst (AreTaken state) (sym same) (taken-all state),
)
