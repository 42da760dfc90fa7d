-- The lines of the marked rows, one after another.
use Rattle.std.proofs.Common.{◌≡◌, ℕ, ◌+◌, false, List, [], ◌∷◌, ◌++◌, length, map, Some, None, ℤ, Result, Ok, Err, IsErr, arith, append_assoc, append-nil, refl, ap, sym, ◌∙◌, rules}
use Rattle.std.specs.List.{flat_map}
use Rattle.std.proofs.lemmas.List.{length-set}
use Rattle.far_io.specs.declared.sink.Sink.{Ghosts}
use Rattle.far_io.specs.declared.sink.WriteFailed.{WriteFailed}
use Rattle.stencil_session.specs.Tree.{least_mark}
use Rattle.stencil_apply.specs.Table.{Table}
use Rattle.stencil_session.specs.Session.{State, without_mark}
use Rattle.obj_out.specs.Puts.{Puts}
use Rattle.obj_out.specs.declared.put.Out.{Out}
use Rattle.obj_out.proofs.PutsLemmas.{puts-after, puts-cut, puts-same}
use Rattle.table_answers.specs.FrameLines.{row_line, marked, marked_lines, unmarked}
use Rattle.table_answers.proofs.FramePlaceLemmas.{least-first, none-marked, all-gone}

-- nothing is put
puts-nothing : {K : Type 0} {sink : Ghosts K} (out : Out K) → out.failed ≡ false → Puts sink out out [] (Ok tt)
puts-nothing out fine = search rules

-- The session has the table and the controls from its start. The lines already put, and those of the points that are still marked, are
-- those of the points marked at the start.
pub record IsPutUpTo {K : Type 0} (sink : Ghosts K) (common : ℕ) (first now : State) (start out : Out K) : Type 0 where
  pub table : now.table ≡ first.table
  pub controls : now.controls ≡ first.controls
  pub long : length now.marks ≡ length first.marks
  pub text : List ℕ
  pub put : Puts sink start out text (Ok tt)
  pub whole : text ++ flat_map (row_line common first) (marked now.marks) ≡ marked_lines common first

-- a row has the same line in each session of the table with these controls
row-same : (common row : ℕ) (first now : State) → now.table ≡ first.table → now.controls ≡ first.controls → row_line common now row ≡ row_line common first row
row-same common row first now table controls = ap (λ t. line t now.controls) table ∙ ap (λ cs. line first.table cs) controls
  where
    line : Table → List (List ℤ) → List ℕ
    line t cs = row_line common (record { table = t; controls = cs; marks = [] }) row

pub begun : {K : Type 0} {sink : Ghosts K} (common : ℕ) (first : State) (start : Out K) → start.failed ≡ false → IsPutUpTo sink common first first start start
begun common first start fine = record { table = refl; controls = refl; long = refl; text = []; put = puts-nothing start fine; whole = refl }

module _ {K : Type 0} {sink : Ghosts K} {common : ℕ} {first now : State} {start out : Out K} (so_far : IsPutUpTo sink common first now start out) where
  -- the next row is the least marked one
  module _ (row : ℕ) (next : State) (least : Some row ≡ least_mark now.marks) (is : next ≡ without_mark now (Some row)) where
    next-row : row_line common next row ≡ row_line common first row
    next-row = row-same common row first next (ap (λ s. s.table) is ∙ so_far.table) (ap (λ s. s.controls) is ∙ so_far.controls)

    behind : marked now.marks ≡ row ∷ marked next.marks
    behind = least-first now.marks row (sym least) ∙ ap (λ (s : State). row ∷ marked s.marks) (sym is)

    whole : so_far.text ++ (row_line common first row ++ flat_map (row_line common first) (marked next.marks)) ≡ marked_lines common first
    whole = sym (ap (λ rows. so_far.text ++ flat_map (row_line common first) rows) behind) ∙ so_far.whole

    -- fewer rows are marked
    pub fewer : length (marked next.marks) + 1 ≡ length (marked now.marks)
    fewer = omega (arith, ap length behind)

    pub next-put : {new : Out K} → Puts sink out new (row_line common next row) (Ok tt) → IsPutUpTo sink common first next start new
    next-put put = record {
      table = ap (λ s. s.table) is ∙ so_far.table;
      controls = ap (λ s. s.controls) is ∙ so_far.controls;
      long = ap (λ (s : State). length s.marks) is ∙ length-set now.marks row false ∙ so_far.long;
      text = so_far.text ++ row_line common first row;
      put = puts-after so_far.put (puts-same next-row put);
      whole = append_assoc so_far.text (row_line common first row) (flat_map (row_line common first) (marked next.marks)) ∙ whole;
    }

    pub next-failed : {new : Out K} {e : WriteFailed} {r : Result (Unit {0}) WriteFailed} → IsErr r → Puts sink out new (row_line common next row) (Err e) →
        Puts sink start new (marked_lines common first) r
    next-failed err put =
        puts-same whole (puts-after so_far.put (puts-cut (flat_map (row_line common first) (marked next.marks)) err (puts-same next-row put)))

  -- no row is marked
  module _ (next : State) (least : None ≡ least_mark now.marks) (is : next ≡ now) where
    pub all-put : Puts sink start out (marked_lines common first) (Ok tt)
    all-put = puts-same (sym (append-nil so_far.text) ∙ ap (λ rows. so_far.text ++ flat_map (row_line common first) rows) (sym (none-marked now.marks (sym least))) ∙ so_far.whole) so_far.put

    pub all-unmarked : next ≡ unmarked first
    all-unmarked = is ∙ same so_far.table so_far.controls (all-gone now.marks first.marks (sym least) so_far.long)
      where
        same : now.table ≡ first.table → now.controls ≡ first.controls → now.marks ≡ map (λ is_marked. false) first.marks → now ≡ unmarked first
        same table controls marks =
            ap (λ t. record { table = t; controls = now.controls; marks = now.marks }) table
            ∙ ap (λ cs. record { table = first.table; controls = cs; marks = now.marks }) controls
            ∙ ap (λ ms. record { table = first.table; controls = first.controls; marks = ms }) marks
