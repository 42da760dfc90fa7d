use Rattle.std.proofs.Common.{ap, ◌++◌}
use Rattle.obj_out.proofs.PutsLemmas.{puts-after, puts-cut, puts-same}
use Rattle.far_text.specs.Frames.{frame_line}
use Rattle.table_answers.specs.FrameLines.{marked_lines}
use Rattle.table_answers.proofs.changed_points.put_frame.Goals as goal

pub returns-in_err-put_frame_count-clause-text : goal.returns-in_err-put_frame_count-clause-text
returns-in_err-put_frame_count-clause-text g c =
    puts-same (ap (λ n. frame_line n ++ marked_lines c.args.common c.args.session.now) c.changed.ensures)
    (puts-cut (marked_lines c.args.common c.args.session.now) c.from_residual.ensures.0 c.in_err-put_frame_count.ensures)

pub returns-clause-text : goal.returns-clause-text
returns-clause-text g c =
    puts-same (ap (λ n. frame_line n ++ marked_lines c.args.common c.args.session.now) c.changed.ensures)
    (puts-after c.in_ok-put_frame_count.ensures c.put_rows.ensures.lines)
