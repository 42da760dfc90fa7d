use Rattle.obj_out.proofs.PutsLemmas.{puts-after, puts-cut, puts-same}
use Rattle.far_text.proofs.LineLemmas.{frame-by-words}
use Rattle.far_text.proofs.frames.put_frame_count.Goals as goal

pub returns-in_err-put_count : goal.returns-in_err-put_count
returns-in_err-put_count g c =
    puts-same (frame-by-words c.args.count) (puts-cut _ c.from_residual.ensures.0 c.in_err-put_count.ensures)

pub returns : goal.returns
returns g c = puts-same (frame-by-words c.args.count) (puts-after c.in_ok-put_count.ensures c.put_byte.ensures)
