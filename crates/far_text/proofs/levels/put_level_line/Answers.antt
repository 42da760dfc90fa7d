use Rattle.obj_out.proofs.PutsLemmas.{puts-after, puts-cut, puts-same}
use Rattle.level_walk.specs.CountsView.{seen_counts}
use Rattle.far_text.proofs.CountLineLemmas.{level-by-words}
use Rattle.far_text.proofs.levels.put_level_line.Goals as goal

pub returns-in_err-put_count : goal.returns-in_err-put_count
returns-in_err-put_count g c =
    puts-same (level-by-words c.args.number (seen_counts c.args.counts.now))
    (puts-cut _ c.from_residual.ensures.0 c.in_err-put_count.ensures)

pub returns-in_err-put_count-2 : goal.returns-in_err-put_count-2
returns-in_err-put_count-2 g c =
    puts-same (level-by-words c.args.number (seen_counts c.args.counts.now))
    (puts-after c.in_ok-put_count.ensures (puts-cut _ c.from_residual-in_err-put_count-2.ensures.0 c.in_err-put_count-2.ensures))

pub returns-in_err-put_count-3 : goal.returns-in_err-put_count-3
returns-in_err-put_count-3 g c =
    puts-same (level-by-words c.args.number (seen_counts c.args.counts.now))
    (puts-after c.in_ok-put_count.ensures (puts-after c.in_ok-put_count-2.ensures
    (puts-cut _ c.from_residual-in_err-put_count-3.ensures.0 c.in_err-put_count-3.ensures)))

pub returns-in_err-put_count-4 : goal.returns-in_err-put_count-4
returns-in_err-put_count-4 g c =
    puts-same (level-by-words c.args.number (seen_counts c.args.counts.now))
    (puts-after c.in_ok-put_count.ensures (puts-after c.in_ok-put_count-2.ensures (puts-after c.in_ok-put_count-3.ensures
    (puts-cut _ c.from_residual-in_err-put_count-4.ensures.0 c.in_err-put_count-4.ensures))))

pub returns-in_err-put_euler : goal.returns-in_err-put_euler
returns-in_err-put_euler g c =
    puts-same (level-by-words c.args.number (seen_counts c.args.counts.now))
    (puts-after c.in_ok-put_count.ensures (puts-after c.in_ok-put_count-2.ensures (puts-after c.in_ok-put_count-3.ensures
    (puts-after c.in_ok-put_count-4.ensures (puts-cut _ c.from_residual-in_err-put_euler.ensures.0 c.in_err-put_euler.ensures)))))

pub returns : goal.returns
returns g c =
    puts-same (level-by-words c.args.number (seen_counts c.args.counts.now))
    (puts-after c.in_ok-put_count.ensures (puts-after c.in_ok-put_count-2.ensures (puts-after c.in_ok-put_count-3.ensures
    (puts-after c.in_ok-put_count-4.ensures (puts-after c.in_ok-put_euler.ensures c.put_kinds.ensures)))))
