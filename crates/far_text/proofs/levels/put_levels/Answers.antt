use Rattle.std.proofs.Common.{refl}
use Rattle.obj_out.proofs.PutsLemmas.{puts-next, puts-stop, puts-same}
use Rattle.far_text.specs.Levels.{numbered_line}
use Rattle.far_text.proofs.LevelsLemmas.{none, numbered, within-numbered, line-at, all-lines}
use Rattle.far_text.proofs.levels.put_levels.Goals as goal

pub returns-in_err-put_level_line : goal.returns-in_err-put_level_line
returns-in_err-put_level_line g c =
    puts-stop numbered_line (numbered c.args.counts.now) c.loop-k.k none (within-numbered c.args.counts.now c.loop-k.k
    c.loop-k-test.true) c.from_residual.ensures.0 c.loop-k.invariant
    (puts-same (line-at c.args.counts.now c.loop-k.k _ _ c.loop-k-test.true refl) c.in_err-put_level_line.ensures)

pub loop-k-preserved : goal.loop-k-preserved
loop-k-preserved g c =
    puts-next numbered_line (numbered c.args.counts.now) c.loop-k.k none (within-numbered c.args.counts.now c.loop-k.k
    c.loop-k-test.true) c.loop-k.invariant
    (puts-same (line-at c.args.counts.now c.loop-k.k _ _ c.loop-k-test.true refl) c.in_ok-put_level_line.ensures)

pub returns : goal.returns
returns g c = puts-same (all-lines c.args.counts.now c.loop-k.k c.loop-k-test.false) c.loop-k.invariant
