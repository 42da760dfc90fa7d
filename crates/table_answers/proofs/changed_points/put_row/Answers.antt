use Rattle.obj_out.proofs.PutsLemmas.{puts-same}
use Rattle.table_answers.proofs.FrameRowLemmas.{row-written, row-line}
use Rattle.table_answers.proofs.changed_points.put_row.Goals as goal

pub put_changed-requires : goal.put_changed-requires
put_changed-requires g c =
    row-written c.args.session.now c.args.row c.args.common c.denominator-den.result c.args.value c.denominator-den.ensures
    c.facts.ensures.table c.requires.inside c.requires.short c.requires.some c.requires.fits

pub returns : goal.returns
returns g c =
    puts-same (row-line c.args.session.now c.args.row c.args.common c.denominator-den.result c.args.value c.denominator-den.ensures c.requires.value)
    c.put_changed.ensures
