use Rattle.std.proofs.Common.{rules}
use Rattle.obj_out.proofs.CallerLemmas.{written, unfinished}
use Rattle.table_answers.proofs.changed_points.write_frame.Goals as goal

pub returns-in_err-put_frame-clause-text : goal.returns-in_err-put_frame-clause-text
returns-in_err-put_frame-clause-text g c =
    let put = unfinished c.new-out.ensures c.from_residual.ensures.0 c.in_err-put_frame.ensures.text in
    search (rules, put)

pub returns-clause-text : goal.returns-clause-text
returns-clause-text g c =
    let put = written c.new-out.ensures c.in_ok-put_frame.ensures.text c.end.ensures in
    search (rules, put)
