use Rattle.std.proofs.Common.{rules}
use Rattle.obj_out.proofs.CallerLemmas.{unfinished, written}
use Rattle.far_fault.proofs.line.report.Goals as goal

pub returns-in_err-put_line : goal.returns-in_err-put_line
returns-in_err-put_line g c =
    let put = unfinished c.new-out.ensures c.from_residual.ensures.0 c.in_err-put_line.ensures in
    search (rules, put)

pub returns : goal.returns
returns g c =
    let put = written c.new-out.ensures c.in_ok-put_line.ensures c.end.ensures in
    search (rules, put)
