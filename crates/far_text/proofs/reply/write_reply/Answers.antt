use Rattle.std.proofs.Common.{rules}
use Rattle.obj_out.proofs.CallerLemmas.{written, unfinished}
use Rattle.far_text.proofs.reply.write_reply.Goals as goal

pub returns-in_err-put_reply : goal.returns-in_err-put_reply
returns-in_err-put_reply g c =
    let put = unfinished c.new-out.ensures c.from_residual.ensures.0 c.in_err-put_reply.ensures in
    search (rules, put)

pub returns : goal.returns
returns g c =
    let put = written c.new-out.ensures c.in_ok-put_reply.ensures c.end.ensures in
    search (rules, put)
