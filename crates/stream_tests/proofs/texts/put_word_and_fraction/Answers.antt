use Rattle.std.proofs.Common.{Err, refl, rules}
use Rattle.subdiv_model.specs.NumberText.{fraction_text}
use Rattle.obj_out.proofs.PutsLemmas.{puts-after, puts-cut}
use Rattle.obj_out.proofs.CallerLemmas.{written, unfinished}
use Rattle.stream_tests.proofs.texts.put_word_and_fraction.Goals as goal

pub returns-in_err-put_bytes : goal.returns-in_err-put_bytes
returns-in_err-put_bytes g c =
    let cut = puts-cut {r = Err _} (fraction_text c.args.f.now.num c.args.f.now.den) refl c.in_err-put_bytes.ensures in
    let put = unfinished c.new-out.ensures c.from_residual.ensures.0 cut in
    search (rules, put)

pub returns-in_err-put_frac : goal.returns-in_err-put_frac
returns-in_err-put_frac g c =
    let put = unfinished c.new-out.ensures c.from_residual-in_err-put_frac.ensures.0 (puts-after c.in_ok-put_bytes.ensures c.in_err-put_frac.ensures) in
    search (rules, put)

pub returns : goal.returns
returns g c =
    let put = written c.new-out.ensures (puts-after c.in_ok-put_bytes.ensures c.in_ok-put_frac.ensures) c.end.ensures in
    search (rules, put)
