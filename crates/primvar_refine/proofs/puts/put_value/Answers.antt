use Rattle.std.proofs.Common.{ap, ◌∙◌, get_or}
use Rattle.primvar_refine.proofs.PutLemmas.{put-is, put-there, den-there}
use Rattle.primvar_refine.proofs.puts.put_value.Goals as goal

pub returns-clause-put : goal.returns-clause-put
returns-clause-put g c =
    put-is g.P.Primvar.numbers c.args.made.now c.args.p (record { value = c.args.value; den = (get_or c.args.made.now c.args.p c.index-made-p.result).den }) c.requires
    (den-there g.P.Primvar.numbers c.args.made.now c.args.p c.index-made-p.result c.requires)

pub returns-clause-there : goal.returns-clause-there
returns-clause-there g c =
    put-there g.P.Primvar.numbers c.args.made.now c.args.p (record { value = c.args.value; den = (get_or c.args.made.now c.args.p c.index-made-p.result).den }) c.requires
    ∙ ap (λ n. record { numbers = g.P.Primvar.numbers c.args.value; den = n }) (den-there g.P.Primvar.numbers c.args.made.now c.args.p c.index-made-p.result c.requires)
