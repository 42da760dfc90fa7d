use Rattle.limit_stencils.proofs.CauseLemmas.{tested}
use Rattle.limit_stencils.proofs.cause.check_vertex.Goals as goal

pub returns : goal.returns
returns c =
    tested c.args.level.now c.args.v c.has_semi_sharp.result c.lasting_rule.result c.check_rule.result c.facts.ensures c.requires c.has_semi_sharp.ensures c.lasting_rule.ensures c.check_rule.ensures
