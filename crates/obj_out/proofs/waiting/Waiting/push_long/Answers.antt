use Rattle.std.proofs.Common.{arith, ap, ◌∙◌, ◌++◌}
use Rattle.number_laws.proofs.DecimalLemmas.{decimal-number_text}
use Rattle.obj_out.proofs.waiting.Waiting.push_long.Goals as goal

pub returns-clause-text : goal.returns-clause-text
returns-clause-text c =
    c.push.ensures ∙ ap (λ t. c.args.self.now ++ t) (c.as_bytes.ensures.value ∙ c.format.ensures.text ∙ decimal-number_text c.args.n (omega arith))
