use Rattle.std.proofs.Common.{rules}
use Rattle.sharpness_rules.proofs.rule.vertex_rule.Goals as goal

-- asked for by name, so that a body that breaks it is refused at once
pub returns-in_default-next_sharp : goal.returns-in_default-next_sharp
returns-in_default-next_sharp c = search rules
