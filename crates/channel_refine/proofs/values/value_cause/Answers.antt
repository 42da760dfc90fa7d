use Rattle.std.proofs.Common.{rules}
use Rattle.channel_refine.proofs.values.value_cause.Goals as goal

-- asked for by name, so that a body that breaks it is refused at once
pub returns-in-TooBig : goal.returns-in-TooBig
returns-in-TooBig c = search rules
