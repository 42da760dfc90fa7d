use Rattle.std.proofs.Common.{rules}
use Rattle.channel_refine.proofs.table.table_cause.Goals as goal

-- asked for by name, so that a body that breaks it is refused at once
pub returns-in-TooManyEntries : goal.returns-in-TooManyEntries
returns-in-TooManyEntries c = search rules
