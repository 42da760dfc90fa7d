use Rattle.std.proofs.Common.{rules}
use Rattle.far_io.proofs.text.TextReader.keep.Goals as goal

-- asked for by name, so that a body that breaks it is refused at once
pub returns-clause-kept : goal.returns-clause-kept
returns-clause-kept c = search rules
