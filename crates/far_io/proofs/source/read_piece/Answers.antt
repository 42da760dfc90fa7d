use Rattle.std.proofs.Common.{rules}
use Rattle.far_io.proofs.source.read_piece.Goals as goal

-- asked for by name, so that a body that breaks it is refused at once
pub returns-in-Err-clause-end : goal.returns-in-Err-clause-end
returns-in-Err-clause-end g c = search rules
