use Rattle.std.proofs.Common.{refl}
use Rattle.stencil_laws.proofs.SupportLemmas.{length-supports}
use Rattle.stencil_laws.proofs.rows.entries_are_the_sizes_of_supports.Goals as goal

pub returns-clause-entries : goal.returns-clause-entries
returns-clause-entries c level scheme k = refl

pub returns-clause-points : goal.returns-clause-points
returns-clause-points c = length-supports
