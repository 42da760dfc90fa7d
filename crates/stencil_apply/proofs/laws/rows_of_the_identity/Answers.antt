use Rattle.stencil_apply.proofs.IdentityLemmas.{row-of-identity}
use Rattle.stencil_apply.proofs.laws.rows_of_the_identity.Goals as goal

pub returns : goal.returns
returns c = row-of-identity
