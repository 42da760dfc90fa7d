use Rattle.theorems.proofs.MeshTagLemmas.{base-hole}
use Rattle.theorems.proofs.tags.holes_add_up.Goals as goal

pub returns : goal.returns
returns c = base-hole
