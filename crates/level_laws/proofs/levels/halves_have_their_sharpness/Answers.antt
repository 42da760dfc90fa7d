use Rattle.level_laws.proofs.HalfLemmas.{half-sharp}
use Rattle.level_laws.proofs.levels.halves_have_their_sharpness.Goals as goal

pub returns : goal.returns
returns c = λ level end. half-sharp level end.over end.edge end.v end.is_edge end.is_end
