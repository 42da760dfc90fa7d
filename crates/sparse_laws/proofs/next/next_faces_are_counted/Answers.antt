use Rattle.sparse_laws.proofs.OverflowLemmas.{faces-counted}
use Rattle.sparse_laws.proofs.next.next_faces_are_counted.Goals as goal

pub returns : goal.returns
returns c = λ tested. faces-counted tested.refinement tested.by
