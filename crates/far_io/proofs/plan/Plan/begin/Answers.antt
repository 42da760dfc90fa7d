use Rattle.far_io.proofs.PieceLemmas.{piece_of-some}
use Rattle.far_io.proofs.plan.Plan.begin.Goals as goal

pub returns-clause-some : goal.returns-clause-some
returns-clause-some c = λ some. rw (c.piece_size.ensures, c.deref-2.ensures.value) (piece_of-some _ _ _ c.self.invariant some)
