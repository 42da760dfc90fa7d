use Rattle.std.proofs.Common.{refl}
use Rattle.face_varying.proofs.seams.SideNumbers.note.Goals as goal

pub returns-then-along-clause-along : goal.returns-then-along-clause-along
returns-then-along-clause-along c = rw c.if-along.true refl

pub returns-then-along-clause-against : goal.returns-then-along-clause-against
returns-then-along-clause-against c = rw c.if-along.true refl

pub returns-else-along-clause-along : goal.returns-else-along-clause-along
returns-else-along-clause-along c = rw c.if-along.false refl

pub returns-else-along-clause-against : goal.returns-else-along-clause-against
returns-else-along-clause-against c = rw c.if-along.false refl
