use Rattle.std.proofs.Common.{drop, map}
use Rattle.stencil_session.specs.Session.{move_of}
use Rattle.stencil_session.proofs.MoveLemmas.{AreMade}
use Rattle.stencil_session.proofs.session.Session.move_points.Given as goal

-- the moves before this one are made
abbrev pub invariant-loop-next : goal.invariant-loop-next
invariant-loop-next g l = AreMade l.fn.self l.self (map move_of l.moves) (map move_of (drop l.next-index l.moves)) l.fn.steps l.steps
