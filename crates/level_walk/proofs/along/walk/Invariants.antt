use Rattle.std.proofs.Common.{◌-◌}
use Rattle.level_walk.specs.Walk.{IsWalked, at}
use Rattle.level_walk.proofs.along.walk.Given as goal

-- the place of the walk
abbrev pub invariant-loop-k : goal.invariant-loop-k
invariant-loop-k g l = record {
  ready : g.S.NextLevel.IsReady l.step l.reached.level (l.fn.depth - l.k);
  fits : g.C.Carrier.Fits l.carrier (g.S.NextLevel.level_of l.reached.level) l.reached.carried;
  walked : IsWalked g.S.NextLevel.level_of (g.S.NextLevel.Makes l.step) (g.C.Carrier.Follows l.carrier) g.V.Visitor.Takes (at l.fn.start l.fn.visitor l.fn.steps) l.k (at l.reached l.visitor l.steps);
}
