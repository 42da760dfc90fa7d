use Rattle.std.proofs.Common.{◌≡◌, ◌+◌, ◌≤◌, ◌++◌, length, take}
use Rattle.subdiv_model.specs.Mask.{weigh_faces}
use Rattle.mask_rules.specs.Spread.{positive}
use Rattle.mask_rules.specs.Around.{faces_in}
use Rattle.mask_rules.proofs.made.MadeMask.put_faces.Given as goal

-- the faces so far
abbrev pub invariant-loop-f : goal.invariant-loop-f
invariant-loop-f l = record {
  terms : l.self.terms ≡ l.initial.self.terms ++ positive (weigh_faces 1 (take l.f-index (faces_in l.level l.v)));
  few : length l.self.terms ≤ length l.initial.self.terms + l.f-index;
  denominator : l.self.denominator ≡ l.initial.self.denominator;
}
