use Rattle.std.proofs.Common.{◌≡◌, ◌+◌, ◌≤◌, ◌++◌, length, take}
use Rattle.mask_rules.specs.Spread.{end_terms, positive}
use Rattle.mask_rules.specs.Around.{ends_in}
use Rattle.mask_rules.proofs.made.MadeMask.put_ends.Given as goal

-- the terms of the edges so far
abbrev pub invariant-loop-e : goal.invariant-loop-e
invariant-loop-e l = record {
  terms : l.self.terms ≡ l.initial.self.terms ++ positive (end_terms (λ i. 1) 0 (take l.e-index (ends_in l.level l.v)));
  few : length l.self.terms ≤ length l.initial.self.terms + l.e-index;
  denominator : l.self.denominator ≡ l.initial.self.denominator;
}
