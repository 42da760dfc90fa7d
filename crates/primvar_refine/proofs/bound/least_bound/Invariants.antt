use Rattle.std.proofs.Common.{◌≡◌, ◌≤◌, take}
use Rattle.subdiv_model.specs.Channel.{number_bound}
use Rattle.primvar_refine.specs.Rows.{least_bound}
use Rattle.primvar_refine.specs.View.{rows_of}
use Rattle.primvar_refine.proofs.bound.least_bound.Given as goal

-- the bound of the values so far
abbrev pub invariant-loop-value : goal.invariant-loop-value
invariant-loop-value g l = record {
  exact : l.bound ≡ least_bound (take l.value-index (rows_of g.P.Primvar.numbers l.values));
  short : l.bound ≤ number_bound;
}
