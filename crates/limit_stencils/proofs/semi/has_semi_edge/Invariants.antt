use Rattle.std.proofs.Common.{◌≡◌, take}
use Rattle.std.specs.List.{list_any}
use Rattle.subdiv_model.specs.Sharpness.{is_semi_sharp}
use Rattle.mask_rules.specs.Around.{ring_in}
use Rattle.limit_stencils.proofs.semi.has_semi_edge.Given as goal

-- whether one of the edges so far is
abbrev pub invariant-loop-e : goal.invariant-loop-e
invariant-loop-e l = l.semi ≡ list_any is_semi_sharp (take l.e-index (ring_in l.level l.v))
