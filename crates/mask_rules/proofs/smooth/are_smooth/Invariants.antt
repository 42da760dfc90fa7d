use Rattle.std.proofs.Common.{◌≡◌, false, take, get_or, map}
use Rattle.std.specs.List.{list_any}
use Rattle.subdiv_model.specs.Sharpness.{Smooth, is_sharp}
use Rattle.mask_rules.proofs.smooth.are_smooth.Given as goal

-- none of the edges so far
abbrev pub invariant-loop-e : goal.invariant-loop-e
invariant-loop-e l = list_any is_sharp (map (λ e. get_or l.level.level.edge_sharpness e Smooth) (take l.e-index l.e-items)) ≡ false
