use Rattle.std.proofs.Common.{◌≡◌, false, take}
use Rattle.std.specs.List.{list_any}
use Rattle.level_topology.specs.Topology.{edge_at}
use Rattle.patch_bspline.specs.Around.{is_marked}
use Rattle.patch_bspline.proofs.regular.has_marked_edge.Given as goal

-- none of the edges so far
abbrev pub invariant-loop-e : goal.invariant-loop-e
invariant-loop-e l = list_any (λ e. is_marked l.level.level (edge_at l.level.level.polygons e)) (take l.e-index l.e-items) ≡ false
