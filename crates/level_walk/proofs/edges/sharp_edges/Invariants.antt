use Rattle.std.proofs.Common.{◌≡◌, take}
use Rattle.std.specs.List.{count_by}
use Rattle.subdiv_model.specs.Edges.{edges_of}
use Rattle.subdiv_model.specs.Text.{is_written_crease}
use Rattle.level_walk.proofs.edges.sharp_edges.Given as goal

-- the edges so far
abbrev pub invariant-loop-e : goal.invariant-loop-e
invariant-loop-e l = l.count ≡ count_by (is_written_crease l.level.level) (take l.e (edges_of l.level.level.polygons))
