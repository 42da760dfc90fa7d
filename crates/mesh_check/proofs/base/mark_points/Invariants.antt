use Rattle.std.proofs.Common.{◌≡◌, ◌++◌, true, drop, replicate}
use Rattle.mesh_check.proofs.base.mark_points.Given as goal

-- the points before this one are marked
abbrev pub invariant-loop-v : goal.invariant-loop-v
invariant-loop-v l = record {
  level : l.builder.level ≡ l.fn.builder.level;
  marks : l.builder.complete ≡ replicate l.v true ++ drop l.v l.fn.builder.complete;
}
