use Rattle.std.proofs.Common.{◌≡◌, take}
use Rattle.subdiv_model.specs.Sparse.{corners_of}
use Rattle.sparse_level.proofs.corners.copy_corners.Given as goal

-- the corners of the faces so far
abbrev pub invariant-loop-f : goal.invariant-loop-f
invariant-loop-f l = l.corners.items ≡ corners_of (take l.f l.level.level.polygons)
