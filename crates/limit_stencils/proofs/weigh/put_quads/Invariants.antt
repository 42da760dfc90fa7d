use Rattle.std.proofs.Common.{◌≡◌, take}
use Rattle.std.specs.List.{flat_map}
use Rattle.mask_rules.specs.Around.{faces_in}
use Rattle.limit_stencils.specs.AtVertex.{face_terms, with_terms}
use Rattle.limit_stencils.proofs.weigh.put_quads.Given as goal

-- the terms of the quads so far
abbrev pub invariant-loop-i : goal.invariant-loop-i
invariant-loop-i l = l.weights ≡ with_terms l.initial.weights (flat_map (face_terms l.level.level.polygons l.v) (take l.i (faces_in l.level l.v)))
