use Rattle.std.proofs.Common.{◌≡◌, map, take}
use Rattle.subdiv_model.specs.Edges.{edges_of}
use Rattle.face_varying.specs.Corners.{is_apart}
use Rattle.face_varying.proofs.seams.marks_by.Given as goal

-- the edges before this one have their marks
abbrev pub invariant-loop-edge : goal.invariant-loop-edge
invariant-loop-edge l = l.apart.items ≡ map (is_apart l.raw) (take l.edge (edges_of l.raw.faces))
