use Rattle.std.proofs.Common.{◌≡◌, ℕ, ◌^◌, ◌+◌, ◌≤◌, List, length}
use Rattle.far_engine.specs.MeshPart.{IsMeshLines}
use Rattle.far_engine.proofs.mesh_part.seek_frames.Given as goal

-- these lines were read, and each took at least one byte
abbrev pub invariant-loop-end : goal.invariant-loop-end
invariant-loop-end g l = record {
  lines : List (List ℕ);
  read : IsMeshLines g.S.Source l.fn.source l.source l.text lines;
  numbered : l.number ≡ length lines;
  counted : l.number + (length l.text.pending + l.text.allowed) ≤ 2 ^ 28;
  few : length l.text.pending ≤ 4096;
}

abbrev pub decreases-loop-end : goal.decreases-loop-end
decreases-loop-end g l = length l.text.pending + l.text.allowed
