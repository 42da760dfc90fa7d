use Rattle.std.proofs.Common.{◌≡◌, ◌+◌, length, take}
use Rattle.mesh_check.specs.Base.{smooth_built}
use Rattle.mesh_check.proofs.base.add_faces.Given as goal

-- the faces before this one are there
abbrev pub invariant-loop-f : goal.invariant-loop-f
invariant-loop-f g l = record {
  faces : l.builder ≡ smooth_built (length l.raw.points) l.raw.method (take l.f l.raw.faces) (take l.f l.holes);
  steps : l.steps ≡ l.fn.steps + l.f;
}
