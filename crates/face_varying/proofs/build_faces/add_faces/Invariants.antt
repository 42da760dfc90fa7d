use Rattle.std.proofs.Common.{◌≡◌, ◌+◌, take}
use Rattle.mesh_check.specs.Base.{smooth_built}
use Rattle.face_varying.specs.Built.{cut_by}
use Rattle.face_varying.proofs.build_faces.add_faces.Given as goal

-- the faces before this one are there
abbrev pub invariant-loop-f : goal.invariant-loop-f
invariant-loop-f g l = record {
  faces : l.builder ≡ smooth_built l.fn.builder.level.point_count l.fn.builder.level.method (take l.f (cut_by l.level.level.polygons l.numbers)) (take l.f l.level.level.holes);
  steps : l.steps ≡ l.fn.steps + l.f;
}
