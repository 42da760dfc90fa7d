use Rattle.std.proofs.Common.{arith}
use Rattle.mesh_check.proofs.BaseFaceLemmas.{corners-room, corners-more}
use Rattle.mesh_check.proofs.base.corner_count.Goals as goal

pub overflow_cast-count : goal.overflow_cast-count
overflow_cast-count c = omega (arith, corners-room c.args.raw.now.faces c.loop-f.f c.face.result.now c.face.ensures, c.requires)

pub overflow_add-count : goal.overflow_add-count
overflow_add-count c = omega (arith, corners-room c.args.raw.now.faces c.loop-f.f c.face.result.now c.face.ensures, c.requires, c.loop-f.invariant)

pub loop-f-preserved : goal.loop-f-preserved
loop-f-preserved c = corners-more c.args.raw.now.faces c.loop-f.f c.face.result.now _ c.face.ensures c.loop-f.invariant
