use Rattle.std.proofs.Common.{arith}
use Rattle.mesh_check.proofs.TurnLemmas.{turns-next, turns-end}
use Rattle.mesh_check.proofs.turns.turns_of_faces.Goals as goal

pub loop-f-preserved : goal.loop-f-preserved
loop-f-preserved c = turns-next c.args.raw.now.faces c.loop-f.f c.face.result.now c.loop-f.turns.items c.add_turns.new.turns.items _ c.face.ensures c.in_ok-add_turns.ensures c.loop-f.invariant

pub returns : goal.returns
returns c = turns-end c.args.raw.now.faces c.loop-f.f c.loop-f.turns.items _ (omega arith) c.loop-f.invariant
