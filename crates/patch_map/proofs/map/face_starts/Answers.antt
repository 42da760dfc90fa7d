use Rattle.std.proofs.Common.{arith, ℕ}
use Rattle.subdiv_model.specs.Sparse.{child_number}
use Rattle.patch_map.proofs.PlaceLemmas.{more-of-range}
use Rattle.patch_map.proofs.map.face_starts.Goals as goal

pub loop-f-preserved : goal.loop-f-preserved
loop-f-preserved c =
    more-of-range (λ (f : ℕ). child_number c.args.level.now.level.polygons (f, 0)) c.loop-f.f c.loop-f.starts.items c.push.new.self.items c.from.result c.loop-f.invariant c.in_ok-push.ensures.items
    (omega (arith, c.from.ensures, c.first_child_of.ensures))
