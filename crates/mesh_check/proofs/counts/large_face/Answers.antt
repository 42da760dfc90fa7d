use Rattle.std.proofs.Common.{◌∙◌, sym}
use Rattle.mesh_check.proofs.CountLemmas.{large-found, large-passed}
use Rattle.mesh_check.proofs.counts.large_face.Goals as goal

pub returns-then-size-gt-SIZE_LIMIT : goal.returns-then-size-gt-SIZE_LIMIT
returns-then-size-gt-SIZE_LIMIT c =
    sym (large-found c.args.raw.now.faces c.loop-f.f c.face-size.result.now c.face-size.ensures c.if-size-gt-SIZE_LIMIT.true) ∙ c.loop-f.invariant

pub loop-f-preserved : goal.loop-f-preserved
loop-f-preserved c =
    sym (large-passed c.args.raw.now.faces c.loop-f.f c.face-size.result.now c.face-size.ensures c.if-size-gt-SIZE_LIMIT.false) ∙ c.loop-f.invariant
