use Rattle.std.proofs.Common.{◌∙◌, sym, arith}
use Rattle.mesh_check.proofs.CountLemmas.{size-some, size-none, point-count}
use Rattle.mesh_check.proofs.counts.size_fault.Goals as goal

pub returns-in-Some : goal.returns-in-Some
returns-in-Some c =
    size-some c.args.raw.now c.in-Some.found (omega (arith, c.if-points-gt-MESH_LIMIT.false, point-count _ _ c.points-points.ensures)) (omega (arith, c.if-faces-gt-MESH_LIMIT.false, c.faces-faces.ensures))
    (sym c.large_face.ensures ∙ c.in-Some.is)

pub returns-in-None : goal.returns-in-None
returns-in-None c =
    size-none c.args.raw.now (omega (arith, c.if-points-gt-MESH_LIMIT.false, point-count _ _ c.points-points.ensures)) (omega (arith, c.if-faces-gt-MESH_LIMIT.false, c.faces-faces.ensures))
    (sym c.large_face.ensures ∙ c.in-None.is)
