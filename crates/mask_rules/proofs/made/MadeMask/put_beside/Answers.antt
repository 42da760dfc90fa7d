use Rattle.std.proofs.Common.{ap, arith, ◌*◌}
use Rattle.subdiv_model.specs.Mask.{Mask}
use Rattle.mask_rules.proofs.MadeLemmas.{seen-four}
use Rattle.mask_rules.proofs.made.MadeMask.put_beside.Goals as goal

pub returns : goal.returns
returns c =
    ap (λ terms. let m : Mask = record { terms = terms; denominator = 4 * c.args.part.1 } in m)
    (seen-four c.self.inside.terms c.point.result c.point-2.result c.face_point.result c.face_point-2.result _ _ _ _ (omega arith)
    c.point.ensures c.point-2.ensures c.face_point.ensures c.face_point-2.ensures)
