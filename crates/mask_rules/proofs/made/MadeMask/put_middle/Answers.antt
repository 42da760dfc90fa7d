use Rattle.std.proofs.Common.{ap, arith}
use Rattle.subdiv_model.specs.Mask.{Mask}
use Rattle.mask_rules.proofs.MadeLemmas.{seen-two}
use Rattle.mask_rules.proofs.made.MadeMask.put_middle.Goals as goal

pub returns : goal.returns
returns c =
    ap (λ terms. let m : Mask = record { terms = terms; denominator = 2 } in m)
    (seen-two c.self.inside.terms c.point.result c.point-2.result _ _ (omega arith) c.point.ensures c.point-2.ensures)
