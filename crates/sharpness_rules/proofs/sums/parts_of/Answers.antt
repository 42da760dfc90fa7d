use Rattle.sharpness_rules.proofs.PartLemmas.{parts-bounded}
use Rattle.sharpness_rules.proofs.sums.parts_of.Goals as goal

pub returns-clause-bounded : goal.returns-clause-bounded
returns-clause-bounded c = rw (c.num.ensures, c.den.ensures) (parts-bounded (c.args.value.num, c.args.value.den) c.args.den c.args.value.below)
