use Rattle.stencil_laws.proofs.SupportLemmas.{values-from-support}
use Rattle.stencil_laws.proofs.rows.values_depend_only_on_supports.Goals as goal

pub returns : goal.returns
returns c = λ p controls others.
    values-from-support p.level p.scheme controls.numbers others.numbers p.steps p.number controls.one_each others.one_each
