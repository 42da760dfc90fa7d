use Rattle.stencil_laws.proofs.ShareLemmas.{shares-value}
use Rattle.stencil_laws.proofs.SupportSumLemmas.{support-value}
use Rattle.stencil_laws.proofs.rows.shares_make_the_value.Goals as goal

pub returns-clause-all : goal.returns-clause-all
returns-clause-all c = λ p controls. shares-value p.level p.scheme p.steps p.number controls.numbers controls.one_each

pub returns-clause-support : goal.returns-clause-support
returns-clause-support c = λ p controls. support-value p.level p.scheme p.steps p.number controls.numbers controls.one_each
