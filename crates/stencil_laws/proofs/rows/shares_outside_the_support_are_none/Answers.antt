use Rattle.stencil_laws.proofs.OutsideLemmas.{share-outside}
use Rattle.stencil_laws.proofs.MeanShareLemmas.{share-above, share-total}
use Rattle.stencil_laws.proofs.SupportSumLemmas.{support-total, manifold-above, manifold-total}
use Rattle.stencil_laws.proofs.rows.shares_outside_the_support_are_none.Goals as goal

pub returns-clause-outside : goal.returns-clause-outside
returns-clause-outside c = λ p. share-outside p.level p.scheme p.steps p.number

pub returns-clause-inside : goal.returns-clause-inside
returns-clause-inside c = λ p. share-above p.level p.scheme p.steps p.number

pub returns-clause-total : goal.returns-clause-total
returns-clause-total c = λ p. share-total p.level p.scheme p.steps p.number

pub returns-clause-total_of_support : goal.returns-clause-total_of_support
returns-clause-total_of_support c = λ p. support-total p.level p.scheme p.steps p.number

pub returns-clause-manifold_inside : goal.returns-clause-manifold_inside
returns-clause-manifold_inside c = λ p v is. manifold-above p.level p.scheme p.steps p.number is.formed is.manifold is.sharp_boundary v

pub returns-clause-manifold_total_of_support : goal.returns-clause-manifold_total_of_support
returns-clause-manifold_total_of_support c = λ p is. manifold-total p.level p.scheme p.steps p.number is.formed is.manifold is.sharp_boundary
