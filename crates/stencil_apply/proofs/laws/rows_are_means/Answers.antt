use Rattle.stencil_apply.proofs.MeanLemmas.{row-moved}
use Rattle.stencil_apply.proofs.laws.rows_are_means.Goals as goal

pub returns : goal.returns
returns c = λ sum by. row-moved sum.row sum.controls sum.start by sum.is_row sum.as_many
