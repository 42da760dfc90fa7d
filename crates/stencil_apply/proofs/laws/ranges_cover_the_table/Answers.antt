use Rattle.stencil_apply.proofs.RangeLemmas.{ranges-meet, range-whole}
use Rattle.stencil_apply.proofs.laws.ranges_cover_the_table.Goals as goal

pub returns-clause-together : goal.returns-clause-together
returns-clause-together c = ranges-meet

pub returns-clause-whole : goal.returns-clause-whole
returns-clause-whole c = range-whole
