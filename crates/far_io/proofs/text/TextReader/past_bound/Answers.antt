use Rattle.far_io.proofs.TextLemmas.{too-long}
use Rattle.far_io.proofs.text.TextReader.past_bound.Goals as goal

pub returns-then-branch-clause-reads : goal.returns-then-branch-clause-reads
returns-then-branch-clause-reads g c =
    too-long _ _ _ c.requires.none c.requires.plain c.requires.between_lines (c.in_ok-has_more_input.ensures.came c.if-branch.true) c.has_more_input.ensures.later
