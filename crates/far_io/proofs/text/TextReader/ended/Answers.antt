use Rattle.std.proofs.Common.{ap, ◌∙◌}
use Rattle.far_io.specs.Text.{passed}
use Rattle.far_io.proofs.TextLemmas.{before-place}
use Rattle.far_io.proofs.text.TextReader.ended.Goals as goal

pub returns-clause-before : goal.returns-clause-before
returns-clause-before c = before-place c.self.invariant ∙ ap passed c.self.view_is
