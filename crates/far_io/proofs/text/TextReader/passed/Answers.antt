use Rattle.std.proofs.Common.{take, ap, ◌∙◌}
use Rattle.far_io.specs.Text.{passed}
use Rattle.far_io.proofs.TextLemmas.{before-place}
use Rattle.far_io.proofs.text.TextReader.passed.Goals as goal

pub returns : goal.returns
returns c = ap (take c.self.inside.from) c.deref.ensures.value ∙ before-place c.self.invariant ∙ ap passed c.self.view_is
