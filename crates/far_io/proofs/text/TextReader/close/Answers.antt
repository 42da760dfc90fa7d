use Rattle.std.proofs.Common.{ap, sym, refl, rules, arith, ◌∙◌}
use Rattle.far_io.specs.Text.{TextInput, passed}
use Rattle.far_io.proofs.TextLemmas.{before-place, text-plain, text-closed, text-end}
use Rattle.far_io.proofs.text.TextReader.close.Goals as goal

pub invariant_of-self : goal.invariant_of-self
invariant_of-self c =
    (text-plain c.self.invariant (ap (λ (r : TextInput). r.pending) c.self.view_is) (sym c.in_default.is ∙ c.next_lf.ensures)
    (search rules)).0

pub returns-in_default-clause-plain : goal.returns-in_default-clause-plain
returns-in_default-clause-plain c = λ _.
    (text-plain c.self.invariant (ap (λ (r : TextInput). r.pending) c.self.view_is) (sym c.in_default.is ∙ c.next_lf.ensures) refl).1

pub returns-in_default-clause-before : goal.returns-in_default-clause-before
returns-in_default-clause-before c = before-place c.self.invariant ∙ ap passed c.self.view_is

pub returns-clause-closed : goal.returns-clause-closed
returns-clause-closed c = λ _. text-closed c.self.inside.text.items _ c.self.inside.from _
    (ap (λ (r : TextInput). r.pending) c.self.view_is) (sym c.in-Some.is ∙ c.next_lf.ensures)

pub returns-clause-end : goal.returns-clause-end
returns-clause-end c = λ _. text-end c.self.inside.text.items _ c.self.inside.from _ _
    (ap (λ (r : TextInput). r.pending) c.self.view_is) (sym c.in-Some.is ∙ c.next_lf.ensures) (omega arith)

pub returns-clause-before : goal.returns-clause-before
returns-clause-before c = before-place c.self.invariant ∙ ap passed c.self.view_is
