use Rattle.std.proofs.Common.{rules}
use Rattle.stencil_session.proofs.MarksLemmas.{taken-inside, taken-below, taken-least, taken-none, view-put, marks-less, some}
use Rattle.stencil_session.proofs.marks.Marks.take_least.Goals as goal

pub returns-then-not-index-clause-least : goal.returns-then-not-index-clause-least
returns-then-not-index-clause-least c = search (rules, taken-none)

pub overflow_sub-self : goal.overflow_sub-self
overflow_sub-self c = search (rules, some)

pub overflow_cast-result : goal.overflow_cast-result
overflow_cast-result c = search (rules, taken-below)

pub invariant_of-self : goal.invariant_of-self
invariant_of-self c = search (rules, marks-less)

pub returns-clause-least : goal.returns-clause-least
returns-clause-least c = search (rules, taken-least)

pub returns-clause-inside : goal.returns-clause-inside
returns-clause-inside c = search (rules, taken-inside)

pub returns-clause-marks : goal.returns-clause-marks
returns-clause-marks c = search (rules, view-put, taken-inside)
