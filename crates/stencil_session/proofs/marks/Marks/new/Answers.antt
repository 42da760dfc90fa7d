use Rattle.std.proofs.Common.{rules}
use Rattle.stencil_session.proofs.MarksLemmas.{view-none, marks-none}
use Rattle.stencil_session.proofs.marks.Marks.new.Goals as goal

pub invariant_of-result : goal.invariant_of-result
invariant_of-result c =
    marks-none c.args.len c.next_power_of_two-leaves.result c.in_ok-vec.field-0.items c.next_power_of_two-leaves.ensures.power c.ranges.len.fits c.next_power_of_two-leaves.ensures.lower_bound (search rules)

pub returns : goal.returns
returns c = view-none c.args.len c.next_power_of_two-leaves.result c.in_ok-vec.field-0.items c.next_power_of_two-leaves.ensures.lower_bound (search rules)
