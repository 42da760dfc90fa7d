use Rattle.std.proofs.Common.{◌≡◌, false, get_or, rules, sym, ◌∙◌}
use Rattle.stencil_session.proofs.MarksLemmas.{view-put, marks-more, room}
use Rattle.stencil_session.proofs.marks.Marks.mark.Goals as goal

pub overflow_add-self : goal.overflow_add-self
overflow_add-self c =
    let unmarked : get_or c.args.self.now c.args.number false ≡ false = sym c.is_marked.ensures ∙ c.if-not-is_marked.true in
    search (rules, room, unmarked)

pub invariant_of-self : goal.invariant_of-self
invariant_of-self c =
    let unmarked : get_or c.args.self.now c.args.number false ≡ false = sym c.is_marked.ensures ∙ c.if-not-is_marked.true in
    search (rules, marks-more, unmarked)

pub returns-then-not-is_marked : goal.returns-then-not-is_marked
returns-then-not-is_marked c = search (rules, view-put)
