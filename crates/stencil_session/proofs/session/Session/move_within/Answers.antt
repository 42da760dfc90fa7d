use Rattle.std.proofs.Common.{◌≤◌, arith, ap, ◌∙◌, subst, sym}
use Rattle.subdiv_model.specs.Channel.{number_bound}
use Rattle.ratio128.specs.Numbers.{greatest_amount}
use Rattle.ratio128.specs.declared.point.Point3.{Point3}
use Rattle.stencil_session.specs.Session.{State, rows_with, after_move, numbers_of}
use Rattle.stencil_session.proofs.SessionLemmas.{fits-inside, control-short, control-inside, target-short, column-inside, steps-taken, can-add-column, view-after, kept-after}
use Rattle.stencil_session.proofs.session.Session.move_within.Goals as goal

pub difference-moved-requires-clause-target : goal.difference-moved-requires-clause-target
difference-moved-requires-clause-target g c = target-short c.self.inside.table c.self.inside.columns c.self.inside.controls.items c.self.inside.values.items c.self.inside.marks c.self.invariant c.args.i c.args.value (fits-inside (c.args.i, numbers_of c.args.value) c.self.view_is c.requires)

pub difference-moved-requires-clause-control : goal.difference-moved-requires-clause-control
difference-moved-requires-clause-control g c =
    subst (λ (p : Point3). greatest_amount (numbers_of p) ≤ number_bound) (sym c.index.ensures)
    (control-short c.self.inside.table c.self.inside.columns c.self.inside.controls.items c.self.inside.values.items c.self.inside.marks c.self.invariant c.args.i c.index.result.now (control-inside c.self.inside.table c.self.inside.columns c.self.inside.controls.items c.self.inside.values.items c.self.inside.marks c.self.invariant c.args.i c.args.value (fits-inside (c.args.i, numbers_of c.args.value) c.self.view_is c.requires)))

pub add_column-requires-clause-inside : goal.add_column-requires-clause-inside
add_column-requires-clause-inside g c = column-inside c.self.inside.table c.self.inside.columns c.self.inside.controls.items c.self.inside.values.items c.self.inside.marks c.self.invariant c.args.i c.args.value (fits-inside (c.args.i, numbers_of c.args.value) c.self.view_is c.requires)

pub add_column-requires-clause-fits : goal.add_column-requires-clause-fits
add_column-requires-clause-fits g c = can-add-column c.self.inside.table c.self.inside.columns c.self.inside.controls.items c.self.inside.values.items c.self.inside.marks c.self.invariant c.args.i c.args.value (fits-inside (c.args.i, numbers_of c.args.value) c.self.view_is c.requires) c.index.result.now c.index.ensures (numbers_of c.difference-moved.result) c.difference-moved.ensures

pub invariant_of-self : goal.invariant_of-self
invariant_of-self g c = kept-after c.self.inside.table c.self.inside.columns c.self.inside.controls.items c.self.inside.values.items c.self.inside.marks c.self.invariant c.args.i c.args.value (fits-inside (c.args.i, numbers_of c.args.value) c.self.view_is c.requires) c.index.result.now c.index.ensures (numbers_of c.difference-moved.result) c.difference-moved.ensures
    c.add_column.new.values.items c.add_column.new.marks c.add_column.ensures.long c.add_column.ensures.values c.add_column.ensures.marks

pub returns-clause-moved : goal.returns-clause-moved
returns-clause-moved g c =
    view-after c.self.inside.table c.self.inside.columns c.self.inside.controls.items c.self.inside.values.items c.self.inside.marks c.self.invariant c.args.i c.args.value (fits-inside (c.args.i, numbers_of c.args.value) c.self.view_is c.requires) c.index.result.now c.index.ensures (numbers_of c.difference-moved.result) c.difference-moved.ensures
    c.add_column.new.values.items c.add_column.new.marks c.add_column.ensures.long c.add_column.ensures.values c.add_column.ensures.marks
    ∙ ap (λ (state : State). after_move state (c.args.i, numbers_of c.args.value)) c.self.view_is

pub returns-clause-steps : goal.returns-clause-steps
returns-clause-steps g c =
    omega (arith, c.add_column.ensures.steps, steps-taken c.self.inside.table c.self.inside.columns c.self.inside.controls.items c.self.inside.values.items c.self.inside.marks c.self.invariant c.args.i c.args.value (fits-inside (c.args.i, numbers_of c.args.value) c.self.view_is c.requires), ap (λ (state : State). rows_with c.args.i state.table) c.self.view_is)
