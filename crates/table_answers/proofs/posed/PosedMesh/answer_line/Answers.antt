use Rattle.std.proofs.Common.{sym, subst, rules}
use Rattle.table_answers.specs.FramesKept.{CanStandOver}
use Rattle.table_answers.proofs.FrameAnswerLemmas.{empty-line, bad-line, go-line, move-line}
use Rattle.table_answers.proofs.posed.PosedMesh.answer_line.Goals as goal

pub invariant_of-self-in-Ok-Go : goal.invariant_of-self-in-Ok-Go
invariant_of-self-in-Ok-Go g c = subst (CanStandOver c.self.inside.common) (sym c.answer_go.ensures.table) c.self.invariant

pub returns-in-Ok-Empty-clause-answers : goal.returns-in-Ok-Empty-clause-answers
returns-in-Ok-Empty-clause-answers g c mesh before is =
    empty-line g.K.Sink mesh before c.args.number c.args.line.now c.self.inside.session c.self.inside.common c.self.inside.depth c.args.self.now c.self.view_is is
    c.controls.result c.controls.ensures c.args.sink.now c.args.steps.now c.in-Ok-Empty.field-0 c.in-Ok-Empty.ensures c.in-Ok-Empty.field-0-is

pub returns-in-Ok-Move-clause-answers : goal.returns-in-Ok-Move-clause-answers
returns-in-Ok-Move-clause-answers g c mesh before is =
    move-line g.K.Sink mesh before c.args.number c.args.line.now c.self.inside.session c.self.inside.common c.self.inside.depth c.args.self.now c.self.view_is is
    c.controls.result c.controls.ensures c.move_control.new.session c.args.sink.now c.move_control.result c.args.steps.now c.move_control.new.steps
    c.in-Ok-Move.field-0 c.in-Ok-Move.index c.in-Ok-Move.point c.in-Ok-Move.ensures c.in-Ok-Move.field-0-is c.move_control.ensures

pub returns-in-Ok-Go-clause-answers : goal.returns-in-Ok-Go-clause-answers
returns-in-Ok-Go-clause-answers g c mesh before is =
    go-line g.K.Sink mesh before c.args.number c.args.line.now c.self.inside.session c.self.inside.common c.self.inside.depth c.args.self.now c.self.view_is is
    c.controls.result c.controls.ensures c.answer_go.new.session c.args.sink.now c.answer_go.new.sink c.answer_go.result c.args.steps.now
    c.in-Ok-Go.field-0 c.in-Ok-Go.ensures c.in-Ok-Go.field-0-is c.answer_go.ensures.text c.answer_go.ensures.session c.answer_go.ensures.fault

pub returns-in-Err-clause-answers : goal.returns-in-Err-clause-answers
returns-in-Err-clause-answers g c mesh before is =
    bad-line g.K.Sink mesh before c.args.number c.args.line.now c.self.inside.session c.self.inside.common c.self.inside.depth c.args.self.now c.self.view_is is
    c.controls.result c.controls.ensures c.in-Err.cause c.args.sink.now c.args.steps.now c.in-Err.ensures
    _ (search rules)
