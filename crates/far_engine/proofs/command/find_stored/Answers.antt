use Rattle.std.proofs.Common.{sym, subst}
use Rattle.far_model.specs.Command.{Apply, Stored, Verify}
use Rattle.far_words.specs.View.{stored_of_code}
use Rattle.far_engine.specs.Input.{FindsReply}
use Rattle.far_engine.proofs.InputLemmas.{finds-fault, finds-stored, handed-on}
use Rattle.far_engine.proofs.command.find_stored.Goals as goal

pub returns-in_err-bytes : goal.returns-in_err-bytes
returns-in_err-bytes g c =
    let command = Stored (stored_of_code c.args.command.now) in
    handed-on (λ r. FindsReply g.S.Source command c.args.source.now c.bytes_of.new.source r c.args.steps.now c.args.steps.now) _ _
    c.from_residual.ensures.0 c.from_residual.ensures.1
    (finds-fault g.S.Source command tt c.args.source.now c.bytes_of.new.source c.in_err-bytes.field-0.0 c.args.steps.now (c.in_err-bytes.ensures.fault command tt))

pub returns-in-Verify : goal.returns-in-Verify
returns-in-Verify g c =
    let read = c.in_ok-bytes.ensures in
    subst (λ k. FindsReply g.S.Source (Stored (stored_of_code k)) c.args.source.now c.bytes_of.new.source c.verify.result c.args.steps.now c.verify.new.steps) (sym c.in-Verify.is)
    (finds-stored g.S.Source (Verify c.in-Verify.depth) c.args.source.now c.bytes_of.new.source _ read.all read.dry read.short c.bytes_of.ensures.later _ _ _ _ c.deref.ensures.value c.verify.ensures)

pub returns : goal.returns
returns g c =
    let read = c.in_ok-bytes.ensures in
    subst (λ k. FindsReply g.S.Source (Stored (stored_of_code k)) c.args.source.now c.bytes_of.new.source c.apply.result c.args.steps.now c.apply.new.steps) (sym c.in-Apply.is)
    (finds-stored g.S.Source Apply c.args.source.now c.bytes_of.new.source _ read.all read.dry read.short c.bytes_of.ensures.later _ _ _ _ c.deref-in-Apply.ensures.value c.apply.ensures)
