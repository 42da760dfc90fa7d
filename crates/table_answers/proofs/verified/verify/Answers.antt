use Rattle.std.proofs.Common.{take, ◌∙◌}
use Rattle.far_model.specs.Answer.{answer_of_verify}
use Rattle.table_answers.specs.Answers.{IsReplyOf}
use Rattle.table_answers.proofs.LineLemmas.{rest-of}
use Rattle.table_answers.proofs.VerifyLemmas.{agreement-rows, compared-answer, handed-refusal, no-numbers, table-refused, verify-steps}
use Rattle.table_answers.proofs.verified.verify.Goals as goal

pub returns-in_err-stored : goal.returns-in_err-stored
returns-in_err-stored g c =
    let place = c.place_of_table-place.result in
    let at = c.place_of_table-place.ensures in
    let steps = c.own_table.ensures.steps in
    record {
      reply =
          handed-refusal (IsReplyOf (answer_of_verify c.args.depth c.args.bytes.now)) _ c.in_err-stored.field-0.0 (answer_of_verify c.args.depth c.args.bytes.now).refusal
          c.from_residual-in_err-stored.ensures.0 c.from_residual-in_err-stored.ensures.1
          (table-refused c.args.bytes.now c.args.depth place at _ at.mesh c.in_ok-own.own c.in_ok-own.ensures.own _ place.lines c.in_err-stored.field-0.0 (rest-of c.args.bytes.now place.start ∙ at.table) at.lines c.in_err-stored.ensures);
      numbers = no-numbers _ _ c.from_residual-in_err-stored.ensures.0;
      steps = verify-steps _ c.args.bytes.now (take place.start c.args.bytes.now) c.args.depth c.args.steps.now c.own_table.new.steps at.mesh steps.later steps.most;
    }

pub returns : goal.returns
returns g c =
    let place = c.place_of_table-place.result in
    let at = c.place_of_table-place.ensures in
    let steps = c.own_table.ensures.steps in
    record {
      reply = compared-answer c.args.bytes.now c.args.depth place at _ at.mesh c.in_ok-own.own c.in_ok-own.ensures.own _ c.in_ok-stored.stored _ (rest-of c.args.bytes.now place.start ∙ at.table) c.in_ok-stored.ensures c.compare_and_drop.ensures.answer;
      numbers = agreement-rows c.args.bytes.now c.args.depth place at _ at.mesh c.in_ok-own.own c.in_ok-own.ensures.own _ c.compare_and_drop.ensures.rows;
      steps = verify-steps _ c.args.bytes.now (take place.start c.args.bytes.now) c.args.depth c.args.steps.now c.own_table.new.steps at.mesh steps.later steps.most;
    }
