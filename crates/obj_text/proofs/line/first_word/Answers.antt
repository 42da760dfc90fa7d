use Rattle.std.proofs.Common.{◌≡◌, ◌<◌, false, length, sym, ◌∙◌}
use Rattle.subdiv_model.specs.ObjLine.{opens_comment}
use Rattle.obj_text.proofs.LineLemmas.{words-first, some_bytes}
use Rattle.obj_text.proofs.line.first_word.Goals as goal

pub returns-then-not-is_empty : goal.returns-then-not-is_empty
returns-then-not-is_empty c =
    let other : opens_comment c.first_run.result.0.now ≡ false = sym c.is_comment.ensures ∙ c.if-is_comment.false in
    let some : 0 < length c.first_run.result.0.now = some_bytes _ _ c.is_empty-in-loop-rest.ensures c.if-not-is_empty.true in
    sym c.loop-rest.invariant
    ∙ words-first c.loop-rest.rest.now c.first_run.result.0.now c.first_run.result.1.now c.first_run.ensures.run c.first_run.ensures.rest some other
