use Rattle.std.proofs.Common.{sym}
use Rattle.obj_tags.proofs.PlainLemmas.{word-wide, word-over}
use Rattle.obj_tags.proofs.survey.with_word.Goals.{then-is_some-via-then-is_some, then-is_some-via-else-is_some+then-is_over}
use Rattle.obj_tags.proofs.survey.with_word.Goals as goal

pub returns-then-is_some-clause-with : goal.returns-then-is_some-clause-with
returns-then-is_some-clause-with c =
    elim c.then-is_some.branch [
      | then-is_some-via-then-is_some w ↦ word-wide c.args.number c.args.common c.args.word.now c.requires.bounded.short (sym w.if-is_some.ensures)
      | then-is_some-via-else-is_some+then-is_over w ↦ word-over c.args.number c.args.common c.args.word.now c.requires.bounded.short (w.is_over.ensures w.if-is_over.true)
    ]
