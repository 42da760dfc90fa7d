use Rattle.std.proofs.Common.{arith, ap, ◌∙◌, ◌<◌}
use Rattle.std.specs.List.{fold}
use Rattle.std.specs.Prelude.{take, ◌-◌}
use Rattle.obj_tags.specs.Survey.{with_word}
use Rattle.obj_tags.specs.Walk.{words_left}
use Rattle.obj_tags.proofs.DenominatorLemmas.{fold-taken}
use Rattle.obj_tags.proofs.survey.with_words.Goals as goal

pub loop-left-preserved : goal.loop-left-preserved
loop-left-preserved c =
    let some : 0 < c.loop-left.left = omega (arith, c.loop-left-test.true) in
    let next = words_left c.next_word.new.words in
    record {
      with = ap (λ x. fold (with_word c.args.number) x (take (c.loop-left.left - 1) next)) c.with_word-common.ensures.with
          ∙ fold-taken (with_word c.args.number) c.loop-left.common c.loop-left.left c.in-Some.word.now (words_left c.loop-left.words) next some c.in-Some.ensures
          ∙ c.loop-left.invariant.with;
      bounded = c.with_word-common.ensures.bounded;
    }
