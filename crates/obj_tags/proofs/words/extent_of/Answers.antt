use Rattle.std.proofs.Common.{◌≡◌, arith, ap, length, ◌∙◌}
use Rattle.subdiv_model.specs.ObjLine.{line_words}
use Rattle.subdiv_model.specs.ReadObj.{is_continued}
use Rattle.obj_tags.specs.Walk.{words_left}
use Rattle.obj_tags.proofs.SplitLemmas.{few-words, continued-start}
use Rattle.obj_tags.proofs.words.extent_of.Goals as goal

pub loop-word-init : goal.loop-word-init
loop-word-init c =
    let all : length (words_left c.words_of-words.result) ≡ length (line_words c.args.line.now) = ap length c.words_of-words.ensures in
    record {
      len = omega (arith, all);
      few = omega (arith, few-words c.args.line.now, c.requires);
      continued = continued-start (words_left c.words_of-words.result) ∙ ap is_continued c.words_of-words.ensures;
    }
