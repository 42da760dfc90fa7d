use Rattle.std.proofs.Common.{◌≡◌, ◌+◌, ◌^◌, ◌≤◌, length}
use Rattle.subdiv_model.specs.ObjLine.{line_words}
use Rattle.subdiv_model.specs.ReadObj.{is_continued}
use Rattle.obj_tags.specs.Walk.{words_left, continued_from}
use Rattle.obj_tags.proofs.words.extent_of.Given as goal

-- what the words so far and those to come say is what all words say
abbrev pub invariant-loop-word : goal.invariant-loop-word
invariant-loop-word l = record {
  len : l.len + length (words_left l.words) ≡ length (line_words l.line);
  few : length (line_words l.line) ≤ 2 ^ 28 + 1;
  continued : continued_from l.continued (words_left l.words) ≡ is_continued (line_words l.line);
}

abbrev pub decreases-loop-word : goal.decreases-loop-word
decreases-loop-word l = length (words_left l.words)
