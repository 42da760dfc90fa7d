use Rattle.std.proofs.Common.{◌≡◌, take}
use Rattle.std.specs.List.{fold}
use Rattle.obj_tags.specs.Survey.{IsBounded, with_word}
use Rattle.obj_tags.specs.Walk.{words_left}
use Rattle.obj_tags.proofs.survey.with_words.Given as goal

-- the words to come bring what all words bring
abbrev pub invariant-loop-left : goal.invariant-loop-left
invariant-loop-left l = record {
  with : fold (with_word l.number) l.common (take l.left (words_left l.words)) ≡ fold (with_word l.number) l.fn.common (take l.fn.most (words_left l.fn.words));
  bounded : IsBounded l.common;
}

abbrev pub decreases-loop-left : goal.decreases-loop-left
decreases-loop-left l = l.left
