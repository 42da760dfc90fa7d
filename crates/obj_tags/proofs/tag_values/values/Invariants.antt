use Rattle.std.proofs.Common.{◌≡◌, ◌≤◌, ◌++◌, ◌+◌, length, map, take, drop}
use Rattle.subdiv_model.specs.ObjFault.{first_cause}
use Rattle.sharpness_rules.specs.View.{sharpness_of}
use Rattle.subdiv_model.specs.ObjTag.{tag_numeral_fault}
use Rattle.obj_tags.specs.TagView.{sharpness_said}
use Rattle.obj_tags.specs.Walk.{words_left}
use Rattle.obj_tags.proofs.tag_values.values.Given as goal

-- what was found, and what the words to come say, is what all words say
abbrev pub invariant-loop-left : goal.invariant-loop-left
invariant-loop-left l = record {
  fault : first_cause (tag_numeral_fault) (take l.left (words_left l.words)) ≡ first_cause (tag_numeral_fault) (take l.fn.count (words_left l.fn.words));
  found : map sharpness_of l.found.items ++ map sharpness_said (take l.left (words_left l.words)) ≡ map sharpness_said (take l.fn.count (words_left l.fn.words));
  rest : drop l.left (words_left l.words) ≡ drop l.fn.count (words_left l.fn.words);
  count : length l.found.items + l.left ≡ l.fn.count;
  inside : l.left ≤ length (words_left l.words);
}

abbrev pub decreases-loop-left : goal.decreases-loop-left
decreases-loop-left l = l.left
