use Rattle.std.proofs.Common.{◌≡◌, length}
use Rattle.subdiv_model.specs.ObjFault.{first_cause}
use Rattle.subdiv_model.specs.ObjWord.{numeral_fault}
use Rattle.obj_tags.specs.Walk.{words_left}
use Rattle.obj_tags.proofs.channel.drop_numerals.Given as goal

-- the first fault is among the words to come
abbrev pub invariant-loop-word : goal.invariant-loop-word
invariant-loop-word l = first_cause numeral_fault (words_left l.words) ≡ first_cause numeral_fault (words_left l.fn.words)

abbrev pub decreases-loop-word : goal.decreases-loop-word
decreases-loop-word l = length (words_left l.words)
