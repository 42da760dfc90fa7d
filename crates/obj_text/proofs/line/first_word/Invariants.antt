use Rattle.std.proofs.Common.{◌≡◌, length}
use Rattle.subdiv_model.specs.ObjLine.{line_words}
use Rattle.obj_text.proofs.line.first_word.Given as goal

abbrev pub invariant-loop-rest : goal.invariant-loop-rest
invariant-loop-rest l = line_words l.rest ≡ line_words l.line

abbrev pub decreases-loop-rest : goal.decreases-loop-rest
decreases-loop-rest l = length l.rest
