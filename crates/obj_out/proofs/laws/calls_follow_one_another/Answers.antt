use Rattle.obj_out.proofs.TextSoFarLemmas.{text-more, prefix-more}
use Rattle.obj_out.proofs.PutsLemmas.{longer, prefix-at-end}
use Rattle.obj_out.proofs.laws.calls_follow_one_another.Goals as goal

pub returns-clause-put : goal.returns-clause-put
returns-clause-put c = λ call. text-more call.start call.old call.new call.waited call.waits call.before call.text call.so_far call.put

pub returns-clause-failed : goal.returns-clause-failed
returns-clause-failed c = prefix-more

pub returns-clause-unfinished : goal.returns-clause-unfinished
returns-clause-unfinished c = prefix-at-end

pub returns-clause-more : goal.returns-clause-more
returns-clause-more c = longer
