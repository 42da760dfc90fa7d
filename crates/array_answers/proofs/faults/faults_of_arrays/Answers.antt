use Rattle.std.proofs.lemmas.Result.{MatchResult-weaker}
use Rattle.array_answers.proofs.AnswerLemmas.{faults-found, no-memory}
use Rattle.array_answers.proofs.faults.faults_of_arrays.Goals as goal

pub returns : goal.returns
returns c =
    MatchResult-weaker c.listed.result c.listed.ensures
    (λ faults listed. faults-found c.args.arrays.now c.in-Ok.mesh faults.items c.in-Ok.ensures listed)
    (λ found is. no-memory c.args.arrays.now found is)
