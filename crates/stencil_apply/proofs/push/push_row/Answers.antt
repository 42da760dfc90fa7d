use Rattle.std.proofs.lemmas.Grind.{common_steps}
use Rattle.std.proofs.Common.{arith}
use Rattle.stencil_apply.proofs.BuilderLemmas.{length-shares_of, firsts-shares_of, seconds-shares_of}
use Rattle.stencil_apply.proofs.push.push_row.Goals as goal

-- proved by name, so that the prover refuses a body that breaks it at once
pub returns : goal.returns
returns c =
    let count = length-shares_of c.args.row.now in
    let firsts = firsts-shares_of c.args.row.now in
    let seconds = seconds-shares_of c.args.row.now in
    grind (arith, common_steps)
