use Rattle.std.proofs.lemmas.Grind.{common_steps}
use Rattle.std.proofs.Common.{◌≡◌, arith, length, map, ◌∙◌}
use Rattle.std.proofs.lemmas.List.{length-map}
use Rattle.std.proofs.lemmas.Slice.Zip.{length-zip, firsts-zip, seconds-zip}
use Rattle.stencil_apply.proofs.push.push_parts.Goals as goal

-- proved by name, so that the prover refuses a body that breaks it at once
pub returns : goal.returns
returns g c =
    let numbers = map g.T.Natural.value c.args.numerators.now in
    let equal : length (map g.T.Natural.value c.args.numerators.now) ≡ length c.args.indices.now = length-map c.args.numerators.now g.T.Natural.value ∙ c.requires.equal in
    let count = length-zip c.args.indices.now numbers in
    let firsts = firsts-zip c.args.indices.now numbers equal in
    let seconds = seconds-zip c.args.indices.now numbers equal in
    grind (arith, common_steps)
