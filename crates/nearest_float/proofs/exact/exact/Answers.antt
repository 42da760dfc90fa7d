use Rattle.std.proofs.Common.{rules, ap₂, ◌∙◌, ◌*◌, ◌^◌, FitsSigned}
use Rattle.std.specs.Int.{w128}
use Rattle.std.proofs.lemmas.Int.{to_z-of_z}
use Rattle.nearest_float.proofs.SignLemmas.{signed-result}
use Rattle.nearest_float.proofs.exact.exact.Goals as goal

pub returns-in-Some : goal.returns-in-Some
returns-in-Some c =
    let fits : FitsSigned w128 c.signed.result = search rules in
    signed-result c.args.sign _ _ _ c.in-Some.amount c.in-Some.den _ c.terms_of.result
    (ap₂ (λ m n. m * 2 ^ n) c.parts_of.ensures.significand c.parts_of.ensures.doublings) c.terms_of.ensures c.in-Some.is
    (to_z-of_z w128 c.signed.result fits ∙ c.signed.ensures)
