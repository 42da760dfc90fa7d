use Rattle.std.proofs.Common.{◌*◌, ◌^◌, FitsSigned, rules, refl, ap₂, sym, ◌∙◌}
use Rattle.std.specs.Int.{w128}
use Rattle.std.proofs.lemmas.Int.{to_z-of_z}
use Rattle.row_arrays.proofs.GridLemmas.{signed-far, signed-grid}
use Rattle.row_arrays.proofs.amount.rounded_size.Goals as goal

pub returns-in-None : goal.returns-in-None
returns-in-None c =
    signed-far c.args.sign _ _ _ _ (ap₂ (λ m n. m * 2 ^ n) c.parts_of.ensures.significand c.parts_of.ensures.doublings) c.in-None.ensures

pub returns-in-Some : goal.returns-in-Some
returns-in-Some c =
    let fits : FitsSigned w128 c.signed.result = search rules in
    signed-grid c.args.sign _ _ _ _ c.in-Some.amount _ (ap₂ (λ m n. m * 2 ^ n) c.parts_of.ensures.significand c.parts_of.ensures.doublings) c.in-Some.ensures
    (sym (to_z-of_z w128 c.signed.result fits ∙ c.signed.ensures)) refl
