use Rattle.std.proofs.Common.{◌*◌, FitsSigned, rules, arith, ap₂, ◌∙◌}
use Rattle.std.specs.Int.{w128}
use Rattle.std.proofs.lemmas.Int.{to_z-of_z}
use Rattle.row_arrays.proofs.FractionLemmas.{good-numerator, good-denominator, abs-below}
use Rattle.row_arrays.proofs.round.fraction_at.Goals as goal

pub overflow_mul-result : goal.overflow_mul-result
overflow_mul-result c =
    let good = good-denominator c.args.fractions.now c.args.place c.requires.inside c.requires.shared c.requires.enough c.requires.denominators in
    record { fits = omega (arith, good.1, ap₂ (λ a b. a * b) c.natural-denominator.ensures c.natural.ensures) }

pub returns-clause-num_fits : goal.returns-clause-num_fits
returns-clause-num_fits c =
    let fits : FitsSigned w128 c.integer.result = search rules in
    abs-below _ _ (to_z-of_z w128 c.integer.result fits ∙ c.integer.ensures) (good-numerator c.args.fractions.now c.args.place c.requires.inside c.requires.numerators)

pub returns-clause-positive : goal.returns-clause-positive
returns-clause-positive c =
    let good = good-denominator c.args.fractions.now c.args.place c.requires.inside c.requires.shared c.requires.enough c.requires.denominators in
    omega (arith, good.0, ap₂ (λ a b. a * b) c.natural-denominator.ensures c.natural.ensures)

pub returns-clause-den_fits : goal.returns-clause-den_fits
returns-clause-den_fits c =
    let good = good-denominator c.args.fractions.now c.args.place c.requires.inside c.requires.shared c.requires.enough c.requires.denominators in
    omega (arith, good.1, ap₂ (λ a b. a * b) c.natural-denominator.ensures c.natural.ensures)
