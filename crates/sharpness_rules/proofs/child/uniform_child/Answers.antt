use Rattle.std.proofs.Common.{◌≡◌, ◌∙◌, ◌-◌, ◌*◌, arith, ap}
use Rattle.subdiv_model.specs.Sharpness.{sharpness_of_fraction}
use Rattle.sharpness_rules.proofs.child.uniform_child.Goals as goal

pub returns-in-Semi : goal.returns-in-Semi
returns-in-Semi c =
    let value = c.in-Semi.value in
    let num : c.lessened.result ≡ value.num * 1 - 1 * value.den = omega (arith, c.lessened.ensures) in
    let den : c.den.result ≡ value.den * 1 = omega (arith, c.den.ensures) in
    rw c.in-Semi.is (c.new.ensures ∙ ap (λ n. sharpness_of_fraction (n, c.den.result)) num ∙ ap (λ n. sharpness_of_fraction (value.num * 1 - 1 * value.den, n)) den)
