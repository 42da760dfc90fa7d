use Rattle.std.proofs.Common.{◌≡◌, ◌-◌, arith, refl}
use Rattle.obj_text.proofs.numeral.over_tens.Goals as goal

pub returns : goal.returns
returns c =
    let none : c.args.above - c.args.below ≡ 0 = omega arith in
    rw none (omega arith, refl, c.requires, omega arith)
