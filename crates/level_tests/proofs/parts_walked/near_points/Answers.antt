use Rattle.std.proofs.Common.{◌≡◌, arith, rules, sym}
use Rattle.level_tests.proofs.StepLemmas.{near-values}
use Rattle.level_tests.proofs.parts_walked.near_points.Goals as goal

pub returns : goal.returns
returns g c =
    let four : c.len.result ≡ 4 = search rules in
    rw (sym c.deref.ensures.value) (near-values c.deref.result.now (omega (arith, four, c.len.ensures, c.deref.ensures.len)) c.assert_near.ensures)
