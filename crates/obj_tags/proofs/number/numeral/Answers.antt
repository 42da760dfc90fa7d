use Rattle.obj_tags.proofs.NumberLemmas.{kept-in-range}
use Rattle.obj_tags.proofs.number.numeral.Goals as goal

pub returns-in-Ok : goal.returns-in-Ok
returns-in-Ok c =
    let cases = c.in-Ok.ensures.cases in
    let small = c.in-Ok.ensures.small in (
      kept-in-range c.args.word.now cases.0 cases.1,
      record { terms = cases.2; decimals = cases.3; short = small.0; positive = small.1; bounded = small.2 },
    )
