use Rattle.std.proofs.Common.{arith, ap, ◌∙◌, ◌++◌, length, length-append, decimal}
use Rattle.std.proofs.lemmas.Fmt.{length-decimal-le}
use Rattle.number_laws.proofs.DecimalLemmas.{decimal-number_text}
use Rattle.obj_out.proofs.waiting.Waiting.push_number.Goals as goal

pub returns-clause-text : goal.returns-clause-text
returns-clause-text c = c.push_digits.ensures ∙ ap (λ t. c.args.self.now ++ t) (decimal-number_text c.args.n (omega arith))

pub returns-clause-short : goal.returns-clause-short
returns-clause-short c =
    let most = length-decimal-le 20 c.args.n (omega arith) (omega arith) c.ranges.n.fits in
    omega (arith, ap length c.push_digits.ensures, length-append c.args.self.now (decimal c.args.n), most)
