use Rattle.std.proofs.Common.{◌<◌, ◌^◌, arith, ◌∙◌}
use Rattle.number_laws.proofs.DecimalLemmas.{decimal-number_text}
use Rattle.text_pieces.proofs.piece.digits.Goals as goal

pub returns : goal.returns
returns c =
    let short : c.args.number < 10 ^ 64 = omega arith in
    c.format.ensures.text ∙ decimal-number_text c.args.number short
