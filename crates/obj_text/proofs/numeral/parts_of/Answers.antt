use Rattle.std.proofs.Common.{not}
use Rattle.std.proofs.lemmas.List.Sums.{prefix_len-le-length}
use Rattle.subdiv_model.specs.Numeral.{is_exponent_mark}
use Rattle.obj_text.proofs.numeral.parts_of.Goals as goal

pub split_at-requires : goal.split_at-requires
split_at-requires c =
    rw c.decimal_len.ensures (prefix_len-le-length (λ b. not (is_exponent_mark b)) c.split_sign.result.1.now)
