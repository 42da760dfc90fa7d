use Rattle.std.proofs.Common.{◌+◌, ap, ◌∙◌, drop, not}
use Rattle.std.proofs.lemmas.List.{take_rest, drop-drop}
use Rattle.std.proofs.lemmas.List.Sums.{prefix_len-le-length}
use Rattle.subdiv_model.specs.Numeral.{is_slash}
use Rattle.obj_text.proofs.fraction.split_slash.Goals as goal

pub split_at-requires : goal.split_at-requires
split_at-requires c = rw c.numerator_len.ensures (prefix_len-le-length (λ b. not (is_slash b)) c.args.unsigned.now)

pub returns-in-len1-up-clause-denominator : goal.returns-in-len1-up-clause-denominator
returns-in-len1-up-clause-denominator c =
    take_rest c.split_at.result.1.now 1
    ∙ ap (drop 1) c.split_at.ensures.back
    ∙ drop-drop 1 c.numerator_len.result c.args.unsigned.now
    ∙ ap (λ n. drop (n + 1) c.args.unsigned.now) c.numerator_len.ensures
