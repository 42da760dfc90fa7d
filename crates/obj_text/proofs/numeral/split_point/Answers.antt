use Rattle.std.proofs.Common.{◌+◌, ap, ◌∙◌, drop, not}
use Rattle.std.proofs.lemmas.List.{take_rest, drop-drop}
use Rattle.std.proofs.lemmas.List.Sums.{prefix_len-le-length}
use Rattle.subdiv_model.specs.Numeral.{is_point}
use Rattle.obj_text.proofs.numeral.split_point.Goals as goal

pub split_at-requires : goal.split_at-requires
split_at-requires c = rw c.whole_len.ensures (prefix_len-le-length (λ b. not (is_point b)) c.args.decimal.now)

pub returns-in-len1-up-clause-fraction : goal.returns-in-len1-up-clause-fraction
returns-in-len1-up-clause-fraction c =
    take_rest c.split_at.result.1.now 1
    ∙ ap (drop 1) c.split_at.ensures.back
    ∙ drop-drop 1 c.whole_len.result c.args.decimal.now
    ∙ ap (λ n. drop (n + 1) c.args.decimal.now) c.whole_len.ensures
