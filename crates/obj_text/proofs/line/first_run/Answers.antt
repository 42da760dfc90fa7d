use Rattle.std.proofs.Common.{◌+◌, ap, ◌∙◌, drop, not}
use Rattle.std.proofs.lemmas.List.{take_rest, drop-drop}
use Rattle.std.proofs.lemmas.List.Sums.{prefix_len-le-length}
use Rattle.subdiv_model.specs.ObjLine.{is_blank}
use Rattle.obj_text.proofs.line.first_run.Goals as goal

pub split_at-requires : goal.split_at-requires
split_at-requires c = rw c.run_len.ensures (prefix_len-le-length (λ b. not (is_blank b)) c.args.line.now)

pub returns-in-len1-up-clause-rest : goal.returns-in-len1-up-clause-rest
returns-in-len1-up-clause-rest c =
    take_rest c.split_at.result.1.now 1
    ∙ ap (drop 1) c.split_at.ensures.back
    ∙ drop-drop 1 c.run_len.result c.args.line.now
    ∙ ap (λ n. drop (n + 1) c.args.line.now) c.run_len.ensures
