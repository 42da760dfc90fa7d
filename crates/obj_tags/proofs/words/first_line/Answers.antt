use Rattle.std.proofs.Common.{arith, ap, ◌∙◌, sym, ◌∷◌}
use Rattle.std.proofs.lemmas.List.{take_rest}
use Rattle.subdiv_model.specs.ObjLine.{is_lf, lines_of}
use Rattle.obj_tags.proofs.SplitLemmas.{position-le, lines-at, lines-end, some-bytes}
use Rattle.obj_tags.proofs.words.first_line.Goals as goal

pub split_at-requires : goal.split_at-requires
split_at-requires c = omega (arith, c.line_end.ensures, position-le is_lf c.args.text.now)

pub returns-in-empty-clause-lines : goal.returns-in-empty-clause-lines
returns-in-empty-clause-lines c =
    lines-end c.args.text.now c.split_at.result.0.now c.split_at.result.1.now c.line_end.result (omega (arith, c.line_end.ensures)) c.split_at.ensures.front c.split_at.ensures.back (some-bytes _ _ c.is_empty.ensures c.if-is_empty.false) (omega (arith, c.in-empty.len_below))

pub returns-in-len1-up-clause-lines : goal.returns-in-len1-up-clause-lines
returns-in-len1-up-clause-lines c =
    lines-at c.args.text.now c.split_at.result.0.now c.split_at.result.1.now c.line_end.result (omega (arith, c.line_end.ensures)) c.split_at.ensures.front c.split_at.ensures.back (some-bytes _ _ c.is_empty.ensures c.if-is_empty.false)
    ∙ ap (λ rest. c.split_at.result.0.now ∷ lines_of rest) (sym (take_rest c.split_at.result.1.now 1))
