use Rattle.std.proofs.Common.{arith, ap, sym, ◌∙◌, ◌∷◌}
use Rattle.std.specs.List.{slice_split}
use Rattle.std.proofs.lemmas.List.{take_rest}
use Rattle.subdiv_model.specs.Numeral.{is_slash}
use Rattle.obj_tags.proofs.SplitLemmas.{position-le, parts-at, parts-end}
use Rattle.obj_tags.proofs.words.split_slash.Goals as goal

pub split_at-requires : goal.split_at-requires
split_at-requires c = omega (arith, c.part_len.ensures, position-le is_slash c.args.word.now)

pub returns-in-empty : goal.returns-in-empty
returns-in-empty c =
    parts-end c.args.word.now c.split_at.result.0.now c.split_at.result.1.now c.part_len.result c.part_len.ensures c.split_at.ensures.front c.split_at.ensures.back (omega (arith, c.in-empty.len_below))

pub returns-in-len1-up : goal.returns-in-len1-up
returns-in-len1-up c =
    parts-at c.args.word.now c.split_at.result.0.now c.split_at.result.1.now c.part_len.result c.part_len.ensures c.split_at.ensures.front c.split_at.ensures.back (omega (arith, c.in-len1-up.len_at_least))
    ∙ ap (λ rest. c.split_at.result.0.now ∷ slice_split is_slash rest) (sym (take_rest c.split_at.result.1.now 1))
