use Rattle.std.proofs.Common.{◌≡◌, ◌∷◌, true, drop, ap, sym, ◌∙◌}
use Rattle.far_model.specs.Frames.{is_move_line}
use Rattle.obj_tags.specs.Walk.{words_left}
use Rattle.table_answers.proofs.MoveLemmas.{cause-of-move}
use Rattle.table_answers.proofs.frame_line.read_words.Goals as goal

pub returns-then-is_word : goal.returns-then-is_word
returns-then-is_word c =
    let line = words_left c.args.words.now in
    let e : line ≡ c.in-Some.keyword.now ∷ words_left c.next.new.self = c.in-Some.ensures.steps in
    let is : is_move_line line ≡ true = ap is_move_line e ∙ sym c.is_word.ensures ∙ c.if-is_word.true in
    rw (cause-of-move c.args.count c.args.common line is) (c.read_move.ensures line is (ap (drop 1) e))
