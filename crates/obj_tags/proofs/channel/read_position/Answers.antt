use Rattle.obj_tags.specs.Walk.{words_left}
use Rattle.obj_tags.proofs.PointLemmas.{read-point}
use Rattle.obj_tags.proofs.channel.read_position.Goals as goal

pub returns : goal.returns
returns c =
    read-point c.args.common (words_left c.args.words.now) (words_left c.next_number.new.words) (words_left c.next_number-2.new.words) (words_left c.next_number-3.new.words) c.in_ok-x.x c.in_ok-y.y c.in_ok-z.z c.point_from.result
    c.requires.enough c.in_ok-x.ensures.rest c.in_ok-y.ensures.rest c.in_ok-z.ensures.rest
    c.in_ok-x.ensures.read c.in_ok-y.ensures.read c.in_ok-z.ensures.read c.in_ok-drop_numerals.ensures.0 c.point_from.ensures
