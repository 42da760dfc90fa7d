use Rattle.std.proofs.Common.{rules}
use Rattle.obj_tags.specs.View.{cause_of}
use Rattle.obj_tags.specs.Walk.{words_left}
use Rattle.obj_tags.proofs.PointLemmas.{read-texture, second-fault}
use Rattle.obj_tags.proofs.channel.read_texture_value.Goals as goal

pub returns-in_err-v : goal.returns-in_err-v
returns-in_err-v c =
    let total = second-fault (words_left c.args.words.now) (words_left c.next_number.new.words) (cause_of c.in_err-v.field-0.0) c.in_ok-u.ensures.rest c.in_ok-u.ensures.read.0 c.in_err-v.ensures.read in
    rw total (search rules)

pub returns : goal.returns
returns c =
    read-texture c.args.common (words_left c.args.words.now) (words_left c.next_number.new.words) (words_left c.second_number.new.words) c.in_ok-u.u c.in_ok-v.v c.texture_from.result
    c.requires.enough c.in_ok-u.ensures.rest c.in_ok-v.ensures.rest
    c.in_ok-u.ensures.read c.in_ok-v.ensures.read c.in_ok-drop_numerals.ensures.0 c.texture_from.ensures
