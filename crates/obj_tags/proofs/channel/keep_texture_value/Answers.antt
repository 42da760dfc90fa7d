use Rattle.std.proofs.Common.{◌++◌, [], ◌∷◌, ap, ◌∙◌}
use Rattle.obj_tags.specs.Channel.{first_long}
use Rattle.obj_tags.specs.Walk.{words_left}
use Rattle.obj_tags.proofs.PointLemmas.{adds-texture, none-said}
use Rattle.obj_tags.proofs.channel.keep_texture_value.Goals as goal

pub returns : goal.returns
returns c = (
  c.in_ok-point.ensures.0,
  adds-texture c.args.common c.args.number (words_left c.args.words.now) c.args.values.now (record { points = c.push.new.self; long = c.first_long-values.result }) c.in_ok-point.point
      c.in_ok-point.ensures.1
      (c.in_ok-push.ensures.items ∙ ap (λ p. c.args.values.now.points.items ++ p ∷ []) c.texture_or_origin.ensures)
      (c.first_long-values.ensures ∙ ap (first_long c.args.values.now.long c.args.number) (none-said c.in_ok-point.point c.is_none.result c.is_none.ensures)),
)
