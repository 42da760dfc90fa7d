use Rattle.std.proofs.Common.{◌∙◌, ap, map}
use Rattle.sharpness_rules.specs.View.{sharpness_of}
use Rattle.level_builder.proofs.BuilderLemmas.{map-smooth}
use Rattle.level_builder.proofs.builder.point_marks.Goals as goal

pub returns-clause-smooth : goal.returns-clause-smooth
returns-clause-smooth c = ap (map sharpness_of) (c.in_ok-vertex_sharpness.ensures.items_if_clones_equal (λ y h. h)) ∙ map-smooth c.args.points
