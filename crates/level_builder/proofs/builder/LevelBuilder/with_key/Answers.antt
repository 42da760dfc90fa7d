use Rattle.sharpness_rules.specs.View.{method_of}
use Rattle.level_builder.proofs.BuilderLemmas.{built-none, none-same}
use Rattle.level_builder.proofs.builder.LevelBuilder.with_key.Goals as goal

pub invariant_of-result : goal.invariant_of-result
invariant_of-result c =
    rw (c.in_ok-faces.ensures.faces, c.in_ok-edges.ensures, c.in_ok-faces.ensures.holes, c.in_ok-vertex_sharpness.ensures.smooth, c.in_ok-vertex_sharpness.ensures.none)
    (built-none c.args.points c.args.edges (method_of c.args.method) c.requires)

pub returns : goal.returns
returns c =
    rw (c.in_ok-faces.ensures.faces, c.in_ok-edges.ensures, c.in_ok-faces.ensures.holes, c.in_ok-vertex_sharpness.ensures.smooth, c.in_ok-vertex_sharpness.ensures.none)
    (none-same c.args.points (method_of c.args.method))
