use Rattle.sharpness_rules.specs.View.{sharpness_of}
use Rattle.sharpness_rules.proofs.ViewLemmas.{sharpness_of-proper}
use Rattle.level_builder.proofs.BuilderLemmas.{built-edge}
use Rattle.level_builder.proofs.builder.LevelBuilder.add_sharp_edge.Goals as goal

pub invariant_of-self : goal.invariant_of-self
invariant_of-self c =
    rw c.set_sharpness.ensures
    (built-edge _ _ _ _ _ _ c.self.inside.edges c.self.inside.faces.beside _ (sharpness_of c.args.s) (sharpness_of-proper c.args.s) c.self.invariant)
