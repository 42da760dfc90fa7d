use Rattle.std.proofs.Common.{ap, List, length}
use Rattle.std.proofs.lemmas.List.{map-set}
use Rattle.subdiv_model.specs.Sharpness.{Sharpness}
use Rattle.sharpness_rules.specs.View.{sharpness_of, method_of}
use Rattle.sharpness_rules.proofs.ViewLemmas.{sharpness_of-proper}
use Rattle.point_fans.specs.Built.{built_of}
use Rattle.level_builder.proofs.BuilderLemmas.{built-vertex}
use Rattle.level_builder.proofs.builder.LevelBuilder.add_sharp_vertex.Goals as goal

pub invariant_of-self : goal.invariant_of-self
invariant_of-self c =
    rw (map-set sharpness_of c.self.inside.vertex_sharpness.items c.args.v c.args.s)
    (built-vertex _ c.self.inside.edges c.self.inside.faces.beside c.args.v (sharpness_of c.args.s) (sharpness_of-proper c.args.s) c.self.invariant)

pub returns : goal.returns
returns c =
    rw (← c.self.view_is)
    (ap (λ (xs : List Sharpness). built_of (length c.self.inside.complete.items) c.self.inside.faces.lists c.self.inside.holes.items c.self.inside.edges.sharpness xs (method_of c.self.inside.method) c.self.inside.complete.items) (map-set sharpness_of c.self.inside.vertex_sharpness.items c.args.v c.args.s))
