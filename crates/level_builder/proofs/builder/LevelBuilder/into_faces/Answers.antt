use Rattle.std.proofs.Common.{◌∙◌, ap, List, length, map}
use Rattle.subdiv_model.specs.Sharpness.{Sharpness}
use Rattle.sharpness_rules.specs.View.{sharpness_of, method_of}
use Rattle.point_fans.specs.Built.{built_of}
use Rattle.level_builder.proofs.BuilderLemmas.{built-apart}
use Rattle.level_builder.proofs.builder.LevelBuilder.into_faces.Goals as goal

pub of-requires : goal.of-requires
of-requires c =
    let b = c.self.inside in
    let apart = c.into_parts-edge_ends in
    built-apart (length b.complete.items) b.faces.lists b.holes.items b.edges (map sharpness_of b.vertex_sharpness.items) (method_of b.method) b.complete.items b.faces.beside c.self.invariant
    apart.result.0.items apart.result.1.items (map sharpness_of apart.result.2.items) (length apart.result.0.items) apart.ensures.ends apart.ensures.faces apart.ensures.sharpness

pub returns : goal.returns
returns c =
    let b = c.self.inside in
    c.of.ensures
    ∙ ap (λ (xs : List Sharpness). built_of (length b.complete.items) b.faces.lists b.holes.items xs (map sharpness_of b.vertex_sharpness.items) (method_of b.method) b.complete.items) c.into_parts-edge_ends.ensures.sharpness
    ∙ c.self.view_is
