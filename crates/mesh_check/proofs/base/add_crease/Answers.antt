use Rattle.std.proofs.Common.{ap, sym, ◌∙◌, Bool, if◌then◌else◌}
use Rattle.raw_mesh.specs.View.{crease_of}
use Rattle.level_builder.specs.Builder.{with_sharp_edge}
use Rattle.mesh_check.proofs.BaseEdgeLemmas.{pair-known}
use Rattle.mesh_check.proofs.base.add_crease.Goals as goal

pub add_sharp_edge-requires : goal.add_sharp_edge-requires
add_sharp_edge-requires c =
    pair-known c.args.builder.now.level.polygons c.args.edges.now (c.args.crease.a, c.args.crease.b) _ _ c.requires c.edge_key.ensures.word c.edge_key.ensures.key c.is_known.ensures ∙ c.if-is_known.true

pub returns-then-is_known : goal.returns-then-is_known
returns-then-is_known c =
    let tag = crease_of c.args.crease in
    let built = c.args.builder.now in
    c.add_sharp_edge.ensures
    ∙ ap (λ (b : Bool). if b then with_sharp_edge tag.0 tag.1 built else built) (sym (pair-known built.level.polygons c.args.edges.now tag.0 _ _ c.requires c.edge_key.ensures.word c.edge_key.ensures.key c.is_known.ensures ∙ c.if-is_known.true))

pub returns-else-is_known : goal.returns-else-is_known
returns-else-is_known c =
    let tag = crease_of c.args.crease in
    let built = c.args.builder.now in
    ap (λ (b : Bool). if b then with_sharp_edge tag.0 tag.1 built else built) (sym (pair-known built.level.polygons c.args.edges.now tag.0 _ _ c.requires c.edge_key.ensures.word c.edge_key.ensures.key c.is_known.ensures ∙ c.if-is_known.false))
