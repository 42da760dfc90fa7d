use Rattle.std.proofs.Common.{◌<◌, ap, ◌∙◌, arith}
use Rattle.std.proofs.lemmas.List.{get_or_read}
use Rattle.level_topology.specs.Child.{FromVertex, ChildTopology}
use Rattle.level_topology.specs.ChildTables.{present_place}
use Rattle.level_topology.proofs.ChildMadeLemmas.{point-found}
use Rattle.level_topology.proofs.child.Child.vertex_point.Goals as goal

pub returns : goal.returns
returns c =
    let t = c.self.inside.tables in
    let within : c.args.v < t.vertices = omega (arith, ap (λ (x : ChildTopology). x.parent_points) c.self.view_is, c.self.invariant.face_count) in
    let read = get_or_read t.points.items (c.args.v) c.index.result.now (omega (arith, within, c.self.invariant.total)) c.index.ensures 0 in
    rw (← c.self.view_is) (c.present_place.ensures ∙ ap present_place read ∙ point-found c.self.inside.level t c.self.invariant (FromVertex c.args.v) within)
