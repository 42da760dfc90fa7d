use Rattle.std.proofs.Common.{◌+◌, ◌<◌, ap, length, ◌∙◌, arith}
use Rattle.std.proofs.lemmas.List.{get_or_read}
use Rattle.level_topology.specs.Child.{FromFace, ChildTopology}
use Rattle.level_topology.specs.ChildTables.{present_place}
use Rattle.level_topology.proofs.ChildMadeLemmas.{point-found}
use Rattle.level_topology.proofs.child.Child.face_point.Goals as goal

pub returns : goal.returns
returns c =
    let t = c.self.inside.tables in
    let within : c.args.f < t.faces = omega (arith, ap (λ (x : ChildTopology). length x.parent_sizes) c.self.view_is, c.self.invariant.face_count) in
    let read = get_or_read t.points.items (t.vertices + c.args.f) c.index.result.now (omega (arith, within, c.self.invariant.total)) c.index.ensures 0 in
    rw (← c.self.view_is) (c.present_place.ensures ∙ ap present_place read ∙ point-found c.self.inside.level t c.self.invariant (FromFace c.args.f) within)
