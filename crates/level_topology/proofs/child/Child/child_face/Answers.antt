use Rattle.std.proofs.Common.{rules, ◌≡◌, ◌+◌, ◌<◌, ap, length, vec_len, ◌∙◌, arith, get_or}
use Rattle.std.proofs.lemmas.List.{get_or_read}
use Rattle.level_topology.specs.Child.{ChildTopology}
use Rattle.level_topology.specs.Packed.{gaps}
use Rattle.level_topology.specs.ChildTables.{present_place}
use Rattle.level_topology.proofs.ChildLemmas.{place-below}
use Rattle.level_topology.proofs.ChildMadeLemmas.{face-found}
use Rattle.level_topology.proofs.child.Child.child_face.Goals as goal

pub index-requires : goal.index-requires
index-requires c =
    let t = c.self.inside.tables in
    let within : c.args.corner < get_or (gaps t.starts.items) c.args.f 0 = omega (arith, ap (λ (x : ChildTopology). get_or x.parent_sizes c.args.f 0) c.self.view_is, c.requires) in
    let n : vec_len t.starts ≡ length t.starts.items = search rules in
    omega (arith, (place-below t.starts.items (length t.child_faces.items) (c.args.f, c.args.corner) c.self.invariant.ascend within).0)

pub index-requires-2 : goal.index-requires-2
index-requires-2 c =
    let t = c.self.inside.tables in
    let within : c.args.corner < get_or (gaps t.starts.items) c.args.f 0 = omega (arith, ap (λ (x : ChildTopology). get_or x.parent_sizes c.args.f 0) c.self.view_is, c.requires) in
    let n : vec_len t.child_faces ≡ length t.child_faces.items = search rules in
    let below = place-below t.starts.items (length t.child_faces.items) (c.args.f, c.args.corner) c.self.invariant.ascend within in
    omega (arith, below.1, get_or_read t.starts.items c.args.f c.index.result.now (omega (arith, below.0)) c.index.ensures 0)

pub returns : goal.returns
returns c =
    let t = c.self.inside.tables in
    let within : c.args.corner < get_or (gaps t.starts.items) c.args.f 0 = omega (arith, ap (λ (x : ChildTopology). get_or x.parent_sizes c.args.f 0) c.self.view_is, c.requires) in
    let below = place-below t.starts.items (length t.child_faces.items) (c.args.f, c.args.corner) c.self.invariant.ascend within in
    let first = get_or_read t.starts.items c.args.f c.index.result.now (omega (arith, below.0)) c.index.ensures 0 in
    let at : c.index.result.now + c.args.corner < length t.child_faces.items = omega (arith, first, below.1) in
    let read = get_or_read t.child_faces.items (c.index.result.now + c.args.corner) c.index-2.result.now at c.index-2.ensures 0 in
    rw (← c.self.view_is)
    (c.present_place.ensures ∙ ap present_place (read ∙ ap (λ n. get_or t.child_faces.items (n + c.args.corner) 0) first)
    ∙ face-found c.self.inside.level t c.self.invariant (c.args.f, c.args.corner) within)
