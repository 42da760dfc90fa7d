use Rattle.std.proofs.Common.{◌≡◌, ◌<◌, ◌+◌, ◌∙◌, ap, arith, length, get_or, []}
use Rattle.level_topology.specs.Topology.{corner_of}
use Rattle.level_topology.proofs.LawLemmas.{faces-each}
use Rattle.child_slots.specs.Slots.{first_child}
use Rattle.child_slots.proofs.ChildNumberLemmas.{child-at, mapped-all}
use Rattle.level_topology.proofs.ListPlaceLemmas.{mapped-more}
use Rattle.uniform_refiner.proofs.vertices.put_children_at.Goals as goal

pub first_child_of-requires : goal.first_child_of-requires
first_child_of-requires c =
    let inside : c.loop-i.i < length (get_or c.args.level.now.faces_at c.args.v []) = omega (arith, c.loop-i-test.true, ap length c.vertex_faces-faces.ensures) in
    omega (arith, (faces-each c.args.level.now c.args.v c.loop-i.i c.facts.ensures c.requires.point inside).exists, ap (λ xs. get_or xs c.loop-i.i 0) c.vertex_faces-faces.ensures)

pub bounds-corners-i : goal.bounds-corners-i
bounds-corners-i c = (child-at c.args.level.now c.facts.ensures c.args.v c.loop-i.i _ _ c.requires.point c.vertex_faces-faces.ensures c.vertex_faces_at-corners.ensures c.loop-i-test.true).0

pub overflow_add-first_child_of : goal.overflow_add-first_child_of
overflow_add-first_child_of c =
    let at = child-at c.args.level.now c.facts.ensures c.args.v c.loop-i.i _ _ c.requires.point c.vertex_faces-faces.ensures c.vertex_faces_at-corners.ensures c.loop-i-test.true in
    omega (arith, at.2, c.first_child_of.ensures, ap (λ xs. first_child c.args.level.now.level.polygons (get_or xs c.loop-i.i 0)) c.vertex_faces-faces.ensures)

pub loop-i-preserved : goal.loop-i-preserved
loop-i-preserved c =
    let polygons = c.args.level.now.level.polygons in
    let faces = get_or c.args.level.now.faces_at c.args.v [] in
    let inside : c.loop-i.i < length faces = omega (arith, c.loop-i-test.true, ap length c.vertex_faces-faces.ensures) in
    let at = child-at c.args.level.now c.facts.ensures c.args.v c.loop-i.i _ _ c.requires.point c.vertex_faces-faces.ensures c.vertex_faces_at-corners.ensures c.loop-i-test.true in
    let first : c.first_child_of.result ≡ first_child polygons (get_or faces c.loop-i.i 0) = c.first_child_of.ensures ∙ ap (λ xs. first_child polygons (get_or xs c.loop-i.i 0)) c.vertex_faces-faces.ensures in
    mapped-more (λ f. first_child polygons f + corner_of polygons c.args.v f) faces c.loop-i.list.items c.push.new.self.items c.loop-i.i _ inside c.loop-i.invariant c.in_ok-push.ensures.items (omega (arith, first, at.1))

pub returns : goal.returns
returns c = mapped-all _ (get_or c.args.level.now.faces_at c.args.v []) _ c.loop-i.i (omega (arith, c.loop-i-test.false, ap length c.vertex_faces-faces.ensures)) c.loop-i.invariant
