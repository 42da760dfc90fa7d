use Rattle.std.proofs.Common.{rules, ◌≡◌, ◌+◌, ◌<◌, ◌∙◌, ap, sym, subst, arith, length, true, List, ℕ}
use Rattle.std.specs.List.{All, sum_by}
use Rattle.subdiv_model.specs.Polygons.{polygon_at, is_among}
use Rattle.level_topology.specs.Rows.{Rows}
use Rattle.child_slots.specs.Slots.{first_child, slots_at}
use Rattle.uniform_refiner.specs.Put.{with_children}
use Rattle.child_slots.proofs.FaceWalkLemmas.{slots-below}
use Rattle.uniform_refiner.proofs.WholeEdgeLemmas.{slots-there}
use Rattle.uniform_refiner.proofs.PutFaceLemmas.{children-fit, children-step}
use Rattle.child_slots.proofs.ChildNumberLemmas.{first-more}
use Rattle.uniform_refiner.proofs.faces.put_children.Goals as goal

pub numbers_of-numbers-requires-clause-slots : goal.numbers_of-numbers-requires-clause-slots
numbers_of-numbers-requires-clause-slots g c =
    let h : c.loop-c.c < length (polygon_at c.args.level.now.level.polygons c.args.f) = omega (arith, c.loop-c-test.true, ap length c.face_vertices-c-end.ensures) in
    subst (λ (xs : List ℕ). All (λ a. a < c.args.edges.now.count) xs) (sym c.side_slots.ensures)
    (subst (λ (n : ℕ). All (λ a. a < n) (slots_at c.args.level.now.level.polygons c.args.f c.loop-c.c)) (sym c.requires.edges.count_is) (slots-below c.args.level.now c.facts.ensures c.args.f c.loop-c.c h))

pub numbers_of-numbers-requires-clause-there : goal.numbers_of-numbers-requires-clause-there
numbers_of-numbers-requires-clause-there g c =
    let h : c.loop-c.c < length (polygon_at c.args.level.now.level.polygons c.args.f) = omega (arith, c.loop-c-test.true, ap length c.face_vertices-c-end.ensures) in
    subst (λ (xs : List ℕ). All (λ a. is_among c.args.edges.now.slots a ≡ true) xs) (sym c.side_slots.ensures) (slots-there c.args.level.now c.facts.ensures c.args.edges.now c.requires.edges c.args.f c.loop-c.c h)

pub put_face-requires-clause-faces : goal.put_face-requires-clause-faces
put_face-requires-clause-faces g c =
    let h : c.loop-c.c < length (polygon_at c.args.level.now.level.polygons c.args.f) = omega (arith, c.loop-c-test.true, ap length c.face_vertices-c-end.ensures) in
    let fits = children-fit c.args.level.now c.facts.ensures c.args.f c.loop-c.c h in
    omega (arith, fits.0, c.requires.faces, ap (λ (r : Rows). length r.face_vertices) c.loop-c.invariant.put, ap (λ (r : Rows). r.counts.faces) c.loop-c.invariant.put)

pub put_face-requires-clause-corners : goal.put_face-requires-clause-corners
put_face-requires-clause-corners g c =
    let h : c.loop-c.c < length (polygon_at c.args.level.now.level.polygons c.args.f) = omega (arith, c.loop-c-test.true, ap length c.face_vertices-c-end.ensures) in
    let fits = children-fit c.args.level.now c.facts.ensures c.args.f c.loop-c.c h in
    omega (arith, fits.1, c.requires.corners, ap (λ (r : Rows). sum_by length r.face_vertices) c.loop-c.invariant.put, ap (λ (r : Rows). r.counts.corners) c.loop-c.invariant.put, ap length c.child_corners-corners.ensures)

pub loop-c-preserved : goal.loop-c-preserved
loop-c-preserved g c =
    let h : c.loop-c.c < length (polygon_at c.args.level.now.level.polygons c.args.f) = omega (arith, c.loop-c-test.true, ap length c.face_vertices-c-end.ensures) in
    record {
      put = children-step c.args.level.now c.facts.ensures c.args.edges.now c.args.f c.loop-c.c c.args.rows.now c.loop-c.rows _ c.child_corners-corners.result c.side_slots.result c.numbers_of-numbers.result c.is_child_hole-hole.result c.requires.edges h c.loop-c.invariant.put
          c.child_corners-corners.ensures c.side_slots.ensures c.numbers_of-numbers.ensures c.is_child_hole-hole.ensures c.put_face.ensures.put;
      steps = search rules;
    }

pub returns-clause-put : goal.returns-clause-put
returns-clause-put g c =
    let polygons = c.args.level.now.level.polygons in
    let all : first_child polygons c.args.f + c.loop-c.c ≡ first_child polygons (c.args.f + 1) = omega (arith, c.loop-c-test.false, c.loop-c.auto.c-end, ap length c.face_vertices-c-end.ensures, first-more polygons c.args.f c.requires.face) in
    c.loop-c.invariant.put ∙ ap (λ k. with_children c.args.level.now.level k c.args.rows.now) all
