use Rattle.std.proofs.Common.{rules, ◌<◌, map, length, refl, arith}
use Rattle.std.proofs.lemmas.List.{get_or-map, length-map}
use Rattle.level_topology.specs.ChildTables.{place_of}
use Rattle.child_slots.specs.Parts.{part}
use Rattle.child_slots.proofs.FaceWalkLemmas.{walked-none, walked-few, place-low, corner-at, corners-at, slots-at, step-at}
use Rattle.child_slots.proofs.walk.number_edges.Goals as goal

pub loop-i-init : goal.loop-i-init
loop-i-init g c = walked-none c.args.level.now.level.point_count c.args.level.now.level.polygons _ c.args.edges.now c.requires.part c.requires.none

pub side_slots-slots-requires : goal.side_slots-slots-requires
side_slots-slots-requires g c =
    let places = map place_of c.args.places.now in
    let p = part places (g.P.ChildPoints.has c.args.points.now) (g.P.ChildPoints.number c.args.points.now) in
    let h : c.loop-i.i < length places = omega (arith, c.loop-i-test.true, length-map c.args.places.now place_of) in
    corner-at c.args.level.now c.facts.ensures p c.requires.part c.loop-i.i h _ _ (get_or-map place_of c.args.places.now c.loop-i.i (record { face = 0; corner = 0 }) (0, 0) c.loop-i-test.true)

pub child_corners-quad-requires : goal.child_corners-quad-requires
child_corners-quad-requires g c =
    let places = map place_of c.args.places.now in
    let p = part places (g.P.ChildPoints.has c.args.points.now) (g.P.ChildPoints.number c.args.points.now) in
    let h : c.loop-i.i < length places = omega (arith, c.loop-i-test.true, length-map c.args.places.now place_of) in
    corner-at c.args.level.now c.facts.ensures p c.requires.part c.loop-i.i h _ _ (get_or-map place_of c.args.places.now c.loop-i.i (record { face = 0; corner = 0 }) (0, 0) c.loop-i-test.true)

pub numbers_of-requires : goal.numbers_of-requires
numbers_of-requires g c =
    let places = map place_of c.args.places.now in
    let p = part places (g.P.ChildPoints.has c.args.points.now) (g.P.ChildPoints.number c.args.points.now) in
    let h : c.loop-i.i < length places = omega (arith, c.loop-i-test.true, length-map c.args.places.now place_of) in
    corners-at c.args.level.now c.facts.ensures p c.requires.part c.loop-i.i h _ _ (get_or-map place_of c.args.places.now c.loop-i.i (record { face = 0; corner = 0 }) (0, 0) c.loop-i-test.true) c.child_corners-quad.result c.child_corners-quad.ensures

pub overflow_cast-i : goal.overflow_cast-i
overflow_cast-i g c =
    let places = map place_of c.args.places.now in
    let p = part places (g.P.ChildPoints.has c.args.points.now) (g.P.ChildPoints.number c.args.points.now) in
    let h : c.loop-i.i < length places = omega (arith, c.loop-i-test.true, length-map c.args.places.now place_of) in
    omega (arith, place-low c.args.level.now c.facts.ensures p c.requires.part c.loop-i.i h)

pub add_quad-requires-clause-slots : goal.add_quad-requires-clause-slots
add_quad-requires-clause-slots g c =
    let places = map place_of c.args.places.now in
    let p = part places (g.P.ChildPoints.has c.args.points.now) (g.P.ChildPoints.number c.args.points.now) in
    let h : c.loop-i.i < length places = omega (arith, c.loop-i-test.true, length-map c.args.places.now place_of) in
    slots-at c.args.level.now c.facts.ensures p c.requires.part c.loop-i.i h _ _ (get_or-map place_of c.args.places.now c.loop-i.i (record { face = 0; corner = 0 }) (0, 0) c.loop-i-test.true) c.side_slots-slots.result c.loop-i.edges.count c.side_slots-slots.ensures c.loop-i.invariant.count_is

pub add_quad-requires-clause-few : goal.add_quad-requires-clause-few
add_quad-requires-clause-few g c =
    let places = map place_of c.args.places.now in
    let p = part places (g.P.ChildPoints.has c.args.points.now) (g.P.ChildPoints.number c.args.points.now) in
    let h : c.loop-i.i < length places = omega (arith, c.loop-i-test.true, length-map c.args.places.now place_of) in
    omega (arith, place-low c.args.level.now c.facts.ensures p c.requires.part c.loop-i.i h, walked-few c.args.level.now.level.point_count c.args.level.now.level.polygons p c.loop-i.i c.loop-i.edges c.loop-i.invariant)

pub loop-i-preserved : goal.loop-i-preserved
loop-i-preserved g c =
    let places = map place_of c.args.places.now in
    let p = part places (g.P.ChildPoints.has c.args.points.now) (g.P.ChildPoints.number c.args.points.now) in
    let h : c.loop-i.i < length places = omega (arith, c.loop-i-test.true, length-map c.args.places.now place_of) in
    step-at c.args.level.now c.facts.ensures p c.requires.part c.loop-i.i h _ _ (get_or-map place_of c.args.places.now c.loop-i.i (record { face = 0; corner = 0 }) (0, 0) c.loop-i-test.true)
    c.loop-i.i c.loop-i.edges _ c.side_slots-slots.result c.child_corners-quad.result c.numbers_of.result c.loop-i.invariant refl c.side_slots-slots.ensures c.child_corners-quad.ensures c.numbers_of.ensures (search rules)
