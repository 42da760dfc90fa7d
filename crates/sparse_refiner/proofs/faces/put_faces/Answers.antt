use Rattle.std.proofs.Common.{rules, ◌≡◌, ◌<◌, length, map, arith}
use Rattle.std.proofs.lemmas.List.{get_or-map, length-map}
use Rattle.level_topology.specs.ChildTables.{place_of}
use Rattle.child_slots.specs.Parts.{part}
use Rattle.child_slots.proofs.FaceWalkLemmas.{corner-at, corners-at, slots-at}
use Rattle.sparse_refiner.proofs.PutLemmas.{all-faces, slots-at-place, faces-room, corners-room, faces-step}
use Rattle.sparse_refiner.proofs.faces.put_faces.Goals as goal

pub side_slots-slots-requires : goal.side_slots-slots-requires
side_slots-slots-requires g c =
    let t = c.args.shape.now.level.now in
    let places = map place_of c.args.shape.now.places.now in
    let p = part places (g.P.ChildPoints.has c.args.shape.now.points.now) (g.P.ChildPoints.number c.args.shape.now.points.now) in
    let h : c.loop-i.i < length places = omega (arith, c.loop-i-test.true, length-map c.args.shape.now.places.now place_of) in
    let at = get_or-map place_of c.args.shape.now.places.now c.loop-i.i (record { face = 0; corner = 0 }) (0, 0) c.loop-i-test.true in
    corner-at t c.facts.ensures p c.requires.edges.part c.loop-i.i h _ _ at

pub child_corners-quad-requires : goal.child_corners-quad-requires
child_corners-quad-requires g c =
    let t = c.args.shape.now.level.now in
    let places = map place_of c.args.shape.now.places.now in
    let p = part places (g.P.ChildPoints.has c.args.shape.now.points.now) (g.P.ChildPoints.number c.args.shape.now.points.now) in
    let h : c.loop-i.i < length places = omega (arith, c.loop-i-test.true, length-map c.args.shape.now.places.now place_of) in
    let at = get_or-map place_of c.args.shape.now.places.now c.loop-i.i (record { face = 0; corner = 0 }) (0, 0) c.loop-i-test.true in
    corner-at t c.facts.ensures p c.requires.edges.part c.loop-i.i h _ _ at

pub part_corners-requires : goal.part_corners-requires
part_corners-requires g c =
    let t = c.args.shape.now.level.now in
    let places = map place_of c.args.shape.now.places.now in
    let p = part places (g.P.ChildPoints.has c.args.shape.now.points.now) (g.P.ChildPoints.number c.args.shape.now.points.now) in
    let h : c.loop-i.i < length places = omega (arith, c.loop-i-test.true, length-map c.args.shape.now.places.now place_of) in
    let at = get_or-map place_of c.args.shape.now.places.now c.loop-i.i (record { face = 0; corner = 0 }) (0, 0) c.loop-i-test.true in
    corners-at t c.facts.ensures p c.requires.edges.part c.loop-i.i h _ _ at c.child_corners-quad.result c.child_corners-quad.ensures

pub edge_numbers-requires-clause-slots : goal.edge_numbers-requires-clause-slots
edge_numbers-requires-clause-slots g c =
    let t = c.args.shape.now.level.now in
    let places = map place_of c.args.shape.now.places.now in
    let p = part places (g.P.ChildPoints.has c.args.shape.now.points.now) (g.P.ChildPoints.number c.args.shape.now.points.now) in
    let h : c.loop-i.i < length places = omega (arith, c.loop-i-test.true, length-map c.args.shape.now.places.now place_of) in
    let at = get_or-map place_of c.args.shape.now.places.now c.loop-i.i (record { face = 0; corner = 0 }) (0, 0) c.loop-i-test.true in
    slots-at t c.facts.ensures p c.requires.edges.part c.loop-i.i h _ _ at c.side_slots-slots.result c.args.edges.now.count c.side_slots-slots.ensures c.requires.edges.count_is

pub edge_numbers-requires-clause-there : goal.edge_numbers-requires-clause-there
edge_numbers-requires-clause-there g c =
    let t = c.args.shape.now.level.now in
    let places = map place_of c.args.shape.now.places.now in
    let p = part places (g.P.ChildPoints.has c.args.shape.now.points.now) (g.P.ChildPoints.number c.args.shape.now.points.now) in
    let h : c.loop-i.i < length places = omega (arith, c.loop-i-test.true, length-map c.args.shape.now.places.now place_of) in
    let at = get_or-map place_of c.args.shape.now.places.now c.loop-i.i (record { face = 0; corner = 0 }) (0, 0) c.loop-i-test.true in
    slots-at-place t c.facts.ensures p c.args.edges.now c.requires.edges c.loop-i.i _ _ c.side_slots-slots.result h at c.side_slots-slots.ensures

pub push-requires-clause-few : goal.push-requires-clause-few
push-requires-clause-few g c =
    let t = c.args.shape.now.level.now in
    let places = map place_of c.args.shape.now.places.now in
    let p = part places (g.P.ChildPoints.has c.args.shape.now.points.now) (g.P.ChildPoints.number c.args.shape.now.points.now) in
    let h : c.loop-i.i < length places = omega (arith, c.loop-i-test.true, length-map c.args.shape.now.places.now place_of) in
    let at = get_or-map place_of c.args.shape.now.places.now c.loop-i.i (record { face = 0; corner = 0 }) (0, 0) c.loop-i-test.true in
    (faces-room t c.facts.ensures p c.args.edges.now c.requires.edges c.loop-i.i c.loop-i.faces h c.loop-i.invariant.put).0

pub push-requires-clause-short : goal.push-requires-clause-short
push-requires-clause-short g c =
    let t = c.args.shape.now.level.now in
    let places = map place_of c.args.shape.now.places.now in
    let p = part places (g.P.ChildPoints.has c.args.shape.now.points.now) (g.P.ChildPoints.number c.args.shape.now.points.now) in
    let h : c.loop-i.i < length places = omega (arith, c.loop-i-test.true, length-map c.args.shape.now.places.now place_of) in
    let at = get_or-map place_of c.args.shape.now.places.now c.loop-i.i (record { face = 0; corner = 0 }) (0, 0) c.loop-i-test.true in
    corners-room t c.facts.ensures p c.args.edges.now c.requires.edges c.loop-i.i _ _ c.loop-i.faces c.child_corners-quad.result c.part_corners.result h at c.loop-i.invariant.put c.child_corners-quad.ensures c.part_corners.ensures

pub loop-i-preserved : goal.loop-i-preserved
loop-i-preserved g c =
    let t = c.args.shape.now.level.now in
    let places = map place_of c.args.shape.now.places.now in
    let p = part places (g.P.ChildPoints.has c.args.shape.now.points.now) (g.P.ChildPoints.number c.args.shape.now.points.now) in
    let h : c.loop-i.i < length places = omega (arith, c.loop-i-test.true, length-map c.args.shape.now.places.now place_of) in
    let at = get_or-map place_of c.args.shape.now.places.now c.loop-i.i (record { face = 0; corner = 0 }) (0, 0) c.loop-i-test.true in
    record {
      put = faces-step t c.facts.ensures p c.args.edges.now c.requires.edges c.loop-i.i _ _ c.loop-i.faces c.push.new.self c.child_corners-quad.result c.part_corners.result c.side_slots-slots.result c.edge_numbers.result h at c.loop-i.invariant.put
          c.child_corners-quad.ensures c.part_corners.ensures c.side_slots-slots.ensures c.edge_numbers.ensures c.push.ensures;
      steps = search rules;
    }

pub returns-clause-put : goal.returns-clause-put
returns-clause-put g c =
    let places = map place_of c.args.shape.now.places.now in
    let p = part places (g.P.ChildPoints.has c.args.shape.now.points.now) (g.P.ChildPoints.number c.args.shape.now.points.now) in
    let all : c.loop-i.i ≡ length c.args.shape.now.places.now = omega (arith, c.loop-i-test.false, c.loop-i.auto.i-end) in
    all-faces c.args.shape.now.level.now.level p c.loop-i.i (length c.args.shape.now.places.now) c.loop-i.faces c.loop-i.invariant.put all
