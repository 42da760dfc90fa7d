use Rattle.std.proofs.Common.{length, ap}
use Rattle.child_slots.proofs.SlotLemmas.{edge-there, edge-there-before}
use Rattle.child_slots.proofs.QuadLemmas.{face-below}
use Rattle.child_slots.proofs.corners.side_slots.Goals as goal

pub bounds-edges-c : goal.bounds-edges-c
bounds-edges-c c = (edge-there c.args.level.now.level.polygons c.args.f c.args.c c.face_edges-edges.result.now c.face_edges-edges.ensures c.requires).0

pub half_slot_of-requires : goal.half_slot_of-requires
half_slot_of-requires c = (edge-there c.args.level.now.level.polygons c.args.f c.args.c c.face_edges-edges.result.now c.face_edges-edges.ensures c.requires).1

pub bounds-edges-before : goal.bounds-edges-before
bounds-edges-before c = (edge-there-before c.args.level.now.level.polygons c.args.f c.args.c c.corner_before-before.result (length c.face_vertices-corners.result.now) c.face_edges-edges.result.now c.face_edges-edges.ensures (ap length c.face_vertices-corners.ensures) c.corner_before-before.ensures.before c.requires).0

pub half_slot_of-requires-2 : goal.half_slot_of-requires-2
half_slot_of-requires-2 c = (edge-there-before c.args.level.now.level.polygons c.args.f c.args.c c.corner_before-before.result (length c.face_vertices-corners.result.now) c.face_edges-edges.result.now c.face_edges-edges.ensures (ap length c.face_vertices-corners.ensures) c.corner_before-before.ensures.before c.requires).1

pub face_vertices-corners-requires : goal.face_vertices-corners-requires
face_vertices-corners-requires c = face-below c.args.level.now.level.polygons c.args.f c.args.c c.requires

pub face_edges-edges-requires : goal.face_edges-edges-requires
face_edges-edges-requires c = face-below c.args.level.now.level.polygons c.args.f c.args.c c.requires
