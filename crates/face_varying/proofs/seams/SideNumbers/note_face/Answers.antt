use Rattle.std.proofs.Common.{arith, ap, sym, subst, ◌∙◌, ◌≡◌, ◌+◌, ℕ, List, length}
use Rattle.subdiv_model.specs.Polygons.{polygon_at}
use Rattle.face_varying.specs.CornerPlaces.{start_of}
use Rattle.face_varying.specs.Sides.{AreNoted}
use Rattle.face_varying.proofs.CornerLemmas.{start-next}
use Rattle.face_varying.proofs.FaceRowLemmas.{edge-there, texture-there, next-there, edge-listed, noted-corner}
use Rattle.face_varying.proofs.seams.SideNumbers.note_face.Goals as goal

pub bounds-edges-c : goal.bounds-edges-c
bounds-edges-c c =
    edge-there c.args.raw.now c.args.level.now c.requires.cuttable c.args.f c.face_vertices-vertices.result.now c.face_edges-edges.result.now c.texture_corners-texture.result.now c.face_vertices-vertices.ensures c.face_edges-edges.ensures c.texture_corners-texture.ensures c.loop-c.c c.loop-c-test.true

pub bounds-texture-c : goal.bounds-texture-c
bounds-texture-c c =
    texture-there c.args.raw.now c.args.level.now c.requires.cuttable c.args.f c.face_vertices-vertices.result.now c.face_edges-edges.result.now c.texture_corners-texture.result.now c.face_vertices-vertices.ensures c.face_edges-edges.ensures c.texture_corners-texture.ensures c.loop-c.c c.loop-c-test.true

pub bounds-texture-next : goal.bounds-texture-next
bounds-texture-next c =
    next-there c.args.raw.now c.args.level.now c.requires.cuttable c.args.f c.face_vertices-vertices.result.now c.face_edges-edges.result.now c.texture_corners-texture.result.now c.face_vertices-vertices.ensures c.face_edges-edges.ensures c.texture_corners-texture.ensures c.loop-c.c c.loop-c-test.true _ c.corner_after-next.ensures.after

pub edge_vertices-requires : goal.edge_vertices-requires
edge_vertices-requires c =
    edge-listed c.args.raw.now c.args.level.now c.requires.cuttable c.args.f c.face_vertices-vertices.result.now c.face_edges-edges.result.now c.texture_corners-texture.result.now c.face_vertices-vertices.ensures c.face_edges-edges.ensures c.texture_corners-texture.ensures c.loop-c.c c.loop-c-test.true

pub note-requires-clause-along : goal.note-requires-clause-along
note-requires-clause-along c = omega (arith, edge-listed c.args.raw.now c.args.level.now c.requires.cuttable c.args.f c.face_vertices-vertices.result.now c.face_edges-edges.result.now c.texture_corners-texture.result.now c.face_vertices-vertices.ensures c.face_edges-edges.ensures c.texture_corners-texture.ensures c.loop-c.c c.loop-c-test.true, c.loop-c.invariant.along_size)

pub note-requires-clause-against : goal.note-requires-clause-against
note-requires-clause-against c = omega (arith, edge-listed c.args.raw.now c.args.level.now c.requires.cuttable c.args.f c.face_vertices-vertices.result.now c.face_edges-edges.result.now c.texture_corners-texture.result.now c.face_vertices-vertices.ensures c.face_edges-edges.ensures c.texture_corners-texture.ensures c.loop-c.c c.loop-c-test.true, c.loop-c.invariant.against_size)

pub loop-c-preserved : goal.loop-c-preserved
loop-c-preserved c =
    noted-corner c.args.raw.now c.args.level.now c.requires.cuttable c.args.f c.face_vertices-vertices.result.now c.face_edges-edges.result.now c.texture_corners-texture.result.now c.face_vertices-vertices.ensures c.face_edges-edges.ensures c.texture_corners-texture.ensures c.loop-c.c c.loop-c-test.true c.facts.ensures _ _ _ _ _ _ c.requires.face c.edge_vertices.ensures c.corner_after-next.ensures.after c.loop-c.invariant c.note.ensures.along c.note.ensures.against

pub returns : goal.returns
returns c =
    let all : c.loop-c.c ≡ length (polygon_at c.args.level.now.level.polygons c.args.f) = omega (arith, ap (λ (xs : List ℕ). length xs) c.face_vertices-vertices.ensures) in
    subst (λ (n : ℕ). AreNoted c.args.level.now.level.polygons c.args.raw.now.texture_corners c.loop-c.self.along.items c.loop-c.self.against.items n) (ap (λ (n : ℕ). start_of c.args.level.now.level.polygons c.args.f + n) all ∙ sym (start-next c.args.level.now.level.polygons c.args.f c.requires.face)) c.loop-c.invariant
