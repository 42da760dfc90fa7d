use Rattle.std.proofs.Common.{◌∙◌, ◌-◌, refl, arith, ◌∷◌, []}
use Rattle.sparse_level.proofs.CompleteLemmas.{marks-agree, old-vertices, face-vertices, edge-vertices, edge-known, ends-below, one-below, face-below}
use Rattle.sparse_level.proofs.complete.has_all_faces.Goals as goal

pub are_marked-requires : goal.are_marked-requires
are_marked-requires c = one-below c.args.n _ (omega (arith, c.if-n-vertices.true, c.points-vertices.ensures, c.requires.marks))

pub are_marked-requires-then-n-vertices-2 : goal.are_marked-requires-then-n-vertices-2
are_marked-requires-then-n-vertices-2 c =
    face-below c.args.level.now c.facts.ensures (c.args.n - c.points-vertices.result) _ c.face_vertices.result.now (omega (arith, c.if-n-vertices-2.true, c.faces-faces.ensures)) c.face_vertices.ensures c.requires.marks

pub edge_vertices-first-requires : goal.edge_vertices-first-requires
edge_vertices-first-requires c =
    edge-known c.args.level.now.level c.args.n c.points-vertices.result c.faces-faces.result c.points-vertices.ensures c.faces-faces.ensures c.requires.inside c.if-n-vertices.false c.if-n-vertices-2.false

pub are_marked-requires-2 : goal.are_marked-requires-2
are_marked-requires-2 c =
    ends-below c.args.level.now c.facts.ensures (c.args.n - c.points-vertices.result - c.faces-faces.result) _ c.edge_vertices-first.result
    (edge-known c.args.level.now.level c.args.n c.points-vertices.result c.faces-faces.result c.points-vertices.ensures c.faces-faces.ensures c.requires.inside c.if-n-vertices.false c.if-n-vertices-2.false)
    c.edge_vertices-first.ensures c.requires.marks

pub returns-then-n-vertices : goal.returns-then-n-vertices
returns-then-n-vertices c =
    marks-agree c.args.level.now.level c.args.on.now (c.args.n ∷ []) c.args.n c.are_marked.result c.are_marked.ensures (old-vertices c.args.level.now.level c.args.n c.points-vertices.result c.points-vertices.ensures c.if-n-vertices.true)
    (one-below c.args.n _ (omega (arith, c.if-n-vertices.true, c.points-vertices.ensures)))

pub returns-then-n-vertices-2 : goal.returns-then-n-vertices-2
returns-then-n-vertices-2 c =
    marks-agree c.args.level.now.level c.args.on.now c.face_vertices.result.now c.args.n c.are_marked-then-n-vertices-2.result c.are_marked-then-n-vertices-2.ensures
    (c.face_vertices.ensures ∙ face-vertices c.args.level.now.level c.args.n c.points-vertices.result c.faces-faces.result c.points-vertices.ensures c.faces-faces.ensures c.if-n-vertices.false c.if-n-vertices-2.true)
    (face-below c.args.level.now c.facts.ensures (c.args.n - c.points-vertices.result) _ c.face_vertices.result.now (omega (arith, c.if-n-vertices-2.true, c.faces-faces.ensures)) c.face_vertices.ensures refl)

pub returns : goal.returns
returns c =
    marks-agree c.args.level.now.level c.args.on.now (c.edge_vertices-first.result.0 ∷ c.edge_vertices-first.result.1 ∷ []) c.args.n c.are_marked-2.result c.are_marked-2.ensures
    (edge-vertices c.args.level.now.level c.args.n c.points-vertices.result c.faces-faces.result c.points-vertices.ensures c.faces-faces.ensures c.if-n-vertices.false c.if-n-vertices-2.false c.edge_vertices-first.result c.edge_vertices-first.ensures)
    (ends-below c.args.level.now c.facts.ensures (c.args.n - c.points-vertices.result - c.faces-faces.result) _ c.edge_vertices-first.result
    (edge-known c.args.level.now.level c.args.n c.points-vertices.result c.faces-faces.result c.points-vertices.ensures c.faces-faces.ensures c.requires.inside c.if-n-vertices.false c.if-n-vertices-2.false)
    c.edge_vertices-first.ensures refl)
