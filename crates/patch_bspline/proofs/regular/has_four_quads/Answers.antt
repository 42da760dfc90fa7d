use Rattle.std.proofs.Common.{sym, ◌∙◌}
use Rattle.patch_bspline.proofs.RegularLemmas.{all-quads, face-exists, no-quad}
use Rattle.patch_bspline.proofs.regular.has_four_quads.Goals as goal

pub is_quad-requires : goal.is_quad-requires
is_quad-requires c = face-exists c.args.level.now c.args.v c.facts.ensures c.requires _ c.vertex_faces-faces.ensures c.loop-face.face-index c.loop-face-test.true

pub returns-then-not-is_quad : goal.returns-then-not-is_quad
returns-then-not-is_quad c =
    no-quad c.args.level.now c.args.v c.facts.ensures c.requires _ c.vertex_faces-faces.ensures c.loop-face.face-index c.loop-face-test.true
    (sym c.is_quad.ensures ∙ c.if-not-is_quad.true)

pub returns : goal.returns
returns c =
    all-quads c.args.level.now c.args.v c.facts.ensures c.requires _ c.vertex_faces-faces.ensures c.loop-face.face-index c.loop-face-test.false
    c.loop-face.invariant
