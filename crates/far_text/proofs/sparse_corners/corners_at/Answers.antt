use Rattle.std.proofs.Common.{Some, ap, sym, ◌∙◌}
use Rattle.far_text.proofs.FaceNumberLemmas.{face-missing, face-there}
use Rattle.far_text.proofs.sparse_corners.corners_at.Goals as goal

pub returns-then-is_numbered : goal.returns-then-is_numbered
returns-then-is_numbered c =
    ap Some c.corners.ensures
    ∙ face-there c.args.texture.now c.args.number c.args.place c.requires.place (sym c.is_numbered.ensures ∙ c.if-is_numbered.true)

pub returns : goal.returns
returns c =
    face-missing c.args.texture.now c.args.number c.args.place c.requires.ascending c.requires.place (sym c.is_numbered.ensures ∙ c.if-is_numbered.false)
