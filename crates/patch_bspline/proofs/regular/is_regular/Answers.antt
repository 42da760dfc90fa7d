use Rattle.std.proofs.Common.{ap, sym, ◌∙◌}
use Rattle.subdiv_model.specs.Sharpness.{is_sharp}
use Rattle.patch_bspline.proofs.RegularLemmas.{not-where-marked, not-where-sharp, regular-elsewhere}
use Rattle.patch_bspline.proofs.regular.is_regular.Goals as goal

pub returns-then-is_sharp : goal.returns-then-is_sharp
returns-then-is_sharp c =
    not-where-sharp c.args.level.now.level c.args.v (ap is_sharp (sym c.vertex_sharpness.ensures) ∙ sym c.is_sharp.ensures ∙ c.if-is_sharp.true)

pub returns-then-has_marked_edge : goal.returns-then-has_marked_edge
returns-then-has_marked_edge c = not-where-marked c.args.level.now.level c.args.v (sym c.has_marked_edge.ensures ∙ c.if-has_marked_edge.true)

pub returns : goal.returns
returns c =
    c.has_four_quads.ensures
    ∙ regular-elsewhere c.args.level.now.level c.args.v (ap is_sharp (sym c.vertex_sharpness.ensures) ∙ sym c.is_sharp.ensures ∙ c.if-is_sharp.false)
    (sym c.has_marked_edge.ensures ∙ c.if-has_marked_edge.false)
