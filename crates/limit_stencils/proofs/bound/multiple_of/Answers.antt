use Rattle.std.proofs.Common.{◌<◌, get_or, sym, ◌∙◌}
use Rattle.std.proofs.lemmas.List.{get_or_default}
use Rattle.std.proofs.lemmas.List.Elements.{recursion_from_All}
use Rattle.child_masks.proofs.FoldLemmas.{joined-more, joined-all}
use Rattle.child_masks.proofs.WithinLemmas.{within-kept}
use Rattle.limit_stencils.proofs.bound.multiple_of.Goals as goal

pub loop-den-preserved : goal.loop-den-preserved
loop-den-preserved c =
    let dens = c.args.dens.now in
    let i = c.loop-den.den-index in
    joined-more dens i _ _ _ (recursion_from_All (λ den. 0 < den) dens c.requires.positive) c.loop-den-test.true c.loop-den.invariant
    (get_or_default dens i 0 1 c.loop-den-test.true ∙ sym (within-kept (get_or dens i 1) (c.requires.short i 1 c.loop-den-test.true))) c.common_multiple-multiple.ensures

pub returns : goal.returns
returns c = joined-all c.args.dens.now c.loop-den.den-index _ (recursion_from_All (λ den. 0 < den) c.args.dens.now c.requires.positive) c.loop-den-test.false c.loop-den.invariant
