use Rattle.child_masks.proofs.TermLemmas.{multiple-more, multiple-all}
use Rattle.child_masks.proofs.terms.multiple_of_terms.Goals as goal

pub loop-term-preserved : goal.loop-term-preserved
loop-term-preserved c denominator dens_are =
    multiple-more denominator _ _ dens_are c.args.terms.now _ _ _ _ _ c.requires c.loop-term-test.true (c.loop-term.invariant denominator dens_are) (c.denominator_at.ensures denominator dens_are) c.common_multiple-multiple.ensures

pub returns : goal.returns
returns c denominator dens_are =
    multiple-all denominator _ _ dens_are c.args.terms.now _ _ c.requires c.loop-term-test.false (c.loop-term.invariant denominator dens_are)
