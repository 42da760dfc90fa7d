use Rattle.std.proofs.lemmas.Bool.{eqb-true}
use Rattle.ratio128.proofs.OddLemmas.{odd-word-whole}
use Rattle.child_masks.proofs.WithinLemmas.{power-of-shift}
use Rattle.stencil_factory.proofs.weights.is_power.Goals as goal

pub returns-clause-shifted : goal.returns-clause-shifted
returns-clause-shifted c once = eqb-true _ _ once

pub returns-clause-power : goal.returns-clause-power
returns-clause-power c once =
    record { exponent = _; is = power-of-shift c.args.n _ (eqb-true _ _ once) (odd-word-whole c.args.n c.requires c.ranges.n.fits) }
