use Rattle.std.proofs.lemmas.Bool.{eqb-true}
use Rattle.ratio128.proofs.OddLemmas.{odd-part-whole}
use Rattle.child_masks.proofs.WithinLemmas.{shift-divides, power-of-shift}
use Rattle.child_masks.proofs.common.is_shift.Goals as goal

pub returns-then-twos-m : goal.returns-then-twos-m
returns-then-twos-m c once =
    shift-divides _ _ _ _ c.if-twos-m.true
    (power-of-shift c.args.c _ (eqb-true _ _ once) (odd-part-whole c.args.c c.requires.c c.ranges.c.fits))
    (odd-part-whole c.args.m c.requires.m c.ranges.m.fits)
