use Rattle.std.proofs.Common.{rules}
use Rattle.ratio128.proofs.primvar.Point3Primvar.add_with_weight.Goals as goal

pub plus-self-requires-clause-product : goal.plus-self-requires-clause-product
plus-self-requires-clause-product g c = let kept = c.requires.fits.0 in search (rules, kept)

pub plus-self-requires-clause-sum : goal.plus-self-requires-clause-sum
plus-self-requires-clause-sum g c = let kept = c.requires.fits.1 in search (rules, kept)

pub plus-self-requires-2-clause-product : goal.plus-self-requires-2-clause-product
plus-self-requires-2-clause-product g c = let kept = c.requires.fits.2.0 in search (rules, kept)

pub plus-self-requires-2-clause-sum : goal.plus-self-requires-2-clause-sum
plus-self-requires-2-clause-sum g c = let kept = c.requires.fits.2.1 in search (rules, kept)

pub plus-self-requires-3-clause-product : goal.plus-self-requires-3-clause-product
plus-self-requires-3-clause-product g c = let kept = c.requires.fits.2.2.0 in search (rules, kept)

pub plus-self-requires-3-clause-sum : goal.plus-self-requires-3-clause-sum
plus-self-requires-3-clause-sum g c = let kept = c.requires.fits.2.2.1 in search (rules, kept)
