use Rattle.nearest_float.proofs.PartLemmas.{fraction-small, hidden-small}
use Rattle.nearest_float.proofs.parts.parts_of.Goals as goal

pub returns-then-field-eq0-clause-small : goal.returns-then-field-eq0-clause-small
returns-then-field-eq0-clause-small c = fraction-small c.args.size c.args.fraction_bits c.requires.short c.ranges.size.fits

pub returns-else-field-eq0-clause-small : goal.returns-else-field-eq0-clause-small
returns-else-field-eq0-clause-small c = hidden-small c.args.size c.args.fraction_bits c.requires.short c.ranges.size.fits
