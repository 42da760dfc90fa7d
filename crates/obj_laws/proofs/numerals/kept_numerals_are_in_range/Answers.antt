use Rattle.obj_laws.proofs.RangeLemmas.{kept-range}
use Rattle.obj_laws.proofs.numerals.kept_numerals_are_in_range.Goals as goal

pub returns : goal.returns
returns c = kept-range
