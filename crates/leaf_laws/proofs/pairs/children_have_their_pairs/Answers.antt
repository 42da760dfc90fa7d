use Rattle.leaf_laws.proofs.PairLemmas.{child-within}
use Rattle.leaf_laws.proofs.QuadPairLemmas.{quad-here, quad-there}
use Rattle.leaf_laws.proofs.pairs.children_have_their_pairs.Goals as goal

pub returns-clause-place : goal.returns-clause-place
returns-clause-place c = λ grid k s t h l is. quad-there grid k s t h l is

pub returns-clause-inside : goal.returns-clause-inside
returns-clause-inside c = λ grid k s t h l is. child-within grid k s t h l is

pub returns-clause-only : goal.returns-clause-only
returns-clause-only c = λ grid k s t at h l. quad-here grid k s t at.pair h l at.along at.across at.is
